use Rattle.std.proofs.Common.{refl}
use contract.BorrowLft.{⊑_static}
use denote.{Param.Send.{sendable, IsSend, param_send, arg_send}, RattleType.RattleType, Exit.no}
use denote.Param.{param}
use Rattle.std.proofs.Crossing as std
use Rattle.arachne_words.proofs.table.WordContexts.TheSendSync as words
use Rattle.arachne_words.proofs.seat.WordSeat.TheSendSync as seat
use Rattle.arachne_words.proofs.seat.WordClaim.TheSendSync as claim
use Rattle.arachne_words.proofs.seat.WordHold.TheSendSync as hold
use Rattle.arachne_words.proofs.table.WordContexts.TheLaws as words_laws
use Rattle.arachne_words.proofs.seat.WordSeat.TheLaws as seat_laws
use Rattle.arachne_words.specs.contracts.seat.WordSeat as seat_row
use Rattle.arachne_run.proofs.running.run_on_words.Statement.{statement}
use Rattle.arachne_run.proofs.running.run_on_words.Tie as tie

seat_send : (T : RattleType) → IsSend T → IsSend (seat_row.the_row T)
seat_send T send = search (sendable, seat.the_send, send) depth 20

-- What is lent to the run outlives it; what it sends to its kernel threads and shares with them may cross; the program
-- is checked. It is by hand, since the module of the function's goals, which an Answers.antt needs, takes more steps than
-- the prover allows.
pub run_on_words_spec : {M : Type 1} → statement M
run_on_words_spec = tie.close (λ row1 row2 row3 row4 row5 row6 row7 laws1 laws2 laws3 laws4 laws5 laws6 laws7 P H-Threads H-Threads-dict H-Wait H-Wait-dict H-Clock H-Clock-dict T-JobOf T-JobOf-dict T-RunJob T-RunJob-dict T-RunThread T-RunThread-dict T-Tagged T-Tagged-dict T-Ticket-RunTicket T-Ticket-RunTicket-dict T-Ticket-Tagged T-Ticket-Tagged-dict T-Spares-RunSpares T-Spares-RunSpares-dict R-Rng R-Rng-dict G-Gate G-Gate-dict T-Destruct-dict R-Destruct-dict T-Child-Destruct-dict T-Ticket-Destruct-dict T-Spares-Destruct-dict world b1 b2 b3 b4 b5 b6 b7 b8 b9 b10 b11 b12 b13 b14 b15 b16 b17.
    tie.spec row1 row2 row3 row4 row5 row6 row7 laws1 laws2 laws3 laws4 laws5 laws6 laws7 P H-Threads H-Threads-dict H-Wait H-Wait-dict H-Clock H-Clock-dict T-JobOf T-JobOf-dict T-RunJob T-RunJob-dict T-RunThread T-RunThread-dict T-Tagged T-Tagged-dict T-Ticket-RunTicket T-Ticket-RunTicket-dict T-Ticket-Tagged T-Ticket-Tagged-dict T-Spares-RunSpares T-Spares-RunSpares-dict R-Rng R-Rng-dict G-Gate G-Gate-dict T-Destruct-dict R-Destruct-dict T-Child-Destruct-dict T-Ticket-Destruct-dict T-Spares-Destruct-dict
    (λ c κs within. (
      (within.0, tt),
      (
        within.1.0,
        (
          within.1.1.0,
          (
            words_laws.the_within row2 T-Tagged _ within.1.1.1.0,
            (
              within.1.1.1.1.0,
              (
                within.1.1.1.1.1.0,
                (
                  within.1.1.1.1.1.1.0,
                  (
                    within.1.1.1.1.1.1.1.0,
                    (
                      within.1.1.1.1.1.1.1.1.0,
                      (
                        ⊑_static _,
                        (
                          ⊑_static _,
                          (
                            seat_laws.the_within row2 _ within.1.1.1.1.1.1.1.1.1,
                            (
                              search (sendable, c.requires.1.1.1.1.1.1.1.0) depth 20,
                              (
                                search (sendable, c.requires.1.1.1.1.1.1.1.1.0) depth 20,
                                (
                                  search (sendable, c.requires.1.1.1.1.1.1.1.1.1.0) depth 20,
                                  (
                                    search (sendable, c.requires.1.1.1.1.1.1.1.1.1.1.0) depth 20,
                                    (
                                      search (sendable, c.requires.1.1.1.1.1.1.1.1.1.1.1.0) depth 20,
                                      (
                                        search (sendable, claim.the_send) depth 20,
                                        (
                                          search (sendable, hold.the_send) depth 20,
                                          (
                                            param_send _ _ (arg_send _ no _ (seat_send (param 1 row2) c.requires.1.1.1.1.1.1.1.0)),
                                            (
                                              search (sendable, c.requires.1.1.1.1.1.1.1.1.1.1.1.1.0) depth 20,
                                              (
                                                search (sendable, std.crosses, words.the_sync, c.requires.1.1.1.1.1.1.1.0) depth 20,
                                                (
                                                  search (sendable, c.requires.1.1.1.1.1.1.1.1.1.1.1.1.1.0) depth 20,
                                                  ((refl, tt), c.requires.1.1.1.1.1.1.1.1.1.1.1.1.1.1.1),
                                                ),
                                              ),
                                            ),
                                          ),
                                        ),
                                      ),
                                    ),
                                  ),
                                ),
                              ),
                            ),
                          ),
                        ),
                      ),
                    ),
                  ),
                ),
              ),
            ),
          ),
        ),
      ),
    ))
    (λ c. c.run.ensures))
