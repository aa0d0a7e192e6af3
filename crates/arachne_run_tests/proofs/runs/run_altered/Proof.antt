use Rattle.std.proofs.Common.{refl}
use contract.BorrowLft.{⊑_static}
use denote.Param.Send.{sendable}
use Rattle.std.proofs.Crossing as std
use Rattle.arachne_locked.proofs.seat.LockedSeat.TheSendSync as seat
use Rattle.arachne_locked.proofs.tokens.LockedClaim.TheSendSync as claim
use Rattle.arachne_locked.proofs.tokens.LockedHold.TheSendSync as hold
use Rattle.arachne_run_tests.proofs.altered.Altered.TheSendSync as altered
use Rattle.arachne_run_tests.proofs.altered.Altered.TheLaws as altered_laws
use Rattle.arachne_run_tests.proofs.runs.run_altered.Statement.{statement}
use Rattle.arachne_run_tests.proofs.runs.run_altered.Tie as tie

-- What is lent to the run outlives it; what it sends to its kernel threads and shares with them may cross; the program
-- is checked. It is by hand, since the module of the function's goals, which an Answers.antt needs, takes more steps than
-- the prover allows.
pub run_altered_spec : {M : Type 1} → statement M
run_altered_spec = tie.close (λ row1 row2 row3 row4 row5 row6 row7 laws1 laws2 laws3 laws4 laws5 laws6 laws7 P H-Threads H-Threads-dict H-Wait H-Wait-dict H-Clock H-Clock-dict T-JobOf T-JobOf-dict T-RunJob T-RunJob-dict T-RunThread T-RunThread-dict T-Tagged T-Tagged-dict T-Ticket-RunTicket T-Ticket-RunTicket-dict T-Ticket-Tagged T-Ticket-Tagged-dict T-Spares-RunSpares T-Spares-RunSpares-dict R-Rng R-Rng-dict G-Gate G-Gate-dict T-Destruct-dict R-Destruct-dict T-Child-Destruct-dict T-Ticket-Destruct-dict T-Spares-Destruct-dict world b1 b2 b3 b4 b5 b6 b7 b8 b9 b10 b11 b12 b13 b14 b15 b16 b17.
    tie.spec row1 row2 row3 row4 row5 row6 row7 laws1 laws2 laws3 laws4 laws5 laws6 laws7 P H-Threads H-Threads-dict H-Wait H-Wait-dict H-Clock H-Clock-dict T-JobOf T-JobOf-dict T-RunJob T-RunJob-dict T-RunThread T-RunThread-dict T-Tagged T-Tagged-dict T-Ticket-RunTicket T-Ticket-RunTicket-dict T-Ticket-Tagged T-Ticket-Tagged-dict T-Spares-RunSpares T-Spares-RunSpares-dict R-Rng R-Rng-dict G-Gate G-Gate-dict T-Destruct-dict R-Destruct-dict T-Child-Destruct-dict T-Ticket-Destruct-dict T-Spares-Destruct-dict
    (λ c κs within. (
      (within.0, tt),
      (
        within.1.0,
        (
          within.1.1.0,
          (
            altered_laws.the_within row2 T-Tagged _ within.1.1.1.0,
            (
              within.1.1.1.1.0,
              (
                within.1.1.1.1.1.0,
                (
                  within.1.1.1.1.1.1.0,
                  (
                    within.1.1.1.1.1.1.1.0,
                    (
                      within.1.1.1.1.1.1.1.1,
                      (
                        ⊑_static _,
                        (
                          ⊑_static _,
                          (
                            ⊑_static _,
                            (
                              search (sendable, c.requires.1.1.1.1.1.1.1.0) depth 20,
                              (
                                search (sendable, c.requires.1.1.1.1.1.1.1.1.0) depth 20,
                                (
                                  search (sendable, c.requires.1.1.1.1.1.1.1.1.1.0) depth 20,
                                  (
                                    search (sendable, c.requires.1.1.1.1.1.1.1.1.1.1.0) depth 20,
                                    (
                                      search (sendable, c.requires.1.1.1.1.1.1.1.1.1.1.1.0) depth 20,
                                      (
                                        search (sendable, claim.the_send) depth 20,
                                        (
                                          search (sendable, hold.the_send) depth 20,
                                          (
                                            search (sendable, seat.the_send) depth 20,
                                            (
                                              search (sendable, c.requires.1.1.1.1.1.1.1.1.1.1.1.1.0) depth 20,
                                              (
                                                search (sendable, std.crosses, altered.the_sync, c.requires.1.1.1.1.1.1.1.0) depth 20,
                                                (
                                                  search (sendable, c.requires.1.1.1.1.1.1.1.1.1.1.1.1.1.0) depth 20,
                                                  ((refl, tt), c.requires.1.1.1.1.1.1.1.1.1.1.1.1.1.1.1),
                                                ),
                                              ),
                                            ),
                                          ),
                                        ),
                                      ),
                                    ),
                                  ),
                                ),
                              ),
                            ),
                          ),
                        ),
                      ),
                    ),
                  ),
                ),
              ),
            ),
          ),
        ),
      ),
    ))
    (λ c. tt))
