-- The claims and threads that are out with a seat: it has claimed or taken them, and has not spent them yet.
use Rattle.std.specs.Prelude.{ℕ, List, ◌∷◌, Result, Ok, Err}
use Rattle.arachne_contexts.specs.declared.answers.{Claimed.Claimed, Taken.Taken}
use Rattle.arachne_contexts.specs.declared.answers.Claimed.TheVariants as claimed
use Rattle.arachne_contexts.specs.declared.answers.Taken.TheVariants as taken

-- a claim, or a thread by its handle and its tag
pub data Out (C H : Type 0) : Type 0 where
  Claim : C → Out C H
  Thread : H → ℕ → Out C H

module _ {C H : Type 0} where
  -- the list with one more claim, if the call got one
  abbrev pub with_claim : {E : Type 0} → Result (Claimed C) E → List (Out C H) → List (Out C H)
  with_claim (Ok (claimed.Place claim)) outs = Claim claim ∷ outs
  with_claim (Ok (claimed.Full word)) outs = outs
  with_claim (Ok (claimed.Closed word)) outs = outs
  with_claim (Ok (claimed.Lost word)) outs = outs
  with_claim (Err error) outs = outs

  -- the list with one more thread, if the call got one
  abbrev pub with_thread : {T : Type 0} → (T → ℕ) → Taken T H → List (Out C H) → List (Out C H)
  with_thread tag (taken.Run held) outs = Thread held.hold (tag held.value) ∷ outs
  with_thread tag (taken.NotReady word) outs = outs
  with_thread tag (taken.Lost word) outs = outs

  -- the list without this claim or thread, unless the call handed it back
  abbrev pub without : {A E : Type 0} → Out C H → Result A E → List (Out C H) → List (Out C H)
  without out (Ok done) outs = outs
  without out (Err back) outs = out ∷ outs

-- The effect of a call on what is out with a seat. The relation `has` says which claims and threads are out.
module _ {Seat C H : Type 0} (has : Seat → List (Out C H) → Type 0) where
  -- this claim or thread is out with the seat, and there may be others
  abbrev pub HasOut : Out C H → Seat → Type 0
  HasOut out seat = (outs : List (Out C H)) × has seat (out ∷ outs)

  -- all that was out is still out
  abbrev pub KeepsOut : Seat → Seat → Type 0
  KeepsOut old new = (outs : List (Out C H)) → has old outs → has new outs

  -- one more claim is out, if the call got one
  abbrev pub GetsClaim : {E : Type 0} → Seat → Seat → Result (Claimed C) E → Type 0
  GetsClaim old new answer = (outs : List (Out C H)) → has old outs → has new (with_claim answer outs)

  -- one more thread is out, if the call got one
  abbrev pub GetsThread : {T : Type 0} → (T → ℕ) → Seat → Seat → Taken T H → Type 0
  GetsThread tag old new answer = (outs : List (Out C H)) → has old outs → has new (with_thread tag answer outs)

  -- this claim or thread is no longer out, unless the call handed it back
  abbrev pub Spends : {A E : Type 0} → Out C H → Seat → Seat → Result A E → Type 0
  Spends out old new answer = (outs : List (Out C H)) → has old (out ∷ outs) → has new (without out answer outs)
