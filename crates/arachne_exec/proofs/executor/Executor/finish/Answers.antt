use Rattle.std.proofs.Common.{◌≡◌, ℕ, ◌+◌, ◌*◌, ◌/◌, ◌%◌, ◌∙◌, inl, inr, [], ◌∷◌, ap, refl, arith}
use Rattle.arachne_exec.specs.{declared.view.Notes.Notes, Layout.mark_at}
use Rattle.arachne_exec.specs.Changes.{freeing, noted, blocking, ending, hearing}
use Rattle.arachne_exec.proofs.Chains.{ended}
use Rattle.arachne_exec.proofs.executor.Executor.finish.Goals.{After-lay-generation}
use Rattle.arachne_exec.proofs.executor.Executor.finish.Goals as goal

-- the mark was found
saw : (c : goal.After-lay-generation) → c.lay-generation.new.seat.known ≡ noted (mark_at c.args.place) c.look-mark.result c.args.seat.now.known
saw c = ap (λ v. v.known) c.lay-generation.ensures.seat ∙ ap (λ v. v.known) c.look-mark.ensures.seat ∙ (λ i. noted (c.mark_word.ensures i) c.look-mark.result (ap (λ v. v.known) c.seat.view_is i))

pub retire-requires-clause-last : goal.retire-requires-clause-last
retire-requires-clause-last c = (c.look-mark.result, c.args.seat.now.known, saw (goal.at.retire-requires-clause-last c).After-lay-generation, omega (arith, c.if-generation-ge-LAST_GENERATION.true))

pub renew-requires-clause-generation : goal.renew-requires-clause-generation
renew-requires-clause-generation c = (
  omega (arith, c.if-generation-ge-LAST_GENERATION.false),
  (c.look-mark.result, c.args.seat.now.known, saw (goal.at.renew-requires-clause-generation c).After-lay-generation, refl),
)

pub returns-then-generation-ge-LAST_GENERATION-clause-ended : goal.returns-then-generation-ge-LAST_GENERATION-clause-ended
returns-then-generation-ge-LAST_GENERATION-clause-ended c =
    let place : ℕ = c.args.place in let mark : ℕ = c.look-mark.result in let k : Notes = c.args.seat.now.known in
    let found = saw (goal.at.returns-then-generation-ge-LAST_GENERATION-clause-ended c).After-lay-generation in let gone = c.retire.ensures.seat in
    ended place mark gone.0 [] (place ∷ k.blocked) k.freed k c.retire.new.seat.known
    (ap (λ v. v.known) gone.1 ∙ ap (λ z. blocking (ending place (hearing (gone.0 % 2) place z))) found)
    (inr (omega (arith, c.if-generation-ge-LAST_GENERATION.true), refl, refl, refl))

pub returns-clause-ended : goal.returns-clause-ended
returns-clause-ended c =
    let place : ℕ = c.args.place in let mark : ℕ = c.look-mark.result in let k : Notes = c.args.seat.now.known in
    let found = saw (goal.at.returns-clause-ended c).After-lay-generation in let new = c.renew.ensures.seat in
    ended place mark new.0 ((mark_at place, 4 * (mark / 4 + 1)) ∷ []) k.blocked (place ∷ k.freed) k c.put_free.new.seat.known
    (ap (λ v. v.known) c.put_free.ensures.seat ∙ ap (λ v. freeing v.known) new.1 ∙ ap (λ z. freeing (noted (mark_at place) (4 * (mark / 4 + 1)) (ending place (hearing (new.0 % 2) place z)))) found)
    (inl (omega (arith, c.if-generation-ge-LAST_GENERATION.false), refl, refl, refl))
