use Rattle.std.proofs.Common.{◌≡◌, inl, inr, refl, sym, ap, ◌∙◌, subst, rules}
use Rattle.arachne_core.specs.{Occupancy.Occupancy, ContextTable.{ShowsCore, world_of}}
use Rattle.arachne_locked.proofs.Words.{in_use}
use Rattle.arachne_locked.proofs.state.TableState.claim_alone.Goals.{then-is_exclusive-via-then-is_exclusive, then-is_exclusive-via-else-is_exclusive+then-not-is_empty}
use Rattle.arachne_locked.proofs.state.TableState.claim_alone.Goals as goal

pub returns-then-is_exclusive-clause-answer : goal.returns-then-is_exclusive-clause-answer
returns-then-is_exclusive-clause-answer g c =
    let reads = c.word-then-is_exclusive.ensures.read.1 in
    let not_empty : c.word-then-is_exclusive.result ≡ 0 → ⊥ = elim c.then-is_exclusive.branch [
      | then-is_exclusive-via-then-is_exclusive w ↦ in_use c.in-Some.occ c.word-then-is_exclusive.result reads (inl (sym c.is_exclusive.ensures ∙ w.if-is_exclusive.true))
      | then-is_exclusive-via-else-is_exclusive+then-not-is_empty w ↦
          in_use c.in-Some.occ c.word-then-is_exclusive.result reads (inr (λ each. absurd (let e = w.is_empty.ensures.1 each in let n = w.if-not-is_empty.true in search rules)))
    ] in (
      record { same = refl; shows = λ h. subst (ShowsCore (world_of c.args.self.now.table) c.args.core) (sym reads) c.in-Some.ensures.some.1 },
      (ap (λ (o : Occupancy). o.closed) reads ∙ sym c.is_closed.ensures ∙ c.if-is_closed.false, not_empty),
    )
