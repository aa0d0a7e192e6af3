use Rattle.std.proofs.Common.{◌≡◌, ℕ, ◌∙◌, ap, sym, arith}
use Rattle.arachne_exec.specs.declared.view.Notes.{Notes}
use Rattle.arachne_exec.proofs.Allowed.{join-allowed}
use Rattle.arachne_exec.proofs.executor.Executor.take_in.Goals as goal

pub join_seat-requires : goal.join_seat-requires
join_seat-requires c =
    let home = sym (ap (λ v. v.table) c.self.view_is) in let known = ap (λ v. v.known) c.other.view_is in
    let field = λ (f : Notes → ℕ) (e : f c.args.other.known ≡ 0). ap f known ∙ e in (
      ap (λ v. v.table) c.seat.view_is ∙ c.requires.own.0 ∙ home,
      ap (λ v. v.table) c.other.view_is ∙ c.requires.own.1 ∙ home,
      ap (λ v. v.slots) c.other.view_is ∙ c.requires.nothing.0,
      omega (arith, c.self.invariant.words),
      join-allowed _ _ _ c.seat.inside.seat.me c.other.inside.seat.me c.seat.invariant c.other.invariant (
        ap (λ (k : Notes). k.hand) known ∙ c.requires.nothing.1,
        field (λ k. k.worker) c.requires.nothing.2,
        field (λ k. k.unspawned) c.requires.nothing.3,
        field (λ k. k.unshown) c.requires.nothing.4,
        field (λ k. k.owes) c.requires.nothing.5,
      ),
    )
