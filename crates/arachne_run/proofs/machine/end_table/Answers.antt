-- A table in which threads are left was closed with one of them at least.
use Rattle.std.proofs.Common.{◌≡◌, ℕ, List, [], ◌∷◌, length, map, vec_len, refl, ap, sym, ◌∙◌, arith}
use Rattle.std.proofs.lemmas.Bool.{eqb-false}
use Rattle.arachne_core.specs.declared.thread_id.ThreadId.{ThreadId}
use Rattle.arachne_run.specs.Tokens.{IsAnyLeft}
use Rattle.arachne_run.proofs.machine.end_table.Goals as goal

-- of a list that isn't empty there is a first one
any-left : {X Thread : Type 0} (shown : X → Thread) (settles : List Thread → Type 0) (items : List X) → (items ≡ [] → ⊥)
    → settles (map shown items) → IsAnyLeft settles
any-left shown settles [] some settled = absurd (some refl)
any-left shown settles (x ∷ xs) some settled = (shown x, map shown xs, settled)

pub returns-clause-left : goal.returns-clause-left
returns-clause-left g c = λ _.
    let some : c.in-Ok.rest.items ≡ [] → ⊥ =
    λ e. eqb-false (vec_len c.in-Ok.rest) 0 (sym c.is_empty.ensures ∙ c.if-is_empty.false) (omega (arith, ap length e, c.in-Ok.rest.ok.0)) in
    any-left {Thread = ThreadId × ℕ} (λ x. (x.0, g.T.Tagged.tag_of x.1)) (g.C.Contexts.settles c.args.table c.args.seat) c.in-Ok.rest.items some c.in-Ok.ensures.settled
