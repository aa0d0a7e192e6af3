-- The steps after the exchange of a move. The idea: each of the four leaves the context of the target in a form that
-- fulfils the condition of the next one (`left`, `replaced`, `named` of `MoveCall`). Here each call gets that condition
-- (`second`, `third`), and `after` of `MoveCall` makes one equation of the four. Another order of the steps is another
-- chain there.
use Rattle.std.proofs.Common.{◌≡◌, ℕ, ◌∙◌, ap, refl}
use Rattle.arachne_core.specs.{declared.layout.TheConstants.CORE_BITS, Marked.mark_word}
use Rattle.arachne_rule.specs.{declared.view.Carried.Carried, Layout.name_index, Views.{noted, with_context}}
use Rattle.arachne_rule.specs.declared.view.Kind.TheVariants as kind
use Rattle.arachne_words.specs.{Moves.free_at, Steps.IsClaimed}
use Rattle.arachne_words.proofs.MoveCall.{left, replaced, named, left-claimed-1, replaced-claimed, named-carried, source-claim, after}
use Rattle.arachne_words.proofs.table.WordContexts.move_off.Goals.{After-name_target, After-replace, After-name_source}
use Rattle.arachne_words.proofs.table.WordContexts.move_off.Given as given
use Rattle.arachne_words.proofs.table.WordContexts.move_off.Goals as goal

left-claimed : (g : given.Over) (c : goal.After-name_target g)
    → IsClaimed c.args.self.now c.name_target.new.seat.known (left c.args.self.now c.args.moving c.args.replaced c.args.free.generation c.args.source c.args.target c.requires.contexts.1)
left-claimed g c = left-claimed-1 c.args.self.now c.args.moving c.args.replaced c.args.free.generation c.args.source c.args.target c.requires.contexts.1 c.args.seat.now c.name_target.new.seat c.requires.left c.name_target.result c.name_target.ensures

second : (g : given.Over) (c : goal.After-replace g) → (before : ℕ) × (c.replace.new.seat ≡ record c.name_target.new.seat {
  known = noted kind.Replace c.args.replaced before (mark_word CORE_BITS (free_at c.args.source c.args.free.generation))
      (with_context c.name_target.new.seat.known (replaced c.args.self.now c.args.moving c.args.replaced c.args.free.generation c.args.source c.args.target c.requires.contexts.1));
})
second g c =
    let b : Carried = replaced c.args.self.now c.args.moving c.args.replaced c.args.free.generation c.args.source c.args.target c.requires.contexts.1 in
    let told = c.replace.ensures (left c.args.self.now c.args.moving c.args.replaced c.args.free.generation c.args.source c.args.target c.requires.contexts.1) (left-claimed g (goal.at.After-replace g c).After-name_target) refl in
    (told.0, told.1 ∙ ap (λ (w : ℕ). record c.name_target.new.seat { known = noted kind.Replace c.args.replaced told.0 w (with_context c.name_target.new.seat.known b) }) (ap (mark_word CORE_BITS) c.requires.free))

is-replaced : (g : given.Over) (c : goal.After-replace g)
    → IsClaimed c.args.self.now c.replace.new.seat.known (replaced c.args.self.now c.args.moving c.args.replaced c.args.free.generation c.args.source c.args.target c.requires.contexts.1)
is-replaced g c =
    let told = second g c in
    replaced-claimed c.args.self.now c.args.moving c.args.replaced c.args.free.generation c.args.source c.args.target c.requires.contexts.1 c.name_target.new.seat c.replace.new.seat told.0 told.1

third : (g : given.Over) (c : goal.After-name_source g) → (before : ℕ) × (c.name_source.new.seat ≡ record c.replace.new.seat {
  known = noted kind.NameSource (name_index c.args.self.now.table.slots c.args.source) before c.args.replaced
      (with_context c.replace.new.seat.known (named c.args.self.now c.args.moving c.args.replaced c.args.free.generation c.args.source c.args.target c.requires.contexts.1));
})
third g c =
    c.name_source.ensures (replaced c.args.self.now c.args.moving c.args.replaced c.args.free.generation c.args.source c.args.target c.requires.contexts.1) (is-replaced g (goal.at.After-name_source g c).After-replace) refl

pub name_target-requires-clause-claimed : goal.name_target-requires-clause-claimed
name_target-requires-clause-claimed g c =
    (left c.args.self.now c.args.moving c.args.replaced c.args.free.generation c.args.source c.args.target c.requires.contexts.1, record { inside = c.requires.contexts.1; carried = c.requires.left; claimed = refl }, refl, refl)

pub replace-requires-clause-claimed : goal.replace-requires-clause-claimed
replace-requires-clause-claimed g c =
    (left c.args.self.now c.args.moving c.args.replaced c.args.free.generation c.args.source c.args.target c.requires.contexts.1, left-claimed g (goal.at.replace-requires-clause-claimed g c).After-name_target, refl, c.requires.free)

pub name_source-requires-clause-own : goal.name_source-requires-clause-own
name_source-requires-clause-own g c = ap (λ v. v.table) (second g (goal.at.name_source-requires-clause-own g c).After-replace).1 ∙ ap (λ v. v.table) c.name_target.ensures ∙ c.requires.own

pub name_source-requires-clause-claimed : goal.name_source-requires-clause-claimed
name_source-requires-clause-claimed g c =
    (replaced c.args.self.now c.args.moving c.args.replaced c.args.free.generation c.args.source c.args.target c.requires.contexts.1, is-replaced g (goal.at.name_source-requires-clause-claimed g c).After-replace, refl, refl, refl)

pub release-requires-clause-own : goal.release-requires-clause-own
release-requires-clause-own g c =
    let at = goal.at.release-requires-clause-own g c in
    ap (λ v. v.table) (third g at.After-name_source).1 ∙ ap (λ v. v.table) (second g at.After-replace).1 ∙ ap (λ v. v.table) c.name_target.ensures ∙ c.requires.own

pub release-requires-clause-claim : goal.release-requires-clause-claim
release-requires-clause-claim g c =
    let told = third g (goal.at.release-requires-clause-claim g c).After-name_source in
    source-claim c.args.self.now c.args.moving c.args.replaced c.args.free.generation c.args.source c.args.target c.requires.contexts.1 c.replace.new.seat c.name_source.new.seat told.0 told.1 c.requires.places.1

pub returns : goal.returns
returns g c =
    let at = goal.at.returns g c in
    let b = second g at.After-replace in
    let d = third g at.After-name_source in
    let last = c.release.ensures c.args.replaced c.args.free.generation c.requires.contexts.1 (named-carried c.args.self.now c.args.moving c.args.replaced c.args.free.generation c.args.source c.args.target c.requires.contexts.1 c.replace.new.seat c.name_source.new.seat d.0 d.1) in
    (c.name_target.result, b.0, d.0, last.0, after c.args.self.now c.args.moving c.args.replaced c.args.free.generation c.args.source c.args.target c.requires.contexts.1 c.args.seat.now c.name_target.new.seat c.replace.new.seat c.name_source.new.seat c.release.new.seat c.name_target.result b.0 d.0 last.0 c.name_target.ensures b.1 d.1 last.1)
