use Rattle.std.proofs.{Common.{ℕ, ◌+◌, ◌∙◌, sym, subst, ap, refl, [], ◌∷◌}, lemmas.List.length_push}
use Rattle.std.proofs.lemmas.List.Elements.{All-nil, All-cons, All-append}
use Rattle.arachne_lock.specs.{State.IsLeftBy, Views.Guarded, Rule.AreFirstSlots}
use Rattle.arachne_lock.proofs.GoingOn.{nothing-yet}
use Rattle.arachne_lock.proofs.locks.first_slots.Goals as goal

abbrev IsNew : Guarded → Type 0
IsNew g = IsLeftBy [] g.lock

pub loop-init : goal.loop-init
loop-init c = subst (AreFirstSlots 0) (sym c.in_ok-slots.ensures.items) (refl, All-nil IsNew)

pub loop-preserved : goal.loop-preserved
loop-preserved c = subst (AreFirstSlots (c.loop.counter + 1)) (sym c.in_ok-push.ensures.items) (
  length_push c.loop.slots.items c.new.result ∙ ap (λ (n : ℕ). n + 1) c.loop.invariant.0,
  All-append IsNew c.loop.slots.items (c.new.result ∷ []) c.loop.invariant.1
      (All-cons IsNew c.new.result [] (subst (IsLeftBy []) (sym c.new.ensures) nothing-yet.1) (All-nil IsNew)),
)
