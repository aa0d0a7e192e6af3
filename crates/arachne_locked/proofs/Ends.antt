-- The end of a thread: Retire, and then Release unless the context is spent.
use Rattle.std.proofs.Common.{◌≡◌, ℕ, Bool, true, false, inl, inr, [], ◌∷◌, sym, ap, ◌∙◌, subst, Ok, Err, arith, nat_lt, if◌then◌else◌}
use Rattle.std.proofs.lemmas.Bool.{cases_Bool}
use Rattle.arachne_core.specs.declared.state.State.{State, TheVariants.{Free, Claimed, Spent}}
use Rattle.arachne_core.specs.{declared.event.NotApplied.NotApplied, ContextTable.{ContextTable, Answers, world_of}}
use Rattle.arachne_core.specs.World.{World, IsContext, HoldsIn, HasClaimed, Allowed, after}
use Rattle.arachne_core.proofs.Changes.{with_at-same, with_at-other}
use Rattle.arachne_core.specs.declared.event.Event.TheVariants as event
use Rattle.arachne_core.specs.declared.event.NotApplied.TheVariants as refusal
use Rattle.arachne_locked.specs.{Room.{may_post, may_end, HasRoom}, Calls.{Takes, ends}}
use Rattle.arachne_locked.proofs.Room.{set_room, end_pays, retire_has_room}

abbrev IsClaimed : State → Type 0
IsClaimed (Claimed h) = Unit {0}
IsClaimed _ = ⊥

-- a retire of a held thread is applied
pub retire_made : (old new : ContextTable) (h x : ℕ) (r : NotApplied) → HasRoom old → HoldsIn (world_of old) h x → Answers (event.Retire h x) old new (Err r) → ⊥
retire_made old new h x refusal.NotAllowed room held a = a.0 held
retire_made old new h x refusal.Memory room held a = retire_has_room old h x room held a.1

-- a release of a claimed place is applied
pub release_made : (old new : ContextTable) (h x : ℕ) (r : NotApplied) → HasClaimed (world_of old) h x → Answers (event.Release h x) old new (Err r) → ⊥
release_made old new h x refusal.NotAllowed held a = a.0 held
release_made old new h x refusal.Memory held a = a.1

module _ (old mid : ContextTable) (h x : ℕ) (made : Answers (event.Retire h x) old mid (Ok tt)) where
  retired : (world_of mid).state x ≡ (if nat_lt ((world_of old).generation x) (world_of old).last then Claimed h else Spent)
  retired = ap (λ (z : World). z.state x) made.1 ∙ with_at-same (world_of old).state x (if nat_lt ((world_of old).generation x) (world_of old).last then Claimed h else Spent)

  claimed_if : nat_lt ((world_of old).generation x) (world_of old).last ≡ true → (world_of mid).state x ≡ Claimed h
  claimed_if t = retired ∙ ap (λ (b : Bool). if b then Claimed h else Spent) t

  spent_if : nat_lt ((world_of old).generation x) (world_of old).last ≡ false → (world_of mid).state x ≡ Spent
  spent_if f = retired ∙ ap (λ (b : Bool). if b then Claimed h else Spent) f

  -- the context is spent

  pub spent_ends : (world_of mid).state x ≡ Spent → Takes (world_of old) (ends (world_of old) h x) (world_of mid)
  spent_ends s = elim (cases_Bool (nat_lt ((world_of old).generation x) (world_of old).last)) [
    | inl t ↦ absurd (subst IsClaimed (sym (claimed_if t) ∙ s) tt)
    | inr f ↦
        subst (λ (b : Bool). Takes (world_of old) (if b then event.Retire h x ∷ event.Release h x ∷ [] else event.Retire h x ∷ []) (world_of mid)) (sym f)
        (record { allowed = (made.0, tt); made = made.1 })
  ]

  pub spent_room : HasRoom old → (world_of mid).state x ≡ Spent → HasRoom mid
  spent_room room s =
      let pays = end_pays h ((world_of old).state x) ((world_of mid).state x) made.0.held (ap may_end s) (ap may_post s) in
      set_room old mid x 0 1 room (ap (λ (z : World). z.cores) made.1) (ap (λ (z : World). z.slots) made.1)
      (λ y n. ap (λ (z : World). z.state y) made.1 ∙ with_at-other (world_of old).state x (if nat_lt ((world_of old).generation x) (world_of old).last then Claimed h else Spent) y n)
      made.0.context made.2 made.3 pays.0 pays.1

  -- the context gets its next generation

  pub goes_on : ((world_of mid).state x ≡ Spent → ⊥) → nat_lt ((world_of old).generation x) (world_of old).last ≡ true
  goes_on n = elim (cases_Bool (nat_lt ((world_of old).generation x) (world_of old).last)) [
    | inl t ↦ t
    | inr f ↦ absurd (n (spent_if f))
  ]

  pub may_release : ((world_of mid).state x ≡ Spent → ⊥) → HasClaimed (world_of mid) h x
  may_release n = record { context = subst (λ (z : World). IsContext z x) (sym made.1) made.0.context; claimed = claimed_if (goes_on n) }

  module _ (new : ContextTable) (freed : Answers (event.Release h x) mid new (Ok tt)) where
    pub release_ends : ((world_of mid).state x ≡ Spent → ⊥) → Takes (world_of old) (ends (world_of old) h x) (world_of new)
    release_ends n =
        subst (λ (b : Bool). Takes (world_of old) (if b then event.Retire h x ∷ event.Release h x ∷ [] else event.Retire h x ∷ []) (world_of new)) (sym (goes_on n))
        (record {
          allowed = (made.0, (subst (λ (z : World). Allowed z (event.Release h x)) made.1 freed.0, tt));
          made = freed.1 ∙ ap (λ (z : World). after z (event.Release h x)) made.1;
        })

    pub release_room : HasRoom old → HasRoom new
    release_room room =
        let free : (world_of new).state x ≡ Free = ap (λ (z : World). z.state x) freed.1 ∙ with_at-same (world_of mid).state x Free in
        let pays = end_pays h ((world_of old).state x) ((world_of new).state x) made.0.held (ap may_end free) (ap may_post free) in
        let p = made.2 in
        let q = freed.2 in
        let r = made.3 in
        let s = freed.3 in
        set_room old new x 0 1 room (ap (λ (z : World). z.cores) freed.1 ∙ ap (λ (z : World). z.cores) made.1) (ap (λ (z : World). z.slots) freed.1 ∙ ap (λ (z : World). z.slots) made.1)
        (λ y n.
        ap (λ (z : World). z.state y) freed.1 ∙ with_at-other (world_of mid).state x Free y n ∙ ap (λ (z : World). z.state y) made.1
        ∙ with_at-other (world_of old).state x (if nat_lt ((world_of old).generation x) (world_of old).last then Claimed h else Spent) y n)
        made.0.context (omega (arith, p, q)) (omega (arith, r, s)) pays.0 pays.1
