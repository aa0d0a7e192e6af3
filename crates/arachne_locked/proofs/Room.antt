-- Each event leaves memory reserved for the posts and retires that may come.
use Rattle.std.proofs.Common.{◌≡◌, ℕ, ◌+◌, ◌*◌, ◌≤◌, true, false, refl, sym, ap, ◌∙◌, subst, arith, Result, Ok, Err, Option, Some, None, OnOk, OnErr, IfSome, IfNone}
use Rattle.arachne_core.proofs.Changes.{with_at-same, with_at-other}
use Rattle.arachne_core.specs.{ContextTable.{ContextTable, Answers, world_of}, Occupancy.bit}
use Rattle.arachne_core.specs.World.{World, IsContext, IsReady, IsHeldBy, CanBeWoken, HoldsIn, HasClaimed, after, with_at, taken, put_back, woken}
use Rattle.arachne_core.specs.declared.{event.{Event.Event, NotApplied.NotApplied}, state.{Rest.Rest, State.State}}
use Rattle.arachne_core.specs.declared.state.State.TheVariants.{Free, Ready, Blocked, Held}
use Rattle.arachne_core.specs.declared.state.Rest.TheVariants as rest
use Rattle.arachne_core.specs.declared.event.Event.TheVariants as event
use Rattle.arachne_locked.specs.{AtHome.TableView, Calls.IsClaim, Room.{may_post, may_end, HasRoom}}
use Rattle.arachne_locked.proofs.Counts.{count_most, count_positive, contexts_set, contexts_kept}

-- memory reserved for every context
pub full_room : (k : ContextTable) → (world_of k).cores * (world_of k).slots ≤ k.posts → (world_of k).cores * (world_of k).slots ≤ k.retires → HasRoom k
full_room k posts retires = record {
  posts = (let h = count_most ((world_of k).cores * (world_of k).slots) (λ x. may_post ((world_of k).state x)) in omega (arith, h, posts));
  retires = (let h = count_most ((world_of k).cores * (world_of k).slots) (λ x. may_end ((world_of k).state x)) in omega (arith, h, retires));
}

-- no state has changed, and no reserved memory was used
pub kept_room : (old new : ContextTable) → HasRoom old → (world_of new).cores ≡ (world_of old).cores → (world_of new).slots ≡ (world_of old).slots → ((y : ℕ) → (world_of new).state y ≡ (world_of old).state y)
    → old.posts ≤ new.posts → old.retires ≤ new.retires → HasRoom new
kept_room old new room cores slots states posts retires = record {
  posts = (let h = contexts_kept may_post (world_of old) (world_of new) cores slots states in let r = room.posts in omega (arith, h, r, posts));
  retires = (let h = contexts_kept may_end (world_of old) (world_of new) cores slots states in let r = room.retires in omega (arith, h, r, retires));
}

-- one state has changed, and it needs less reserved memory, by as much as was used
pub set_room : (old new : ContextTable) (x posts retires : ℕ) → HasRoom old → (world_of new).cores ≡ (world_of old).cores → (world_of new).slots ≡ (world_of old).slots
    → ((y : ℕ) → (y ≡ x → ⊥) → (world_of new).state y ≡ (world_of old).state y) → IsContext (world_of old) x
    → old.posts ≤ new.posts + posts → old.retires ≤ new.retires + retires
    → bit (may_post ((world_of new).state x)) + posts ≤ bit (may_post ((world_of old).state x))
    → bit (may_end ((world_of new).state x)) + retires ≤ bit (may_end ((world_of old).state x)) → HasRoom new
set_room old new x posts retires room cores slots others within p r post end = record {
  posts = (let h = contexts_set may_post (world_of old) (world_of new) x cores slots others within in let o = room.posts in omega (arith, h, o, p, post));
  retires = (let h = contexts_set may_end (world_of old) (world_of new) x cores slots others within in let o = room.retires in omega (arith, h, o, r, end));
}

-- an event leaves the number of places
slots_stay : (w : World) (e : Event) → (after w e).slots ≡ w.slots
slots_stay w (event.Claim h x) = refl
slots_stay w _ = refl

-- ---- the reserved memory that a state needs before and after

-- a change from one state to another, which uses `posts` posts and `retires` retires
abbrev pub Pays : State → ℕ → ℕ → State → Type 0
Pays s posts retires t = (bit (may_post t) + posts ≤ bit (may_post s)) × (bit (may_end t) + retires ≤ bit (may_end s))

taken_pays : (h : ℕ) (s : State) → IsReady s → Pays s 0 0 (taken h s)
taken_pays h (Ready t) r = (omega arith, omega arith)
taken_pays h _ r = absurd r

rest_pays : (h : ℕ) (r : Rest) (s : State) → IsHeldBy h s → Pays s 0 0 (put_back r s)
rest_pays h rest.Blocked (Held k false t) i = (omega arith, omega arith)
rest_pays h rest.Blocked (Held k true t) i = (omega arith, omega arith)
rest_pays h rest.Ready (Held k w t) i = (omega arith, omega arith)
rest_pays h r _ i = absurd i

woken_pays : (s : State) → CanBeWoken s → Pays s 0 0 (woken s)
woken_pays (Blocked t) c = (omega arith, omega arith)
woken_pays (Held h false t) c = (omega arith, omega arith)
woken_pays _ c = absurd c

-- a thread that has ended leaves a context with no thread
pub end_pays : (h : ℕ) (s t : State) → IsHeldBy h s → may_end t ≡ false → may_post t ≡ false → Pays s 0 1 t
end_pays h (Held k w t) u i e p = (let a = ap bit p in omega (arith, a), let b = ap bit e in omega (arith, b))
end_pays h _ u i e p = absurd i

-- ---- the events

-- the event is not a claim or a retire, which come with other events in one call
abbrev pub IsSingle : Event → Type 0
IsSingle (event.Claim h x) = ⊥
IsSingle (event.Alone h x) = ⊥
IsSingle (event.Retire h x) = ⊥
IsSingle e = Unit {0}

module _ (old new : ContextTable) (room : HasRoom old) where
  abbrev w : World
  w = world_of old

  abbrev u : World
  u = world_of new

  -- the state of context x becomes t
  set_to : (e : Event) (x posts retires : ℕ) (t : State) → u ≡ after w e → (after w e).cores ≡ w.cores → ((y : ℕ) → (after w e).state y ≡ with_at w.state x t y) → IsContext w x
      → old.posts ≤ new.posts + posts → old.retires ≤ new.retires + retires → Pays (w.state x) posts retires t → HasRoom new
  set_to e x posts retires t made cores states within p r pays =
      let there : u.state x ≡ t = ap (λ (z : World). z.state x) made ∙ states x ∙ with_at-same w.state x t in
      set_room old new x posts retires room (ap (λ (z : World). z.cores) made ∙ cores) (ap (λ (z : World). z.slots) made ∙ slots_stay w e)
      (λ y h. ap (λ (z : World). z.state y) made ∙ states y ∙ with_at-other w.state x t y h) within p r
      (subst (λ s. bit (may_post s) + posts ≤ bit (may_post (w.state x))) (sym there) pays.0)
      (subst (λ s. bit (may_end s) + retires ≤ bit (may_end (w.state x))) (sym there) pays.1)

  keeps : (e : Event) → u ≡ after w e → (after w e).cores ≡ w.cores → ((y : ℕ) → (after w e).state y ≡ w.state y)
      → old.posts ≤ new.posts + 0 → old.retires ≤ new.retires + 0 → HasRoom new
  keeps e made cores states p r =
      kept_room old new room (ap (λ (z : World). z.cores) made ∙ cores) (ap (λ (z : World). z.slots) made ∙ slots_stay w e) (λ y. ap (λ (z : World). z.state y) made ∙ states y) (omega (arith, p)) (omega (arith, r))

  pub event_room : (e : Event) → IsSingle e → Answers e old new (Ok tt) → HasRoom new
  event_room (event.Post h x tag) l a = set_to (event.Post h x tag) x 1 0 (Ready tag) a.1 refl (λ y. refl) a.0.context a.2 a.3
      (subst (λ s. Pays s 1 0 (Ready tag)) (sym a.0.claimed) (omega arith, omega arith))
  event_room (event.Take h x) l a = set_to (event.Take h x) x 0 0 (taken h (w.state x)) a.1 refl (λ y. refl) a.0.context a.2 a.3 (taken_pays h (w.state x) a.0.ready)
  event_room (event.Rest h x r) l a = set_to (event.Rest h x r) x 0 0 (put_back r (w.state x)) a.1 refl (λ y. refl) a.0.context a.2 a.3 (rest_pays h r (w.state x) a.0.held)
  event_room (event.Wake id) l a = set_to (event.Wake id) id.context 0 0 (woken (w.state id.context)) a.1 refl (λ y. refl) a.0.context a.2 a.3 (woken_pays (w.state id.context) a.0.waits)
  event_room (event.Release h x) l a = set_to (event.Release h x) x 0 0 Free a.1 refl (λ y. refl) a.0.context a.2 a.3
      (subst (λ s. Pays s 0 0 Free) (sym a.0.claimed) (omega arith, omega arith))
  event_room (event.CloseCore c) l a = keeps (event.CloseCore c) a.1 refl (λ y. refl) a.2 a.3
  event_room (event.OpenCore c) l a = keeps (event.OpenCore c) a.1 refl (λ y. refl) a.2 a.3
  event_room (event.Move h x y) l a = keeps (event.Move h x y) a.1 refl (λ y. refl) a.2 a.3
  event_room event.Still l a = keeps event.Still a.1 refl (λ y. refl) a.2 a.3
  event_room _ l a = absurd l

-- ---- results

module _ {T : Type 0} (old new : TableView T) (room : HasRoom old.table) where
  same_room : new ≡ old → HasRoom new.table
  same_room same = subst (λ (v : TableView T). HasRoom v.table) (sym same) room

  pub answered_room : (e : Event) (r : Result (Unit {0}) NotApplied) → IsSingle e → Answers e old.table new.table r → OnErr r (new ≡ old) → HasRoom new.table
  answered_room e (Ok tt) l a same = event_room old.table new.table room e l a
  answered_room e (Err refused) l a same = same_room same

  pub posted_room : (h x tag : ℕ) (r : Result (Unit {0}) (NotApplied × T)) → OnOk r (Answers (event.Post h x tag) old.table new.table (Ok tt)) → OnErr r (new ≡ old) → HasRoom new.table
  posted_room h x tag (Ok tt) a same = event_room old.table new.table room (event.Post h x tag) tt a
  posted_room h x tag (Err refused) a same = same_room same

  pub taken_room : (h x : ℕ) (r : Option T) → IfSome r (λ v. Answers (event.Take h x) old.table new.table (Ok tt)) → IfNone r (new ≡ old) → HasRoom new.table
  taken_room h x (Some v) a same = event_room old.table new.table room (event.Take h x) tt a
  taken_room h x None a same = same_room same

-- a claim, with memory reserved for every context
pub claimed_room : (old new : ContextTable) (e : Event) → IsClaim e → Answers e old new (Ok tt)
    → (world_of old).cores * (world_of old).slots ≤ old.posts → (world_of old).cores * (world_of old).slots ≤ old.retires → HasRoom new
claimed_room old new (event.Claim h x) l a posts retires =
    let cores = ap (λ (z : World). z.cores * z.slots) a.1 in let p = a.2 in let r = a.3 in full_room new (omega (arith, cores, posts, p)) (omega (arith, cores, retires, r))
claimed_room old new (event.Alone h x) l a posts retires =
    let cores = ap (λ (z : World). z.cores * z.slots) a.1 in let p = a.2 in let r = a.3 in full_room new (omega (arith, cores, posts, p)) (omega (arith, cores, retires, r))
claimed_room old new _ l a posts retires = absurd l

-- ---- no call fails for memory

pub post_has_room : (k : ContextTable) (h x tag : ℕ) → HasRoom k → HasClaimed (world_of k) h x → k.posts ≡ 0 → ⊥
post_has_room k h x tag room a none =
    let n = (world_of k).cores * (world_of k).slots in
    let one = count_positive n x (λ y. may_post ((world_of k).state y)) a.context (ap may_post a.claimed) in
    let r = room.posts in absurd (omega (arith, one, r, none))

held_may_end : (h : ℕ) (s : State) → IsHeldBy h s → may_end s ≡ true
held_may_end h (Held k w t) i = refl
held_may_end h _ i = absurd i

pub retire_has_room : (k : ContextTable) (h x : ℕ) → HasRoom k → HoldsIn (world_of k) h x → k.retires ≡ 0 → ⊥
retire_has_room k h x room a none =
    let n = (world_of k).cores * (world_of k).slots in
    let one = count_positive n x (λ y. may_end ((world_of k).state y)) a.context (held_may_end h ((world_of k).state x) a.held) in
    let r = room.retires in absurd (omega (arith, one, r, none))
