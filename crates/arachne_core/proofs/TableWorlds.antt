-- The World that a table stands for, after one change to its lists.
use Rattle.std.proofs.Common.{◌≡◌, ℕ, ◌+◌, ◌<◌, Bool, true, false, cond, inl, inr, List, [], ◌∷◌, ◌++◌, length, get_or, set, refl, sym, ap, ◌∙◌, arith, length-set, get_or-set_same, get_or-set_other}
use Rattle.std.proofs.lemmas.{Bool.cases_eq, List.Sums.sum_by_push}
use Rattle.arachne_core.specs.{declared.place.Place.Place, declared.state.Context.Context, Occupancy.Occupancy}
use Rattle.arachne_core.specs.World.{World, Thread, with_at, with_place, with_thread, same_thread}
use Rattle.arachne_core.specs.ContextTable.{ContextTable, context, core, no_context, no_core, times, world_of}
use Rattle.arachne_core.specs.TableChanges.{with_context, with_occupied, with_exclusive, with_swapped, HasPlace}
use Rattle.arachne_core.proofs.Changes.{with_at-same, with_at-other, with_place-same, with_place-other, cases_place}

-- a field of the items of a list in which one item was replaced
field_changed : {A B : Type 0} (f : A → B) (xs : List A) (x : ℕ) (e d : A) → x < length xs → (y : ℕ) → f (get_or (set xs x e) y d) ≡ with_at (λ z. f (get_or xs z d)) x (f e) y
field_changed f xs x e d h y = elim (cases_eq y x) [
  | inl q ↦ ap (λ z. f (get_or (set xs x e) z d)) q ∙ ap f (get_or-set_same xs x e d h)
      ∙ sym (ap (with_at (λ z. f (get_or xs z d)) x (f e)) q ∙ with_at-same (λ z. f (get_or xs z d)) x (f e))
  | inr n ↦ ap f (get_or-set_other xs x y e d n) ∙ sym (with_at-other (λ z. f (get_or xs z d)) x (f e) y n)
]

-- a field that the new item has like the old one
field_kept : {A B : Type 0} (f : A → B) (xs : List A) (x : ℕ) (e d : A) → x < length xs → f e ≡ f (get_or xs x d) → (y : ℕ) → f (get_or (set xs x e) y d) ≡ f (get_or xs y d)
field_kept f xs x e d h s y = elim (cases_eq y x) [
  | inl q ↦ ap (λ z. f (get_or (set xs x e) z d)) q ∙ ap f (get_or-set_same xs x e d h) ∙ s ∙ ap (λ z. f (get_or xs z d)) (sym q)
  | inr n ↦ ap f (get_or-set_other xs x y e d n)
]

pub context_world : (k : ContextTable) (x : ℕ) (e : Context) → x < length k.contexts → e.place ≡ (context k x).place
    → world_of (with_context k x e) ≡ record (world_of k) { state = with_at (world_of k).state x e.state; generation = with_at (world_of k).generation x e.generation }
context_world k x e h s =
    let at = field_kept (λ (c : Context). c.place) k.contexts x e no_context h s in
    let generation = field_changed (λ (c : Context). c.generation) k.contexts x e no_context h in
    let state = field_changed (λ (c : Context). c.state) k.contexts x e no_context h in
    let w : World = world_of k in
    λ i. record w { at = λ y. at y i; generation = λ y. generation y i; state = λ y. state y i }

-- a map with the value that it has already
pub with_at-kept : {A : Type 0} (f : ℕ → A) (x : ℕ) (v : A) → v ≡ f x → (y : ℕ) → with_at f x v y ≡ f y
with_at-kept f x v e y = elim (cases_eq y x) [
  | inl q ↦ ap (with_at f x v) q ∙ with_at-same f x v ∙ e ∙ ap f (sym q)
  | inr n ↦ with_at-other f x v y n
]

pub state_world : (k : ContextTable) (x : ℕ) (e : Context) → x < length k.contexts → e.place ≡ (context k x).place → e.generation ≡ (context k x).generation
    → world_of (with_context k x e) ≡ record (world_of k) { state = with_at (world_of k).state x e.state }
state_world k x e h s g =
    let w : World = world_of k in
    let kept = with_at-kept w.generation x e.generation g in
    context_world k x e h s ∙ (λ i. record w { state = with_at w.state x e.state; generation = λ y. kept y i })

pub occupied_world : (k : ContextTable) (p : Place) (b : Bool) → HasPlace k p
    → world_of (with_occupied k p b) ≡ record (world_of k) { occupied = with_place (world_of k).occupied p b }
occupied_world k p b h =
    let w : World = world_of k in
    let old : Occupancy = core k p.core in
    let new : Occupancy = record old { occupied = set old.occupied p.index b } in
    let cs : List Occupancy = set k.cores p.core new in
    let here : get_or cs p.core no_core ≡ new = get_or-set_same k.cores p.core new no_core h.0 in
    let occupied : (q : Place) → get_or (get_or cs q.core no_core).occupied q.index false ≡ with_place w.occupied p b q =
    λ q. elim (cases_place q p) [
      | inl e ↦
          ap (λ (r : Place). get_or (get_or cs r.core no_core).occupied r.index false) e ∙ ap (λ (o : Occupancy). get_or o.occupied p.index false) here
          ∙ get_or-set_same old.occupied p.index b false h.1 ∙ sym (ap (with_place w.occupied p b) e ∙ with_place-same w.occupied p b)
      | inr n ↦ elim (cases_eq q.core p.core) [
        | inl f ↦
            ap (λ (c : ℕ). get_or (get_or cs c no_core).occupied q.index false) f ∙ ap (λ (o : Occupancy). get_or o.occupied q.index false) here
            ∙ get_or-set_other old.occupied p.index q.index b false (λ g. n (λ i. record { core = f i; index = g i }))
            ∙ ap (λ (c : ℕ). get_or (core k c).occupied q.index false) (sym f) ∙ sym (with_place-other w.occupied p b q n)
        | inr m ↦
            ap (λ (o : Occupancy). get_or o.occupied q.index false) (get_or-set_other k.cores p.core q.core new no_core m) ∙ sym (with_place-other w.occupied p b q n)
      ]
    ] in
    let count : length cs ≡ length k.cores = length-set k.cores p.core new in
    let closed = field_kept (λ (o : Occupancy). o.closed) k.cores p.core new no_core h.0 refl in
    let alone = field_kept (λ (o : Occupancy). o.exclusive) k.cores p.core new no_core h.0 refl in
    λ i. record w { cores = count i; occupied = λ q. occupied q i; closed = λ y. closed y i; alone = λ y. alone y i }

-- a core whose occupied indexes stay
kept_places : (k : ContextTable) (c : ℕ) (o : Occupancy) → c < length k.cores → o.occupied ≡ (core k c).occupied
    → (q : Place) → get_or (get_or (set k.cores c o) q.core no_core).occupied q.index false ≡ (world_of k).occupied q
kept_places k c o h e q = ap (λ (bs : List Bool). get_or bs q.index false) (field_kept (λ (o' : Occupancy). o'.occupied) k.cores c o no_core h e q.core)

pub exclusive_world : (k : ContextTable) (c : ℕ) (b : Bool) → c < length k.cores
    → world_of (with_exclusive k c b) ≡ record (world_of k) { alone = with_at (world_of k).alone c b }
exclusive_world k c b h =
    let w : World = world_of k in
    let new : Occupancy = record (core k c) { exclusive = b } in
    let occupied = kept_places k c new h refl in
    let count : length (set k.cores c new) ≡ length k.cores = length-set k.cores c new in
    let closed = field_kept (λ (o : Occupancy). o.closed) k.cores c new no_core h refl in
    let alone = field_changed (λ (o : Occupancy). o.exclusive) k.cores c new no_core h in
    λ i. record w { cores = count i; occupied = λ q. occupied q i; closed = λ y. closed y i; alone = λ y. alone y i }

pub swapped_world : (k : ContextTable) (x y : ℕ) → x < length k.contexts → y < length k.contexts → (x ≡ y → ⊥)
    → world_of (with_swapped k x y) ≡ record (world_of k) { at = with_at (with_at (world_of k).at x ((world_of k).at y)) y ((world_of k).at x) }
swapped_world k x y x_in y_in n =
    let w : World = world_of k in
    let first : Context = record (context k x) { place = (context k y).place } in
    let second : Context = record (context k y) { place = (context k x).place } in
    let mid : List Context = set k.contexts x first in
    let y_in_mid : y < length mid = omega (arith, length-set k.contexts x first, y_in) in
    let y_mid : get_or mid y no_context ≡ context k y = get_or-set_other k.contexts x y first no_context (λ e. n (sym e)) in
    let at : (z : ℕ) → (get_or (set mid y second) z no_context).place ≡ with_at (with_at w.at x (w.at y)) y (w.at x) z =
    λ z. field_changed (λ (c : Context). c.place) mid y second no_context y_in_mid z
    ∙ ap (λ (f : ℕ → Place). with_at f y (w.at x) z) (λ i u. field_changed (λ (c : Context). c.place) k.contexts x first no_context x_in u i) in
    let generation : (z : ℕ) → (get_or (set mid y second) z no_context).generation ≡ w.generation z =
    λ z. field_kept (λ (c : Context). c.generation) mid y second no_context y_in_mid (ap (λ (c : Context). c.generation) (sym y_mid)) z
    ∙ field_kept (λ (c : Context). c.generation) k.contexts x first no_context x_in refl z in
    let state : (z : ℕ) → (get_or (set mid y second) z no_context).state ≡ w.state z =
    λ z. field_kept (λ (c : Context). c.state) mid y second no_context y_in_mid (ap (λ (c : Context). c.state) (sym y_mid)) z
    ∙ field_kept (λ (c : Context). c.state) k.contexts x first no_context x_in refl z in
    λ i. record w { at = λ z. at z i; generation = λ z. generation z i; state = λ z. state z i }

-- one more thread at the end of a list
one_more : (n : ℕ) (b : Bool) → n + cond b 1 0 ≡ cond b (n + 1) n
one_more n true = refl
one_more n false = omega arith

times_push : (ts : List Thread) (t s : Thread) → times (ts ++ t ∷ []) s ≡ with_thread (times ts) t s
times_push ts t s = sum_by_push (λ (u : Thread). cond (same_thread s u) 1 0) ts t ∙ one_more (times ts s) (same_thread s t)

pub given_world : (k : ContextTable) (t : Thread) (n : ℕ) → world_of (record k { given = k.given ++ t ∷ []; posts = n }) ≡ record (world_of k) { given = with_thread (world_of k).given t }
given_world k t n =
    let w : World = world_of k in
    λ i. record w { given = λ s. times_push k.given t s i }

pub ended_world : (k : ContextTable) (t : Thread) (n : ℕ) → world_of (record k { ended = k.ended ++ t ∷ []; retires = n }) ≡ record (world_of k) { ended = with_thread (world_of k).ended t }
ended_world k t n =
    let w : World = world_of k in
    λ i. record w { ended = λ s. times_push k.ended t s i }
