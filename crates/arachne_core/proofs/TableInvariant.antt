-- The invariant of a table's lists, at first and after contexts swap places.
use Rattle.std.proofs.Common.{◌≡◌, ℕ, ◌*◌, ◌<◌, ◌≤◌, false, inl, inr, List, [], length, get_or, set, map, replicate, refl, sym, ap, ◌∙◌, subst, arith}
use Rattle.std.specs.List.{range_with_len}
use Rattle.std.proofs.{lemmas.Bool.cases_eq, Math.Nat.mul_comm, lemmas.Nat.{div-add-mod', mul-add-lt}}
use Rattle.std.proofs.lemmas.List.{get_or_read, length-set, get_or-set_same, get_or-set_other, length-replicate, get_or-replicate}
use Rattle.std.proofs.lemmas.List.FromFn.{length-range_with_len, get_or-range_with_len, length-map-range_with_len, get_or-map-range_with_len}
use Rattle.arachne_core.specs.declared.{place.Place.Place, state.Context.Context}
use Rattle.arachne_core.specs.declared.layout.TheConstants.{CORES, SLOTS, LAST_GENERATION}
use Rattle.arachne_core.specs.{Place.{first_place, number_of}, Occupancy.{Occupancy, vacant}, Run.IsOpening}
use Rattle.arachne_core.specs.{ContextTable.{no_context, no_core, world_of}, TableChanges.{IsTable, first_context}}
use Rattle.arachne_core.proofs.{OccupancyWords.{vacant-length, vacant-flag, vacant-open}, Runs.first_in}

-- ---- a swap of two contexts

pub number-lt : (slots : ℕ) (p : Place) (n : ℕ) → p.core < n → p.index < slots → number_of slots p < n * slots
number-lt slots p n a b = subst (λ (k : ℕ). number_of slots p < k) (mul_comm slots n) (mul-add-lt p.core slots p.index n a b)

-- the number of a context's place is that of an entry of `residents`
pub number_in : (slots : ℕ) (cs : List Context) (os : List Occupancy) (rs : List ℕ) (x : ℕ) (found : Context) (n : ℕ) → IsTable slots cs os rs → x < length cs
    → found ≡ get_or cs x no_context → n ≡ number_of slots found.place → n < length rs
number_in slots cs os rs x found n t x_in f e =
    let number : n ≡ number_of slots (get_or cs x no_context).place = e ∙ ap (λ (c : Context). number_of slots c.place) f in
    omega (arith, number, number-lt slots (get_or cs x no_context).place (length os) (t.placed x x_in).0 (t.placed x x_in).1, t.contexts, t.residents)

-- the entry of a place is the context that stands there
pub resident_at : (slots : ℕ) (cs : List Context) (os : List Occupancy) (rs : List ℕ) (x : ℕ) (p : Place) (n r : ℕ) → IsTable slots cs os rs → x < length cs
    → (get_or cs x no_context).place ≡ p → n ≡ number_of slots p → r ≡ get_or rs n r → r ≡ x
resident_at slots cs os rs x p n r t x_in there e read =
    let number : n ≡ number_of slots (get_or cs x no_context).place = e ∙ ap (number_of slots) (sym there) in
    let n_in : n < length rs = number_in slots cs os rs x (get_or cs x no_context) n t x_in refl number in
    get_or_read rs n r n_in read 0 ∙ ap (λ (k : ℕ). get_or rs k 0) number ∙ t.found x x_in

pub swapped_table : (slots : ℕ) (cs : List Context) (os : List Occupancy) (rs : List ℕ) (x y : ℕ) → IsTable slots cs os rs → x < length cs → y < length cs → (x ≡ y → ⊥)
    → IsTable slots
    (set (set cs x (record (get_or cs x no_context) { place = (get_or cs y no_context).place })) y (record (get_or cs y no_context) { place = (get_or cs x no_context).place }))
    os
    (set (set rs (number_of slots (get_or cs y no_context).place) x) (number_of slots (get_or cs x no_context).place) y)
swapped_table slots cs os rs x y t x_in y_in apart =
    let p : Place = (get_or cs x no_context).place in
    let q : Place = (get_or cs y no_context).place in
    let first : Context = record (get_or cs x no_context) { place = q } in
    let second : Context = record (get_or cs y no_context) { place = p } in
    let mid : List Context = set cs x first in
    let new : List Context = set mid y second in
    let nx : ℕ = number_of slots p in
    let ny : ℕ = number_of slots q in
    let rmid : List ℕ = set rs ny x in
    let rnew : List ℕ = set rmid nx y in
    let size : length new ≡ length cs = length-set mid y second ∙ length-set cs x first in
    let y_mid : y < length mid = omega (arith, length-set cs x first, y_in) in
    let at_y : get_or new y no_context ≡ second = get_or-set_same mid y second no_context y_mid in
    let at_x : get_or new x no_context ≡ first = get_or-set_other mid y x second no_context apart ∙ get_or-set_same cs x first no_context x_in in
    let at_z : (z : ℕ) → (z ≡ x → ⊥) → (z ≡ y → ⊥) → get_or new z no_context ≡ get_or cs z no_context =
    λ z n m. get_or-set_other mid y z second no_context m ∙ get_or-set_other cs x z first no_context n in
    let fx : get_or rs nx 0 ≡ x = t.found x x_in in
    let fy : get_or rs ny 0 ≡ y = t.found y y_in in
    let nx_in : nx < length rs = omega (arith, number-lt slots p (length os) (t.placed x x_in).0 (t.placed x x_in).1, t.contexts, t.residents) in
    let ny_in : ny < length rs = omega (arith, number-lt slots q (length os) (t.placed y y_in).0 (t.placed y y_in).1, t.contexts, t.residents) in
    let n_apart : ny ≡ nx → ⊥ = λ e. apart (sym fx ∙ ap (λ (n : ℕ). get_or rs n 0) (sym e) ∙ fy) in
    let nx_mid : nx < length rmid = omega (arith, length-set rs ny x, nx_in) in
    record {
      few = t.few;
      some_slots = t.some_slots;
      few_slots = t.few_slots;
      contexts = size ∙ t.contexts;
      residents = length-set rmid nx y ∙ length-set rs ny x ∙ t.residents ∙ sym size;
      indexes = t.indexes;
      beyond = t.beyond;
      placed = λ z z_in. elim (cases_eq z x) [
        | inl e ↦ subst (λ (c : Context). (c.place.core < length os) × (c.place.index < slots)) (sym (ap (λ (v : ℕ). get_or new v no_context) e ∙ at_x)) (t.placed y y_in)
        | inr n ↦ elim (cases_eq z y) [
          | inl f ↦ subst (λ (c : Context). (c.place.core < length os) × (c.place.index < slots)) (sym (ap (λ (v : ℕ). get_or new v no_context) f ∙ at_y)) (t.placed x x_in)
          | inr m ↦ subst (λ (c : Context). (c.place.core < length os) × (c.place.index < slots)) (sym (at_z z n m)) (t.placed z (omega (arith, size, z_in)))
        ]
      ];
      found = λ z z_in. elim (cases_eq z x) [
        | inl e ↦ ap (λ (v : ℕ). get_or rnew (number_of slots (get_or new v no_context).place) 0) e ∙ ap (λ (c : Context). get_or rnew (number_of slots c.place) 0) at_x
            ∙ get_or-set_other rmid nx ny y 0 n_apart ∙ get_or-set_same rs ny x 0 ny_in ∙ sym e
        | inr n ↦ elim (cases_eq z y) [
          | inl f ↦ ap (λ (v : ℕ). get_or rnew (number_of slots (get_or new v no_context).place) 0) f ∙ ap (λ (c : Context). get_or rnew (number_of slots c.place) 0) at_y
              ∙ get_or-set_same rmid nx y 0 nx_mid ∙ sym f
          | inr m ↦
              let z_old : z < length cs = omega (arith, size, z_in) in
              let nz : ℕ = number_of slots (get_or cs z no_context).place in
              let fz : get_or rs nz 0 ≡ z = t.found z z_old in
              ap (λ (c : Context). get_or rnew (number_of slots c.place) 0) (at_z z n m)
              ∙ get_or-set_other rmid nx nz y 0 (λ e. n (sym fz ∙ ap (λ (v : ℕ). get_or rs v 0) e ∙ fx))
              ∙ get_or-set_other rs ny nz x 0 (λ e. m (sym fz ∙ ap (λ (v : ℕ). get_or rs v 0) e ∙ fy)) ∙ fz
        ]
      ];
      generations = λ z z_in. elim (cases_eq z x) [
        | inl e ↦ subst (λ (c : Context). c.generation ≤ LAST_GENERATION) (sym (ap (λ (v : ℕ). get_or new v no_context) e ∙ at_x)) (t.generations x x_in)
        | inr n ↦ elim (cases_eq z y) [
          | inl f ↦ subst (λ (c : Context). c.generation ≤ LAST_GENERATION) (sym (ap (λ (v : ℕ). get_or new v no_context) f ∙ at_y)) (t.generations y y_in)
          | inr m ↦ subst (λ (c : Context). c.generation ≤ LAST_GENERATION) (sym (at_z z n m)) (t.generations z (omega (arith, size, z_in)))
        ]
      ];
    }

pub swap_invariant : (slots : ℕ) (cs : List Context) (os : List Occupancy) (rs : List ℕ) (x y : ℕ) (first second : Context) (nx ny : ℕ)
    → IsTable slots cs os rs → x < length cs → y < length cs → (x ≡ y → ⊥) → first ≡ get_or cs x no_context → second ≡ get_or cs y no_context
    → nx ≡ number_of slots first.place → ny ≡ number_of slots second.place
    → IsTable slots (set (set cs x (record first { place = second.place })) y (record second { place = first.place })) os (set (set rs ny x) nx y)
swap_invariant slots cs os rs x y first second nx ny t x_in y_in apart f g m n =
    let T : Context × Context × ℕ × ℕ → Type 0 =
    λ q. IsTable slots (set (set cs x (record q.0 { place = q.1.place })) y (record q.1 { place = q.0.place })) os (set (set rs q.3 x) q.2 y) in
    let nx' : number_of slots (get_or cs x no_context).place ≡ nx = sym (m ∙ ap (λ (c : Context). number_of slots c.place) f) in
    let ny' : number_of slots (get_or cs y no_context).place ≡ ny = sym (n ∙ ap (λ (c : Context). number_of slots c.place) g) in
    subst T (λ i. (sym f i, sym g i, nx' i, ny' i)) (swapped_table slots cs os rs x y t x_in y_in apart)

-- ---- the table at first

first_at : (slots g n x : ℕ) → x < n → get_or (map (first_context slots g) (range_with_len 0 n)) x no_context ≡ first_context slots g x
first_at slots g n x h = get_or-map-range_with_len (first_context slots g) 0 n x x no_context h (omega arith)

pub first_table : (slots k g : ℕ) → k ≤ CORES → 1 ≤ slots → slots ≤ SLOTS → g ≤ LAST_GENERATION
    → IsTable slots (map (first_context slots g) (range_with_len 0 (k * slots))) (replicate k vacant) (range_with_len 0 (k * slots))
first_table slots k g few some few_slots last =
    let n : ℕ = k * slots in
    let cs : List Context = map (first_context slots g) (range_with_len 0 n) in
    let cores : length (replicate k vacant) ≡ k = length-replicate k vacant in
    let size : length cs ≡ n = length-map-range_with_len (first_context slots g) 0 n in
    record {
      few = omega (arith, cores, few);
      some_slots = some;
      few_slots = few_slots;
      contexts = size ∙ ap (λ (n : ℕ). n * slots) (sym cores);
      residents = length-range_with_len 0 n ∙ sym size;
      indexes = λ c c_in. ap (λ (o : Occupancy). length o.occupied) (get_or-replicate k c vacant no_core (omega (arith, cores, c_in))) ∙ vacant-length;
      beyond = λ c c_in i _. ap (λ (o : Occupancy). get_or o.occupied i false) (get_or-replicate k c vacant no_core (omega (arith, cores, c_in))) ∙ vacant-flag i;
      placed = λ x x_in.
          let x_n : x < n = omega (arith, size, x_in) in
          let p = first_in k slots x x_n in
          subst (λ (c : Context). (c.place.core < length (replicate k vacant)) × (c.place.index < slots)) (sym (first_at slots g n x x_n)) (omega (arith, cores, p.0), p.1);
      found = λ x x_in.
          let x_n : x < n = omega (arith, size, x_in) in
          let here : number_of slots (first_place slots x) ≡ x = div-add-mod' x slots in
          ap (λ (c : Context). get_or (range_with_len 0 n) (number_of slots c.place) 0) (first_at slots g n x x_n)
          ∙ ap (λ (r : ℕ). get_or (range_with_len 0 n) r 0) here ∙ get_or-range_with_len 0 n x 0 x_n ∙ omega arith;
      generations = λ x x_in. subst (λ (c : Context). c.generation ≤ LAST_GENERATION) (sym (first_at slots g n x (omega (arith, size, x_in)))) last;
    }

pub first_world : (slots k g posts retires : ℕ) → g ≤ LAST_GENERATION
    → IsOpening (world_of (record { contexts = map (first_context slots g) (range_with_len 0 (k * slots)); cores = replicate k vacant; slots = slots; given = []; ended = []; posts = posts; retires = retires })) g
first_world slots k g posts retires last =
    let n : ℕ = k * slots in
    let cores : length (replicate k vacant) ≡ k = length-replicate k vacant in
    let within : (x : ℕ) → x < length (replicate k vacant) * slots → x < n = λ x h. subst (λ (j : ℕ). x < j * slots) cores h in
    record {
      within = last;
      at = λ x h. ap (λ (c : Context). c.place) (first_at slots g n x (within x h));
      generation = λ x h. ap (λ (c : Context). c.generation) (first_at slots g n x (within x h));
      state = λ x h. ap (λ (c : Context). c.state) (first_at slots g n x (within x h));
      occupied = λ p h. ap (λ (o : Occupancy). get_or o.occupied p.index false) (get_or-replicate k p.core vacant no_core (omega (arith, cores, h.0))) ∙ vacant-flag p.index;
      closed = λ c h. ap (λ (o : Occupancy). o.closed) (get_or-replicate k c vacant no_core (omega (arith, cores, h))) ∙ vacant-open.0;
      alone = λ c h. ap (λ (o : Occupancy). o.exclusive) (get_or-replicate k c vacant no_core (omega (arith, cores, h))) ∙ vacant-open.1;
      given = λ t. refl;
      ended = λ t. refl;
    }
