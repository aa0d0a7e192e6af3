-- The cores among which a new thread's place is chosen.
use Rattle.std.proofs.Common.{◌≡◌, ℕ, zero, suc, ◌+◌, ◌<◌, Bool, true, false, cond, List, [], ◌∷◌, ◌++◌, length, get_or, take, All, Any, refl, arith, ap, sym, ◌∙◌, add-one, append-nil}
use Rattle.std.proofs.{Math.ListN.set, lemmas.List.{take_more_set, Elements.All-push}}
use Rattle.arachne_core.specs.Occupancy.{Occupancy, count_of, vacant}
use Rattle.arachne_policy.specs.declared.choices.CoreLoad.{CoreLoad}
use Rattle.arachne_arbiter.specs.Choice.{is_candidate_at, loads_of, load_of}

-- each is one of the first n cores
abbrev pub AreBelow : ℕ → List CoreLoad → Type 0
AreBelow n loads = All (λ load. load.core < n) loads

AreBelow-more : (n : ℕ) (loads : List CoreLoad) → AreBelow n loads → AreBelow (suc n) loads
AreBelow-more n loads below k d within = let h : (get_or loads k d).core < n = below k d within in omega arith

AreBelow-step : (listed : Bool) (n : ℕ) (loads : List CoreLoad) (load : CoreLoad) → AreBelow n loads → load.core ≡ n
    → AreBelow (suc n) (loads ++ cond listed (load ∷ []) [])
AreBelow-step false n loads load below is = rw (append-nil loads) (AreBelow-more n loads below)
AreBelow-step true n loads load below is = All-push (λ load. load.core < suc n) loads load (AreBelow-more n loads below) (omega arith)

pub AreBelow-found : (n : ℕ) (loads : List CoreLoad) (core : ℕ) → AreBelow n loads → Any (λ load. load.core ≡ core) loads → core < n
AreBelow-found n loads core below (k, load, within, here, is) =
    let low : (get_or loads k load).core < n = below k load within in
    let same : (get_or loads k load).core ≡ load.core = ap (λ found. found.core) here in
    omega arith

pub loads_of-below : (occupancies : List Occupancy) (n : ℕ) → AreBelow n (loads_of occupancies n)
loads_of-below occupancies zero = λ k d within. absurd (omega arith)
loads_of-below occupancies (suc n) =
    let occupancy = get_or occupancies n vacant in
    AreBelow-step (is_candidate_at occupancy) n (loads_of occupancies n) (record { core = n; count = count_of occupancy.occupied }) (loads_of-below occupancies n) refl

loads_of-next : (occupancies : List Occupancy) (n : ℕ) → loads_of occupancies (n + 1) ≡ loads_of occupancies n ++ load_of n (get_or occupancies n vacant)
loads_of-next occupancies n = rw (add-one n) refl

load_of-shown : (n : ℕ) (occupancy : Occupancy) (load : CoreLoad) → is_candidate_at occupancy ≡ true
    → load ≡ record { core = n; count = count_of occupancy.occupied } → load ∷ [] ≡ load_of n occupancy
load_of-shown n occupancy load is_candidate load_is = rw (is_candidate, load_is) refl

load_of-hidden : (n : ℕ) (occupancy : Occupancy) → is_candidate_at occupancy ≡ false → [] ≡ load_of n occupancy
load_of-hidden n occupancy is_none = rw is_none refl

-- a candidate is listed, with its number of threads
pub loads_of-push : (occupancies : List Occupancy) (n candidates : ℕ) (loads : List CoreLoad) (occupancy : Occupancy) (load : CoreLoad)
    → candidates < length loads → take candidates loads ≡ loads_of occupancies n
    → occupancy ≡ get_or occupancies n vacant → is_candidate_at occupancy ≡ true
    → load ≡ record { core = n; count = count_of occupancy.occupied }
    → take (candidates + 1) (set loads candidates load) ≡ loads_of occupancies (n + 1)
loads_of-push occupancies n candidates loads occupancy load within so_far is is_candidate load_is =
    take_more_set loads candidates load within
    ∙ ap (λ front. front ++ load ∷ []) so_far
    ∙ ap (λ one. loads_of occupancies n ++ one) (load_of-shown n occupancy load is_candidate load_is ∙ ap (load_of n) is)
    ∙ sym (loads_of-next occupancies n)

-- a core that is no candidate is not listed
pub loads_of-skip : (occupancies : List Occupancy) (n : ℕ) (occupancy : Occupancy) (front : List CoreLoad)
    → front ≡ loads_of occupancies n → occupancy ≡ get_or occupancies n vacant → is_candidate_at occupancy ≡ false
    → front ≡ loads_of occupancies (n + 1)
loads_of-skip occupancies n occupancy front so_far is is_none =
    so_far
    ∙ sym (append-nil (loads_of occupancies n))
    ∙ ap (λ one. loads_of occupancies n ++ one) (load_of-hidden n occupancy is_none ∙ ap (load_of n) is)
    ∙ sym (loads_of-next occupancies n)
