-- Each kind of step keeps that each place has one keeper.
use Rattle.std.proofs.Common.{◌≡◌, ◌≢◌, ℕ, ◌+◌, ◌*◌, ◌/◌, ◌%◌, ◌^◌, ◌<◌, List, ◌∷◌, length, get_or, set, sym, refl, ap, ◌∙◌, subst, arith, length-set, get_or-set_same, get_or-set_other}
use Rattle.std.specs.Int.{bit_at, RustNames.{bit_and, bit_or}}
use Rattle.std.proofs.lemmas.{Nat.Bits.bit_at-lt, List.Sums.sum_by-cons}
use mathlib.Core.{Logic.dite, Option.{some, none}}
use native.Mathlib.Decide.{ℕ_discrete}
use lib.ListN.{get_elem?}
use Rattle.atomic_table.proofs.Lists.{set_here, set_else}
use Rattle.arachne_weights.specs.declared.token.Token.{Token}
use Rattle.arachne_weights.proofs.Totals.{total-set, at-le-total, two-le-total}
use Rattle.arachne_exec.specs.{declared.view.Notes.Notes, Layout.{summary_at, ready_at, free_at, mark_at, others}}
use Rattle.arachne_exec.specs.Board.{is_free, is_ready, is_blocked, one, places_in, in_hands, Board, HasOneKeeper}
use Rattle.arachne_exec.proofs.Bits.{one-same, one-apart, cleared, raised}

pub ready_apart : (c d : ℕ) → ready_at c ≡ ready_at d → c ≡ d
ready_apart c d e = omega (arith, e)

pub free_apart : (c d : ℕ) → free_at c ≡ free_at d → c ≡ d
free_apart c d e = omega (arith, e)

pub mark_apart : (p q : ℕ) → mark_at p ≡ mark_at q → p ≡ q
mark_apart p q e = omega (arith, e)

pub places-cons : (p q x : ℕ) (xs : List (ℕ × ℕ)) → places_in p ((q, x) ∷ xs) ≡ one q p + places_in p xs
places-cons p q x xs = sum_by-cons (λ (y : ℕ × ℕ). one y.0 p) (q, x) xs

module _ (blocks : ℕ) (b : Board) (r : HasOneKeeper blocks b) (h : ℕ) (v : Token Notes) (mine : get_elem? b.views h ≡ some v) where
  module _ (u : Token Notes) where
    -- who keeps the same places
    pub hands-same : u.known.hand ≡ v.known.hand → (p : ℕ) → in_hands p (set b.views h u) ≡ in_hands p b.views
    hands-same e p = let total = total-set (λ (t : Token Notes). places_in p t.known.hand) b.views h v u mine in let same = ap (places_in p) e in omega (arith, total, same)

    -- the job at the newest place has another number
    pub hands-renumbered : (q x y : ℕ) (zs : List (ℕ × ℕ)) → v.known.hand ≡ (q, x) ∷ zs → u.known.hand ≡ (q, y) ∷ zs → (p : ℕ) → in_hands p (set b.views h u) ≡ in_hands p b.views
    hands-renumbered q x y zs was now p =
        let total = total-set (λ (t : Token Notes). places_in p t.known.hand) b.views h v u mine in
        let before = ap (places_in p) was ∙ places-cons p q x zs in let after = ap (places_in p) now ∙ places-cons p q y zs in omega (arith, total, before, after)

    pub hands-more : (q x : ℕ) → u.known.hand ≡ (q, x) ∷ v.known.hand → (p : ℕ) → in_hands p (set b.views h u) ≡ in_hands p b.views + one q p
    hands-more q x e p = let total = total-set (λ (t : Token Notes). places_in p t.known.hand) b.views h v u mine in let more = ap (places_in p) e ∙ places-cons p q x v.known.hand in omega (arith, total, more)

    pub hands-less : (q x : ℕ) → v.known.hand ≡ (q, x) ∷ u.known.hand → (p : ℕ) → in_hands p (set b.views h u) + one q p ≡ in_hands p b.views
    hands-less q x e p = let total = total-set (λ (t : Token Notes). places_in p t.known.hand) b.views h v u mine in let less = ap (places_in p) e ∙ places-cons p q x u.known.hand in omega (arith, total, less)

  -- the newest place is in a hand
  pub in-hand : (q x : ℕ) (xs : List (ℕ × ℕ)) → v.known.hand ≡ (q, x) ∷ xs → 0 < in_hands q b.views
  in-hand q x xs e =
      let some_hand = at-le-total (λ (t : Token Notes). places_in q t.known.hand) b.views h v mine in
      let one_more = ap (places_in q) e ∙ places-cons q q x xs in let here = one-same q q refl in omega (arith, some_hand, one_more, here)

  -- nobody else has it, nor this seat once more
  module _ (q x : ℕ) (xs : List (ℕ × ℕ)) (e : v.known.hand ≡ (q, x) ∷ xs) (within : q < 64 * blocks) where
    once : places_in q v.known.hand ≡ 1 + places_in q xs
    once = ap (places_in q) e ∙ places-cons q q x xs ∙ ap (λ n. n + places_in q xs) (one-same q q refl)

    pub no-more : places_in q xs ≡ 0
    no-more = let all = at-le-total (λ (t : Token Notes). places_in q t.known.hand) b.views h v mine in omega (arith, all, once, r.kept q within)

    pub no-other : (j : ℕ) (t : Token Notes) → j ≢ h → get_elem? b.views j ≡ some t → places_in q t.known.hand ≡ 0
    no-other j t ne there = let two = two-le-total (λ (y : Token Notes). places_in q y.known.hand) b.views h j v t mine ne there in omega (arith, two, once, r.kept q within)

  -- ---- a bit of a place's word

  module _ (q : ℕ) (within : q < 64 * blocks) where
    ready_room : ready_at (q / 64) < length b.words
    ready_room = omega (arith, r.sized, within)

    free_room : free_at (q / 64) < length b.words
    free_room = omega (arith, r.sized, within)

    mark_room : mark_at q < length b.words
    mark_room = omega (arith, r.sized, within)

    -- a word that is none of a kind
    ready_else : (m p : ℕ) → is_ready (set b.words (free_at (q / 64)) m) p ≡ is_ready b.words p
    ready_else m p = ap (λ x. bit_at x (p % 64)) (get_or-set_other b.words (free_at (q / 64)) (ready_at (p / 64)) m 0 (λ e. omega (arith, e)))

    free_else : (m p : ℕ) → is_free (set b.words (ready_at (q / 64)) m) p ≡ is_free b.words p
    free_else m p = ap (λ x. bit_at x (p % 64)) (get_or-set_other b.words (ready_at (q / 64)) (free_at (p / 64)) m 0 (λ e. omega (arith, e)))

    blocked_else_ready : (m p : ℕ) → is_blocked (set b.words (ready_at (q / 64)) m) p ≡ is_blocked b.words p
    blocked_else_ready m p = ap (λ x. x / 2 % 2) (get_or-set_other b.words (ready_at (q / 64)) (mark_at p) m 0 (λ e. omega (arith, e)))

    blocked_else_free : (m p : ℕ) → is_blocked (set b.words (free_at (q / 64)) m) p ≡ is_blocked b.words p
    blocked_else_free m p = ap (λ x. x / 2 % 2) (get_or-set_other b.words (free_at (q / 64)) (mark_at p) m 0 (λ e. omega (arith, e)))

    ready_else_mark : (m p : ℕ) → is_ready (set b.words (mark_at q) m) p ≡ is_ready b.words p
    ready_else_mark m p = ap (λ x. bit_at x (p % 64)) (get_or-set_other b.words (mark_at q) (ready_at (p / 64)) m 0 (λ e. omega (arith, e)))

    free_else_mark : (m p : ℕ) → is_free (set b.words (mark_at q) m) p ≡ is_free b.words p
    free_else_mark m p = ap (λ x. bit_at x (p % 64)) (get_or-set_other b.words (mark_at q) (free_at (p / 64)) m 0 (λ e. omega (arith, e)))

    blocked_else : (m p : ℕ) → p ≢ q → is_blocked (set b.words (mark_at q) m) p ≡ is_blocked b.words p
    blocked_else m p ne = ap (λ x. x / 2 % 2) (get_or-set_other b.words (mark_at q) (mark_at p) m 0 (λ e. ne (mark_apart p q e)))

    blocked_here : (m : ℕ) → is_blocked (set b.words (mark_at q) m) q ≡ m / 2 % 2
    blocked_here m = ap (λ x. x / 2 % 2) (get_or-set_same b.words (mark_at q) m 0 mark_room)

    -- the mark is no longer blocked, or is now, or neither
    unblocked : (m : ℕ) → is_blocked b.words q ≡ 1 → m / 2 % 2 ≡ 0 → (p : ℕ) → is_blocked (set b.words (mark_at q) m) p + one q p ≡ is_blocked b.words p
    unblocked m was now p = dite (ℕ_discrete q p)
        (λ e. subst (λ x. is_blocked (set b.words (mark_at q) m) x + one q x ≡ is_blocked b.words x) e ((λ i. (blocked_here m ∙ now) i + one-same q q refl i) ∙ sym was))
        (λ ne. (λ i. blocked_else m p (λ s. ne (sym s)) i + one-apart q p ne i) ∙ omega arith)

    newly_blocked : (m : ℕ) → is_blocked b.words q ≡ 0 → m / 2 % 2 ≡ 1 → (p : ℕ) → is_blocked (set b.words (mark_at q) m) p ≡ is_blocked b.words p + one q p
    newly_blocked m was now p = dite (ℕ_discrete q p)
        (λ e. subst (λ x. is_blocked (set b.words (mark_at q) m) x ≡ is_blocked b.words x + one q x) e (blocked_here m ∙ now ∙ sym (λ i. was i + one-same q q refl i)))
        (λ ne. blocked_else m p (λ s. ne (sym s)) ∙ sym ((λ i. is_blocked b.words p + one-apart q p ne i) ∙ omega arith))

    as_blocked : (m : ℕ) → m / 2 % 2 ≡ is_blocked b.words q → (p : ℕ) → is_blocked (set b.words (mark_at q) m) p ≡ is_blocked b.words p
    as_blocked m same p = dite (ℕ_discrete q p)
        (λ e. subst (λ x. is_blocked (set b.words (mark_at q) m) x ≡ is_blocked b.words x) e (blocked_here m ∙ same))
        (λ ne. blocked_else m p (λ s. ne (sym s)))

    -- ---- the slots that are at home

    home-taken : (u : Token Notes) (x : ℕ) → u.known.hand ≡ (q, x) ∷ v.known.hand → (p : ℕ) → p < 64 * blocks → in_hands p (set b.views h u) ≡ 0
        → (job : ℕ) × (get_elem? (set b.homes q none) p ≡ some (some job))
    home-taken u x more p inside none_has = let count = hands-more u q x more p in dite (ℕ_discrete q p)
        (λ e. let here = one-same q p e in absurd (omega (arith, count, none_has, here)))
        (λ ne. let old = r.home p inside (omega (arith, count, none_has)) in (old.0, set_else b.homes q p none (λ s. ne (sym s)) ∙ old.1))

    home-given : (u : Token Notes) (x job : ℕ) → v.known.hand ≡ (q, x) ∷ u.known.hand → (p : ℕ) → p < 64 * blocks → in_hands p (set b.views h u) ≡ 0
        → (j : ℕ) × (get_elem? (set b.homes q (some job)) p ≡ some (some j))
    home-given u x job less p inside none_has = let count = hands-less u q x less p in dite (ℕ_discrete q p)
        (λ e. (job, subst (λ x. get_elem? (set b.homes q (some job)) x ≡ some (some job)) e (set_here b.homes q (some job) (omega (arith, r.room, within)))))
        (λ ne. let away = one-apart q p ne in let old = r.home p inside (omega (arith, count, none_has, away)) in (old.0, set_else b.homes q p (some job) (λ s. ne (sym s)) ∙ old.1))

    away-taken : (u : Token Notes) (x : ℕ) → u.known.hand ≡ (q, x) ∷ v.known.hand → (p : ℕ) → p < 64 * blocks → 0 < in_hands p (set b.views h u) → get_elem? (set b.homes q none) p ≡ some none
    away-taken u x more p inside has = let count = hands-more u q x more p in dite (ℕ_discrete q p)
        (λ e. subst (λ x. get_elem? (set b.homes q none) x ≡ some none) e (set_here b.homes q none (omega (arith, r.room, within))))
        (λ ne. let other = one-apart q p ne in set_else b.homes q p none (λ s. ne (sym s)) ∙ r.away p inside (omega (arith, count, has, other)))

    away-given : (u : Token Notes) (x job : ℕ) → v.known.hand ≡ (q, x) ∷ u.known.hand → (p : ℕ) → p < 64 * blocks → 0 < in_hands p (set b.views h u) → get_elem? (set b.homes q (some job)) p ≡ some none
    away-given u x job less p inside has = let count = hands-less u q x less p in let sum = r.kept p inside in dite (ℕ_discrete q p)
        (λ e. let here = one-same q p e in absurd (omega (arith, count, has, here, sum)))
        (λ ne. set_else b.homes q p (some job) (λ s. ne (sym s)) ∙ r.away p inside (omega (arith, count, has)))

    pub home-of-ready : is_ready b.words q ≡ 1 → (job : ℕ) × (get_elem? b.homes q ≡ some (some job))
    home-of-ready e = r.home q within (omega (arith, r.kept q within, e))

    pub home-of-blocked : is_blocked b.words q ≡ 1 → (job : ℕ) × (get_elem? b.homes q ≡ some (some job))
    home-of-blocked e = r.home q within (omega (arith, r.kept q within, e))

    -- a place has no second keeper
    clash : (p : ℕ) → p < 64 * blocks → is_free b.words p ≡ 1 → is_ready b.words p ≡ 1 → ⊥
    clash p inside f d = omega (arith, r.kept p inside, f, d)

    clash-blocked : (p : ℕ) → p < 64 * blocks → is_free b.words p ≡ 1 → is_blocked b.words p ≡ 1 → ⊥
    clash-blocked p inside f d = omega (arith, r.kept p inside, f, d)

    -- a free place isn't the one that was in hand
    given-empty : (x : ℕ) (xs : List (ℕ × ℕ)) (job : ℕ) → v.known.hand ≡ (q, x) ∷ xs → (ws : List ℕ) → ((p : ℕ) → is_free ws p ≡ is_free b.words p)
        → (p : ℕ) → p < 64 * blocks → is_free ws p ≡ 1 → get_elem? (set b.homes q (some job)) p ≡ some (some 0)
    given-empty x xs job less ws same p inside e = let here = in-hand q x xs less in let sum = r.kept q within in dite (ℕ_discrete p q)
        (λ s. let f : is_free b.words q ≡ 1 = subst (λ y. is_free b.words y ≡ 1) s (sym (same p) ∙ e) in absurd (omega (arith, sum, here, f)))
        (λ ne. set_else b.homes q p (some job) ne ∙ r.empty p inside (sym (same p) ∙ e))

    -- ---- the steps

    -- from the ready word to the seat
    pub keeps-take : (u : Token Notes) (x : ℕ) → is_ready b.words q ≡ 1 → u.known.hand ≡ (q, x) ∷ v.known.hand
        → HasOneKeeper blocks (record { words = set b.words (ready_at (q / 64)) (bit_and (get_or b.words (ready_at (q / 64)) 0) (others (q % 64))); homes = set b.homes q none; views = set b.views h u })
    keeps-take u x was more = let m : ℕ = bit_and (get_or b.words (ready_at (q / 64)) 0) (others (q % 64)) in record {
      sized = length-set b.words (ready_at (q / 64)) m ∙ r.sized;
      room = length-set b.homes q none ∙ r.room;
      kept = λ p inside. omega (arith, r.kept p inside, free_else m p, cleared ready_at ready_apart b.words q ready_room was p, blocked_else_ready m p, hands-more u q x more p);
      home = home-taken u x more;
      away = away-taken u x more;
      empty = λ p inside e. dite (ℕ_discrete p q)
          (λ s. absurd (clash p inside (sym (free_else m p) ∙ e) (subst (λ y. is_ready b.words y ≡ 1) (sym s) was)))
          (λ ne. set_else b.homes q p none ne ∙ r.empty p inside (sym (free_else m p) ∙ e));
    }

    -- from the free word to the seat
    pub keeps-claim : (u : Token Notes) (x : ℕ) → is_free b.words q ≡ 1 → u.known.hand ≡ (q, x) ∷ v.known.hand
        → HasOneKeeper blocks (record { words = set b.words (free_at (q / 64)) (bit_and (get_or b.words (free_at (q / 64)) 0) (others (q % 64))); homes = set b.homes q none; views = set b.views h u })
    keeps-claim u x was more = let m : ℕ = bit_and (get_or b.words (free_at (q / 64)) 0) (others (q % 64)) in record {
      sized = length-set b.words (free_at (q / 64)) m ∙ r.sized;
      room = length-set b.homes q none ∙ r.room;
      kept = λ p inside. omega (arith, r.kept p inside, ready_else m p, cleared free_at free_apart b.words q free_room was p, blocked_else_free m p, hands-more u q x more p);
      home = home-taken u x more;
      away = away-taken u x more;
      empty = λ p inside e. let less = cleared free_at free_apart b.words q free_room was p in let low : is_free b.words p < 2 = bit_at-lt (get_or b.words (free_at (p / 64)) 0) (p % 64) in dite (ℕ_discrete q p)
          (λ s. let one_ = one-same q p s in absurd (omega (arith, e, less, one_, low)))
          (λ ne. let none_ = one-apart q p ne in set_else b.homes q p none (λ s. ne (sym s)) ∙ r.empty p inside (omega (arith, e, less, none_)));
    }

    -- from the seat to the ready word
    pub keeps-ready : (u : Token Notes) (x job : ℕ) → v.known.hand ≡ (q, x) ∷ u.known.hand
        → HasOneKeeper blocks (record { words = set b.words (ready_at (q / 64)) (bit_or (get_or b.words (ready_at (q / 64)) 0) (2 ^ (q % 64))); homes = set b.homes q (some job); views = set b.views h u })
    keeps-ready u x job less = let m : ℕ = bit_or (get_or b.words (ready_at (q / 64)) 0) (2 ^ (q % 64)) in
        let was : is_ready b.words q ≡ 0 = omega (arith, r.kept q within, in-hand q x u.known.hand less) in record {
          sized = length-set b.words (ready_at (q / 64)) m ∙ r.sized;
          room = length-set b.homes q (some job) ∙ r.room;
          kept = λ p inside. omega (arith, r.kept p inside, free_else m p, raised ready_at ready_apart b.words q ready_room was p, blocked_else_ready m p, hands-less u q x less p);
          home = home-given u x job less;
          away = away-given u x job less;
          empty = given-empty x u.known.hand job less _ (free_else m);
        }

    -- from the seat to the free word
    pub keeps-free : (u : Token Notes) (x job : ℕ) → job ≡ 0 → v.known.hand ≡ (q, x) ∷ u.known.hand
        → HasOneKeeper blocks (record { words = set b.words (free_at (q / 64)) (bit_or (get_or b.words (free_at (q / 64)) 0) (2 ^ (q % 64))); homes = set b.homes q (some job); views = set b.views h u })
    keeps-free u x job nothing less = let m : ℕ = bit_or (get_or b.words (free_at (q / 64)) 0) (2 ^ (q % 64)) in
        let was : is_free b.words q ≡ 0 = omega (arith, r.kept q within, in-hand q x u.known.hand less) in record {
          sized = length-set b.words (free_at (q / 64)) m ∙ r.sized;
          room = length-set b.homes q (some job) ∙ r.room;
          kept = λ p inside. omega (arith, r.kept p inside, ready_else m p, raised free_at free_apart b.words q free_room was p, blocked_else_free m p, hands-less u q x less p);
          home = home-given u x job less;
          away = away-given u x job less;
          empty = λ p inside e. let more = raised free_at free_apart b.words q free_room was p in dite (ℕ_discrete q p)
              (λ s. subst (λ y. get_elem? (set b.homes q (some job)) y ≡ some (some 0)) s (set_here b.homes q (some job) (omega (arith, r.room, within)) ∙ ap (λ j. some (some j)) nothing))
              (λ ne. let none_ = one-apart q p ne in set_else b.homes q p (some job) (λ s. ne (sym s)) ∙ r.empty p inside (omega (arith, e, more, none_)));
        }

    -- from the seat to the mark
    pub keeps-block : (u : Token Notes) (x job m : ℕ) → v.known.hand ≡ (q, x) ∷ u.known.hand → m / 2 % 2 ≡ 1
        → HasOneKeeper blocks (record { words = set b.words (mark_at q) m; homes = set b.homes q (some job); views = set b.views h u })
    keeps-block u x job m less now =
        let was : is_blocked b.words q ≡ 0 = omega (arith, r.kept q within, in-hand q x u.known.hand less) in record {
          sized = length-set b.words (mark_at q) m ∙ r.sized;
          room = length-set b.homes q (some job) ∙ r.room;
          kept = λ p inside. omega (arith, r.kept p inside, free_else_mark m p, ready_else_mark m p, newly_blocked m was now p, hands-less u q x less p);
          home = home-given u x job less;
          away = away-given u x job less;
          empty = given-empty x u.known.hand job less _ (free_else_mark m);
        }

    -- from the mark to the seat
    pub keeps-wake : (u : Token Notes) (x m : ℕ) → is_blocked b.words q ≡ 1 → m / 2 % 2 ≡ 0 → u.known.hand ≡ (q, x) ∷ v.known.hand
        → HasOneKeeper blocks (record { words = set b.words (mark_at q) m; homes = set b.homes q none; views = set b.views h u })
    keeps-wake u x m was now more = record {
      sized = length-set b.words (mark_at q) m ∙ r.sized;
      room = length-set b.homes q none ∙ r.room;
      kept = λ p inside. omega (arith, r.kept p inside, free_else_mark m p, ready_else_mark m p, unblocked m was now p, hands-more u q x more p);
      home = home-taken u x more;
      away = away-taken u x more;
      empty = λ p inside e. dite (ℕ_discrete p q)
          (λ s. absurd (clash-blocked p inside (sym (free_else_mark m p) ∙ e) (subst (λ y. is_blocked b.words y ≡ 1) (sym s) was)))
          (λ ne. set_else b.homes q p none ne ∙ r.empty p inside (sym (free_else_mark m p) ∙ e));
    }

    -- a mark that is blocked as before
    pub keeps-mark : (u : Token Notes) (m : ℕ) → m / 2 % 2 ≡ is_blocked b.words q → ((p : ℕ) → in_hands p (set b.views h u) ≡ in_hands p b.views)
        → HasOneKeeper blocks (record { words = set b.words (mark_at q) m; homes = b.homes; views = set b.views h u })
    keeps-mark u m same hands = record {
      sized = length-set b.words (mark_at q) m ∙ r.sized;
      room = r.room;
      kept = λ p inside. omega (arith, r.kept p inside, free_else_mark m p, ready_else_mark m p, as_blocked m same p, hands p);
      home = λ p inside none_has. r.home p inside (sym (hands p) ∙ none_has);
      away = λ p inside has. let same = hands p in r.away p inside (omega (arith, same, has));
      empty = λ p inside e. r.empty p inside (sym (free_else_mark m p) ∙ e);
    }

  -- a change of the idle word or of the numbers, or of no word
  pub keeps-aside : (u : Token Notes) (i m : ℕ) → i < 16 → u.known.hand ≡ v.known.hand
      → HasOneKeeper blocks (record { words = set b.words i m; homes = b.homes; views = set b.views h u })
  keeps-aside u i m low places = record {
    sized = length-set b.words i m ∙ r.sized;
    room = r.room;
    kept = λ p inside.
        let f : is_free (set b.words i m) p ≡ is_free b.words p = ap (λ x. bit_at x (p % 64)) (get_or-set_other b.words i (free_at (p / 64)) m 0 (λ e. omega (arith, e, low))) in
        let d : is_ready (set b.words i m) p ≡ is_ready b.words p = ap (λ x. bit_at x (p % 64)) (get_or-set_other b.words i (ready_at (p / 64)) m 0 (λ e. omega (arith, e, low))) in
        let k : is_blocked (set b.words i m) p ≡ is_blocked b.words p = ap (λ x. x / 2 % 2) (get_or-set_other b.words i (mark_at p) m 0 (λ e. omega (arith, e, low))) in
        omega (arith, r.kept p inside, f, d, k, hands-same u places p);
    home = λ p inside none_has. r.home p inside (sym (hands-same u places p) ∙ none_has);
    away = λ p inside has. let same = hands-same u places p in r.away p inside (omega (arith, same, has));
    empty = λ p inside e. r.empty p inside (sym (ap (λ x. bit_at x (p % 64)) (get_or-set_other b.words i (free_at (p / 64)) m 0 (λ e. omega (arith, e, low)))) ∙ e);
  }

  -- a change of a summary word
  pub keeps-summary : (u : Token Notes) (d m : ℕ) → u.known.hand ≡ v.known.hand
      → HasOneKeeper blocks (record { words = set b.words (summary_at d) m; homes = b.homes; views = set b.views h u })
  keeps-summary u d m places = record {
    sized = length-set b.words (summary_at d) m ∙ r.sized;
    room = r.room;
    kept = λ p inside.
        let f : is_free (set b.words (summary_at d) m) p ≡ is_free b.words p = ap (λ x. bit_at x (p % 64)) (get_or-set_other b.words (summary_at d) (free_at (p / 64)) m 0 (λ e. omega (arith, e))) in
        let g : is_ready (set b.words (summary_at d) m) p ≡ is_ready b.words p = ap (λ x. bit_at x (p % 64)) (get_or-set_other b.words (summary_at d) (ready_at (p / 64)) m 0 (λ e. omega (arith, e))) in
        let k : is_blocked (set b.words (summary_at d) m) p ≡ is_blocked b.words p = ap (λ x. x / 2 % 2) (get_or-set_other b.words (summary_at d) (mark_at p) m 0 (λ e. omega (arith, e))) in
        omega (arith, r.kept p inside, f, g, k, hands-same u places p);
    home = λ p inside none_has. r.home p inside (sym (hands-same u places p) ∙ none_has);
    away = λ p inside has. let same = hands-same u places p in r.away p inside (omega (arith, same, has));
    empty = λ p inside e. r.empty p inside (sym (ap (λ x. bit_at x (p % 64)) (get_or-set_other b.words (summary_at d) (free_at (p / 64)) m 0 (λ f. omega (arith, f)))) ∙ e);
  }

  pub keeps-places : (u : Token Notes) → ((p : ℕ) → in_hands p (set b.views h u) ≡ in_hands p b.views) → HasOneKeeper blocks (record { words = b.words; homes = b.homes; views = set b.views h u })
  keeps-places u same = record {
    sized = r.sized;
    room = r.room;
    kept = λ p inside. omega (arith, r.kept p inside, same p);
    home = λ p inside none_has. r.home p inside (sym (same p) ∙ none_has);
    away = λ p inside has. let e = same p in r.away p inside (omega (arith, e, has));
    empty = r.empty;
  }

  pub keeps-view : (u : Token Notes) → u.known.hand ≡ v.known.hand → HasOneKeeper blocks (record { words = b.words; homes = b.homes; views = set b.views h u })
  keeps-view u places = keeps-places u (hands-same u places)
