-- At a place there is one job at most.
use Rattle.std.proofs.Common.{◌≡◌, ◌≢◌, ℕ, ◌+◌, ◌*◌, ◌<◌, ◌≤◌, List, [], ◌∷◌, sym, ap, ◌∙◌, arith}
use Rattle.std.specs.List.{sum_by}
use Rattle.std.proofs.lemmas.List.Sums.{sum_by-cons}
use mathlib.Core.{Logic.dite, Option.{some, none}}
use mathlib.Core.Option as maybe
use native.Mathlib.Decide.{ℕ_discrete}
use lib.ListN.{get_elem?}
use Rattle.arachne_weights.specs.declared.token.Token.{Token}
use Rattle.arachne_exec.specs.declared.view.Notes.{Notes}
use Rattle.arachne_exec.specs.Board.{one, one_at, places_in, times_at, in_slot, in_hands, Board, HasOneKeeper}
use Rattle.arachne_exec.specs.Promises.{lives_at}
use Rattle.arachne_exec.proofs.{Bits.{one-same, one-apart}, Balancing.{at-here, at-else}}

-- two counts are within a third
sums-within : {X : Type 0} (f g h : X → ℕ) → ((x : X) → f x + g x ≤ h x) → (xs : List X) → sum_by f xs + sum_by g xs ≤ sum_by h xs
sums-within f g h within [] = omega arith
sums-within f g h within (x ∷ xs) = omega (arith, within x, sums-within f g h within xs, sum_by-cons f x xs, sum_by-cons g x xs, sum_by-cons h x xs)

module _ (p job other : ℕ) (apart : job ≢ other) where
  -- a number isn't both
  not-both : (x : ℕ) → one x job + one x other ≤ 1
  not-both x = dite (ℕ_discrete x job)
      (λ e. let a = one-same x job e in let c = one-apart x other (λ f. apart (sym e ∙ f)) in omega (arith, a, c))
      (λ ne. let a = one-apart x job ne in dite (ℕ_discrete x other)
      (λ f. let c = one-same x other f in omega (arith, a, c))
      (λ nf. let c = one-apart x other nf in omega (arith, a, c)))

  each : (z : ℕ × ℕ) → one_at p job z + one_at p other z ≤ one z.0 p
  each z = dite (ℕ_discrete z.0 p)
      (λ e. let a = at-here p job z.0 z.1 e in let c = at-here p other z.0 z.1 e in let d = one-same z.0 p e in let few = not-both z.1 in omega (arith, a, c, d, few))
      (λ ne. let a = at-else p job z.0 z.1 ne in let c = at-else p other z.0 z.1 ne in omega (arith, a, c))

  in-slot : (h : maybe.Option (maybe.Option ℕ)) → in_slot job h + in_slot other h ≤ 1
  in-slot none = omega arith
  in-slot (some none) = omega arith
  in-slot (some (some x)) = not-both x

  hands : (views : List (Token Notes)) → sum_by (λ (t : Token Notes). times_at p job t.known.hand) views + sum_by (λ (t : Token Notes). times_at p other t.known.hand) views ≤ in_hands p views
  hands views = sums-within (λ (t : Token Notes). times_at p job t.known.hand) (λ (t : Token Notes). times_at p other t.known.hand) (λ (t : Token Notes). places_in p t.known.hand)
      (λ t. sums-within (one_at p job) (one_at p other) (λ (z : ℕ × ℕ). one z.0 p) each t.known.hand) views

pub one-job : (blocks : ℕ) (b : Board) → HasOneKeeper blocks b → (p : ℕ) → p < 64 * blocks → (job other : ℕ) → job ≢ other → lives_at p job b + lives_at p other b ≤ 1
one-job blocks b r p inside job other apart =
    let few = hands p job other apart b.views in dite (ℕ_discrete (in_hands p b.views) 0)
    (λ nobody. let slot = in-slot p job other apart (get_elem? b.homes p) in omega (arith, few, nobody, slot))
    (λ somebody. let has : ¬ (in_hands p b.views ≡ 0) = somebody in let away = r.away p inside (omega (arith, has)) in
    let a : in_slot job (get_elem? b.homes p) ≡ 0 = ap (in_slot job) away in let c : in_slot other (get_elem? b.homes p) ≡ 0 = ap (in_slot other) away in omega (arith, few, r.kept p inside, a, c))
