-- Several ready bits of a block that are cleared in one step.
use Rattle.std.proofs.Common.{◌≡◌, ◌≢◌, ◌⊎◌, inl, inr, ⊎_elim, ℕ, zero, suc, ◌+◌, ◌-◌, ◌*◌, ◌/◌, ◌%◌, ◌^◌, ◌<◌, ◌≤◌, List, [], ◌∷◌, ◌++◌, map, get_or, set, if◌then◌else◌, sym, refl, ap, ◌∙◌, subst, arith, get_or-set_same, set-set, eq-eqb, ne_eqb}
use Rattle.std.specs.Int.{bit_at, w64, RustNames.bit_and}
use Rattle.std.proofs.lemmas.Nat.{and_le_l, Bits.{bit_at-lt, bit_at_and, bit_at_not, same_from_bits_below}}
use mathlib.Core.{Logic.dite, Option.{some, none, some-ne-none}}
use mathlib.Core.Option as maybe
use native.Mathlib.Decide.{ℕ_discrete}
use lib.ListN.{get_elem?}
use Rattle.atomic_table.specs.Table.{Act, keeps, takes, chain, step, Allows, stepped, homes_after, carried_after, Valid}
use Rattle.arachne_weights.specs.{declared.token.Token.Token, Tokens.held}
use Rattle.arachne_exec.specs.{declared.view.Notes.Notes, Layout.{ready_at, others, places_from, places_in_word}}
use Rattle.arachne_exec.specs.{Board.{Board, HasCome, IsLawful}, Changes.{gaining, noted}, Steps.TakesMany}
use Rattle.arachne_exec.proofs.{Bits.{clear_same, clear_other, clear_le, not_one}, Keeping.ready_apart}
use Rattle.arachne_exec.proofs.{Coming.{told-found, comes}, Moves.{ready-job, taken-law, noting}}

-- a seat that is there has the view that it was given
set_mine : (views : List (Token Notes)) (id : ℕ) (v u : Token Notes) → get_elem? views id ≡ some v → get_elem? (set views id u) id ≡ some u
set_mine [] id v u e = absurd (some-ne-none v (sym e))
set_mine (x ∷ xs) zero v u e = refl
set_mine (x ∷ xs) (suc id) v u e = set_mine xs id v u e

-- the bits from an index on, of so many, that were picked are cleared: the seat has the places of those that were set
record Cleared (shards id w block pick : ℕ) (s : Board) (k : Notes) (xs : List (ℕ × ℕ)) (i more : ℕ) : Type 0 where
  pub jobs : List (ℕ × ℕ)
  pub act : Act ℕ
  pub word : ℕ
  pub places : map (λ (x : ℕ × ℕ). x.0) jobs ≡ places_from block (bit_and (get_or s.words (ready_at block) 0) pick) i more
  pub below : word < 2 ^ 64
  pub kept : (j : ℕ) → j < 64 → (j < i) ⊎ (bit_at pick j ≡ 0) → bit_at word j ≡ bit_at (get_or s.words (ready_at block) 0) j
  pub gone : (j : ℕ) → i ≤ j → j < 64 → bit_at pick j ≡ 1 → bit_at word j ≡ 0
  pub carried : carried_after xs act ≡ jobs ++ xs
  pub valid : Valid s.homes xs act
  pub lawful : IsLawful shards (stepped s (ready_at block) word id xs (held w (gaining jobs k)) act)

module _ (shards slots id w block pick : ℕ) (inside : block < 64 * shards) (s : Board) (h : IsLawful shards s) (k : Notes) (xs : List (ℕ × ℕ)) (mine : get_elem? s.views id ≡ some (held w k))
    (small : get_or s.words (ready_at block) 0 < 2 ^ 64) where
  abbrev l : Notes
  l = noted (ready_at block) (get_or s.words (ready_at block) 0) k

  -- the next lower bit is picked, and set
  one_more : (i more : ℕ) → i < 64 → bit_at (bit_and (get_or s.words (ready_at block) 0) pick) i ≡ 1 → Cleared shards id w block pick s l xs (suc i) more → Cleared shards id w block pick s l xs i (suc more)
  one_more i more low there c =
      let q : ℕ = 64 * block + i in let row : q / 64 ≡ block = omega (arith, low) in let col : q % 64 ≡ i = omega (arith, low) in
      let both = bit_at_and (get_or s.words (ready_at block) 0) pick i in
      let set_there : bit_at (get_or s.words (ready_at block) 0) i ≡ 1 = omega (arith, both, there, bit_at-lt (get_or s.words (ready_at block) 0) i, bit_at-lt pick i) in
      let picked : bit_at pick i ≡ 1 = omega (arith, both, there, bit_at-lt (get_or s.words (ready_at block) 0) i, bit_at-lt pick i) in
      let seat : Token Notes = held w (gaining c.jobs l) in
      let t : Board = stepped s (ready_at block) c.word id xs seat c.act in
      let word_is : get_or t.words (ready_at block) 0 ≡ c.word = get_or-set_same s.words (ready_at block) c.word 0 (omega (arith, h.keeper.sized, inside)) in
      let word_at : get_or t.words (ready_at (q / 64)) 0 ≡ c.word = ap (λ b. get_or t.words (ready_at b) 0) row ∙ word_is in
      let bit_there : bit_at (get_or t.words (ready_at (q / 64)) 0) (q % 64) ≡ 1 = (λ j. bit_at (word_at j) (col j)) ∙ c.kept i low (inl (omega arith)) ∙ set_there in
      let come = set_mine s.views id (held w k) seat mine in let within : q < 64 * (64 * shards) = omega (arith, inside, low) in
      let job = ready-job shards slots id w t c.lawful (gaining c.jobs l) come q within bit_there in
      let now : ℕ = bit_and c.word (others i) in
      let words = (λ j. set t.words (ready_at (row j)) (bit_and (word_at j) (others (col j)))) ∙ set-set s.words (ready_at block) c.word now in
      let next : Notes = gaining ((q, job.0) ∷ c.jobs) l in let views = set-set s.views id seat (held w next) in
      let homes : List (maybe.Option ℕ) = homes_after s.homes xs (chain c.act (takes q job.0)) in
      let came = subst (λ (z : List ℕ × List (Token Notes)). HasCome shards (record { words = z.0; homes = homes; views = z.1 })) (λ j. (sym words j, sym views j))
      (comes shards id w s h k mine (ready_at block) next now homes (told-found refl (λ d e. omega (arith, e)) (refl, refl, refl, refl, refl, refl, refl, refl, refl, refl) ((q, job.0) ∷ c.jobs, refl, refl))) in
      let law = taken-law shards slots id w t c.lawful (gaining c.jobs l) come q within bit_there l.looks came (λ p e. absurd (omega (arith, e))) in
      record {
        jobs = (q, job.0) ∷ c.jobs;
        act = chain c.act (takes q job.0);
        word = now;
        places = ap (λ ps. (64 * block + i) ∷ ps) c.places
            ∙ sym (ap (λ b. if b then (64 * block + i) ∷ places_from block (bit_and (get_or s.words (ready_at block) 0) pick) (suc i) more else places_from block (bit_and (get_or s.words (ready_at block) 0) pick) (suc i) more)
            (eq-eqb (bit_at (bit_and (get_or s.words (ready_at block) 0) pick) i) 1 there));
        below = omega (arith, clear_le c.word i low, c.below);
        kept = λ j inner why. dite (ℕ_discrete j i)
            (λ e. absurd (⊎_elim (λ less. omega (arith, less, e)) (λ unpicked. let z : 0 ≡ 1 = sym unpicked ∙ ap (bit_at pick) e ∙ picked in omega (arith, z)) why))
            (λ ne. clear_other c.word i low j inner ne ∙ c.kept j inner (⊎_elim (λ less. inl (omega (arith, less))) (λ unpicked. inr unpicked) why));
        gone = λ j from inner is. dite (ℕ_discrete j i)
            (λ e. ap (bit_at now) e ∙ clear_same c.word i low)
            (λ ne. clear_other c.word i low j inner ne ∙ c.gone j (let apart : ¬ (j ≡ i) = ne in omega (arith, from, apart)) inner is);
        carried = ap (λ (zs : List (ℕ × ℕ)). (q, job.0) ∷ zs) c.carried;
        valid = (c.valid, job.1);
        lawful = subst (λ (z : List ℕ × List (Token Notes)). IsLawful shards (record { words = z.0; homes = homes_after s.homes xs (chain c.act (takes q job.0)); views = z.1 })) (λ j. (words j, views j)) law;
      }

  -- it isn't
  none_more : (i more : ℕ) → i < 64 → bit_at (bit_and (get_or s.words (ready_at block) 0) pick) i ≢ 1 → Cleared shards id w block pick s l xs (suc i) more → Cleared shards id w block pick s l xs i (suc more)
  none_more i more low other c =
      let both = bit_at_and (get_or s.words (ready_at block) 0) pick i in let clear = not_one (bit_and (get_or s.words (ready_at block) 0) pick) i other in record {
        jobs = c.jobs;
        act = c.act;
        word = c.word;
        places = c.places
            ∙ sym (ap (λ b. if b then (64 * block + i) ∷ places_from block (bit_and (get_or s.words (ready_at block) 0) pick) (suc i) more else places_from block (bit_and (get_or s.words (ready_at block) 0) pick) (suc i) more)
            (ne_eqb (bit_at (bit_and (get_or s.words (ready_at block) 0) pick) i) 1 other));
        below = c.below;
        kept = λ j inner why. c.kept j inner (⊎_elim (λ less. inl (omega (arith, less))) (λ unpicked. inr unpicked) why);
        gone = λ j from inner is. dite (ℕ_discrete j i)
            (λ e. let picked = sym (ap (bit_at pick) e) ∙ is in let was = c.kept i low (inl (omega arith)) in
            ap (bit_at c.word) e ∙ was ∙ omega (arith, both, clear, picked, bit_at-lt (get_or s.words (ready_at block) 0) i))
            (λ ne. c.gone j (let apart : ¬ (j ≡ i) = ne in omega (arith, from, apart)) inner is);
        carried = c.carried;
        valid = c.valid;
        lawful = c.lawful;
      }

  all : (more i : ℕ) → i + more ≡ 64 → Cleared shards id w block pick s l xs i more
  all zero i end = record {
    jobs = [];
    act = keeps;
    word = get_or s.words (ready_at block) 0;
    places = refl;
    below = small;
    kept = λ j inner why. refl;
    gone = λ j from inner is. absurd (omega (arith, end, from, inner));
    carried = refl;
    valid = tt;
    lawful = noting shards slots id w s h k mine xs (ready_at block) (λ d e. omega (arith, e));
  }
  all (suc more) i end = let c = all more (suc i) (omega (arith, end)) in let low : i < 64 = omega (arith, end) in dite (ℕ_discrete (bit_at (bit_and (get_or s.words (ready_at block) 0) pick) i) 1)
      (λ there. one_more i more low there c)
      (λ other. none_more i more low other c)

-- the word then is that of the one step
same_word : (n pick word : ℕ) → n < 2 ^ 64 → pick < 2 ^ 64 → word < 2 ^ 64 → ((j : ℕ) → j < 64 → (j < 0) ⊎ (bit_at pick j ≡ 0) → bit_at word j ≡ bit_at n j)
    → ((j : ℕ) → 0 ≤ j → j < 64 → bit_at pick j ≡ 1 → bit_at word j ≡ 0) → word ≡ bit_and n (2 ^ 64 - 1 - pick)
same_word n pick word small low below kept gone = same_from_bits_below 64 word (bit_and n (2 ^ 64 - 1 - pick)) below (omega (arith, and_le_l n (2 ^ 64 - 1 - pick), small))
    (λ j inner. let both = bit_at_and n (2 ^ 64 - 1 - pick) j in let other = bit_at_not w64 pick j low inner in let b = bit_at-lt n j in dite (ℕ_discrete (bit_at pick j) 1)
    (λ is. let z = gone j (omega arith) inner is in omega (arith, both, other, is, z))
    (λ no. let z = not_one pick j no in let same = kept j inner (inr z) in omega (arith, both, other, z, same, b)))

pub takes_many : (shards slots id w : ℕ) (k : Notes) (xs : List (ℕ × ℕ)) (block pick : ℕ) → block < 64 * shards → pick < 2 ^ 64
    → Allows (IsLawful shards) slots id (held w k, xs) (ready_at block) (λ n. bit_and n (2 ^ 64 - 1 - pick)) (TakesMany (step slots (ready_at block) (2 ^ 64 - 1 - pick) 0 none) (held w k, xs))
takes_many shards slots id w k xs block pick inside low s h _ mine small =
    let n : ℕ = get_or s.words (ready_at block) 0 in let l : Notes = noted (ready_at block) n k in
    let c = all shards slots id w block pick inside s h k xs mine small 64 0 refl in
    let is = same_word (get_or s.words (ready_at block) 0) pick c.word small low c.below c.kept c.gone in (
      held w (gaining c.jobs l),
      c.act,
      c.valid,
      subst (λ y. IsLawful shards (stepped s (ready_at block) y id xs (held w (gaining c.jobs l)) c.act)) is c.lawful,
      λ b p under at first. let eb : block ≡ b = ready_apart block b at in let ep : pick ≡ p = omega (arith, first, low, under) in
          (c.jobs, c.places ∙ (λ j. places_in_word (eb j) (bit_and (get_or s.words (ready_at block) 0) (ep j))), λ j. (held w (gaining c.jobs l), c.carried j)),
    )
