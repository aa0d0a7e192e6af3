-- What a step has noted, and that seats which have come about are tokens that can.
use Rattle.std.proofs.Common.{◌≡◌, ◌≢◌, ◌⊎◌, inl, inr, ⊎_elim, ℕ, zero, suc, ◌+◌, ◌^◌, ◌<◌, List, ◌∷◌, ◌++◌, get_or, set, refl, sym, ◌∙◌, subst, arith}
use Rattle.std.specs.Int.{bit_at, RustNames.bit_or}
use Rattle.std.proofs.lemmas.List.{set-get_or}
use mathlib.Core.{Logic.dite, Option.some}
use mathlib.Core.Option as maybe
use native.Mathlib.Decide.{ℕ_discrete}
use lib.ListN.{get_elem?}
use Rattle.arachne_weights.specs.Tokens.{held}
use Rattle.arachne_weights.specs.Tokens as tokens
use Rattle.arachne_exec.specs.declared.view.{Notes.Notes, SleepDeed.SleepDeed}
use Rattle.arachne_exec.specs.declared.view.SleepDeed.TheVariants.{LayDown, LayOn, Rose}
use Rattle.arachne_exec.specs.Layout.{idle_at, numbers_at, ready_at, mark_at}
use Rattle.arachne_exec.specs.Changes.{blank, splitting, together, heard_more, lain_more, risen_more}
use Rattle.arachne_exec.specs.Board.{Board, IsLawful, Adds, AddsDeed, KeepsJobs, MayNote, HasChanged, IsTold, after_step, HasCome, begins, acts, splits, joins}
use Rattle.arachne_exec.proofs.Bits.{set_same, set_other}

-- ---- one more is noted, or none

pub adds-heard : (n place : ℕ) (xs : List ℕ) → Adds xs (heard_more n place xs)
adds-heard zero place xs = inl refl
adds-heard (suc n) place xs = inr (place, refl)

module _ (found put worker : ℕ) (xs : List SleepDeed) where
  pub adds-risen : (n : ℕ) → bit_at found worker ≡ n → n < 2 → bit_at put worker ≡ 0 → AddsDeed idle_at found put xs (risen_more n worker xs)
  adds-risen zero was low now = inl refl
  adds-risen (suc n) was low now = inr (Rose worker, refl, (refl, omega (arith, was, low), now))

  pub adds-lain : (n : ℕ) → bit_at found worker ≡ n → n < 2 → bit_at put worker ≡ 1 → AddsDeed idle_at found put xs (lain_more n worker xs)
  adds-lain zero was low now = inr (LayDown worker, refl, (refl, was, now))
  adds-lain (suc n) was low now = inr (LayOn worker, refl, (refl, omega (arith, was, low), now))

-- ---- the worker numbers have not changed, and no ready bit was cleared

unequal : (n i : ℕ) → bit_at n i ≡ 1 → bit_at n i ≡ 0 → ⊥
unequal n i a b = let wrong : 1 ≡ 0 = sym a ∙ b in omega (arith, wrong)

pub clears-none : (word n : ℕ) → ¬ HasChanged word n n
clears-none word n = ⊎_elim (λ numbers. numbers.1 refl) (λ ready. unequal n ready.2 ready.3 ready.4)

pub sets-one : (block n i : ℕ) → ¬ HasChanged (ready_at block) n (bit_or n (2 ^ i))
sets-one block n i = ⊎_elim
    (λ numbers. omega (arith, numbers.0))
    (λ ready. dite (ℕ_discrete ready.2 i)
    (λ e. unequal (bit_or n (2 ^ i)) i (set_same n i) (subst (λ j. bit_at (bit_or n (2 ^ i)) j ≡ 0) e ready.4))
    (λ ne. unequal n ready.2 ready.3 (sym (set_other n i ready.2 ne) ∙ ready.4)))

pub changes-elsewhere : (word found put : ℕ) → word ≢ numbers_at → ((block : ℕ) → word ≢ ready_at block) → ¬ HasChanged word found put
changes-elsewhere word found put numbers ready = ⊎_elim (λ is. numbers is.0) (λ is. ready is.0 is.1)

-- ---- what a step tells

-- the seat has noted nothing but what it found, or nothing at all
abbrev pub Idles : Notes → Notes → Type 0
Idles k l = (l.spawned ≡ k.spawned) × (l.ended ≡ k.ended) × (l.woken ≡ k.woken) × (l.heard ≡ k.heard) × (l.blocked ≡ k.blocked) × (l.unblocked ≡ k.unblocked) × (l.freed ≡ k.freed) × (l.sleeps ≡ k.sleeps) × (l.splits ≡ k.splits) × (l.unspawned ≡ k.unspawned)

-- the hand keeps what it has
abbrev pub Holds : Notes → Notes → Type 0
Holds k l = (jobs : List (ℕ × ℕ)) × (l.hand ≡ jobs ++ k.hand) × (l.rested ≡ k.rested)

module _ {word found put : ℕ} {k l : Notes} where
  told : ((l.looks ≡ (word, found) ∷ k.looks) × MayNote word k) ⊎ ((place : ℕ) × (word ≡ mark_at place) × (l.looks ≡ (word, put) ∷ k.looks)) ⊎ ((l.looks ≡ k.looks) × ¬ HasChanged word found put) → Idles k l → KeepsJobs k l → IsTold word found put k l
  told looks e hand = record {
    looks = looks;
    spawned = inl e.0;
    owed_job = inl e.9;
    ended = inl e.1;
    woken = inl e.2;
    heard = inl e.3;
    blocked = inl e.4;
    unblocked = inl e.5;
    freed = inl e.6;
    hand = hand;
    sleeps = inl e.7;
    splits = e.8;
  }

  pub told-found : l.looks ≡ (word, found) ∷ k.looks → MayNote word k → Idles k l → Holds k l → IsTold word found put k l
  told-found looks may e hand = told (inl (looks, may)) e (inl hand)

  pub told-nothing : l.looks ≡ k.looks → ¬ HasChanged word found put → Idles k l → Holds k l → IsTold word found put k l
  told-nothing looks same e hand = told (inr (inr (looks, same))) e (inl hand)

  -- a job was made ready
  pub told-rested : l.looks ≡ k.looks → ¬ HasChanged word found put → Idles k l → l.rested ≡ k.rested + 1 → IsTold word found put k l
  told-rested looks same e rested = told (inr (inr (looks, same))) e (inr (inl rested))

module _ (shards id w : ℕ) (s : Board) (h : IsLawful shards s) (k : Notes) (mine : get_elem? s.views id ≡ some (held w k)) (i : ℕ) (l : Notes) where
  pub comes : (put : ℕ) (homes : List (maybe.Option ℕ)) → IsTold i (get_or s.words i 0) put k l → HasCome shards (after_step s id w i put l homes)
  comes put homes told_so = acts h.came (h.keeper, h.balance, h.turns, h.hears, h.names, h.shows, h.sleep) id w i put k l homes mine told_so

  -- where the word stays
  pub comes-still : IsTold i (get_or s.words i 0) (get_or s.words i 0) k l → HasCome shards (record { words = s.words; homes = s.homes; views = set s.views id (held w l) })
  comes-still told_so = subst (λ ws. HasCome shards (record { words = ws; homes = s.homes; views = set s.views id (held w l) })) (set-get_or s.words i 0) (comes (get_or s.words i 0) s.homes told_so)

pub reached : {shards : ℕ} {b : Board} → HasCome shards b → tokens.IsReachable blank b.views
reached (begins b first one) = subst (tokens.IsReachable blank) (sym one) (tokens.begins blank)
reached (acts come kept seat weight word put k l homes mine told_so) = tokens.learns (reached come) seat weight k l mine
reached (splits come seat weight k mine) = tokens.splits (reached come) seat weight k (splitting k) blank mine
reached (joins come seat other weight added k l mine apart from) = tokens.joins (reached come) seat other weight added k l (together k l) mine apart from
