-- The children of the jobs in one slot that were forked and not joined yet.
use Rattle.std.specs.Prelude.{◌≡◌, ℕ, ◌+◌, List, ◌∷◌, drop}

-- `all` has the children, each as it was forked, the newest first; `aside` is the number of them that have not begun
pub record Children (Job : Type 0) : Type 0 where
  pub all : List Job
  pub aside : ℕ

module _ {Job : Type 0} where
  -- adds a child that has not begun, as the newest
  abbrev pub with_aside : Job → Children Job → Children Job
  with_aside child old = record { all = child ∷ old.all; aside = old.aside + 1 }

  -- true if the newest child, which had not begun, was removed
  abbrev pub LosesAside : Job → Children Job → Children Job → Type 0
  LosesAside child old new = old ≡ with_aside child new

  -- true if the newest child, which had begun, was removed
  pub record LosesBegun (old new : Children Job) : Type 0 where
    pub all : new.all ≡ drop 1 old.all
    pub aside : new.aside ≡ old.aside
