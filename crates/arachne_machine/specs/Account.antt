-- The effects of a thread so far, beside its value.
use Rattle.std.specs.Prelude.{ℕ, ◌+◌, List, [], ◌∷◌, ◌++◌, length}
use Rattle.arachne_program.specs.{declared.meaning.Line.Line, Effects.{Child, Effects, line_of}}

pub record Account : Type 0 where
  -- for each ledger, the sum of all that was added to it, by the joined children too
  pub sums : ℕ → ℕ
  -- for each lock, the number of times that the thread has held it
  pub holds : ℕ → ℕ
  -- the children that it has forked, in order
  pub children : List Child
  -- the lines of the threads below it, as far as they were joined
  pub lines : List Line

abbrev pub untouched : Account
untouched = record { sums = λ ledger. 0; holds = λ lock. 0; children = []; lines = [] }

-- the account of the thread of this name after these effects
unfoldable pub after : List ℕ → Effects → Account → Account
after name effects account = record {
  sums = λ ledger. account.sums ledger + effects.sums ledger;
  holds = λ lock. account.holds lock + effects.holds lock;
  children = account.children ++ effects.children;
  lines = account.lines ++ effects.lines name (length account.children);
}

-- the account after a fork
unfoldable pub with_fork : Child → Account → Account
with_fork child account = record account { children = account.children ++ child ∷ [] }

-- the account after the join of the child of this number, which had these effects
unfoldable pub with_join : ℕ → List ℕ → ℕ → Effects → Account → Account
with_join locks name number child account = record {
  sums = λ ledger. account.sums ledger + child.sums ledger;
  holds = account.holds;
  children = account.children;
  lines = account.lines ++ (line_of locks (name ++ number ∷ []) child ∷ child.lines (name ++ number ∷ []) 0);
}
