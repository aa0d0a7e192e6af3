-- The output for a meaning.
use Rattle.std.specs.Prelude.{ℕ, ◌+◌, Bool, if◌then◌else◌, List, [], ◌∷◌, ◌++◌, length, map, codes, decimal}
use Rattle.std.specs.List.{flat_map}
use Rattle.arachne_lang.specs.Spelling.{after_spaces}
use Rattle.arachne_program.specs.declared.meaning.{Line.Line, Meaning.Meaning}

-- a word and numbers, separated by one space, and a newline
abbrev pub line_of : List ℕ → List ℕ → List ℕ
line_of word numbers = word ++ after_spaces (map decimal numbers) ++ 10 ∷ []

-- a line for each total, with the ledger's number, which is counted from this one
abbrev pub ledger_lines : ℕ → List ℕ → List ℕ
ledger_lines ledger [] = []
ledger_lines ledger (total ∷ totals) = line_of (codes "ledger") (ledger ∷ total ∷ []) ++ ledger_lines (ledger + 1) totals

-- a slash and the number of each fork; the root's name is only a slash
abbrev pub name_text : List ℕ → List ℕ
name_text [] = 47 ∷ []
name_text (fork ∷ forks) = flat_map (λ number. 47 ∷ decimal number) (fork ∷ forks)

-- a thread's name, and the number of times that it held each lock
abbrev pub thread_line : Line → List ℕ
thread_line thread = line_of (codes "thread " ++ name_text thread.name) thread.holds

-- the value, the total of each ledger, and the number of threads
abbrev pub summary_of : ℕ → List ℕ → ℕ → List ℕ
summary_of value totals threads =
    line_of (codes "value") (value ∷ [])
    ++ ledger_lines 0 totals
    ++ line_of (codes "threads") (threads ∷ [])

-- the summary, and a line for each thread if the names are wanted
abbrev pub output_of : Bool → Meaning → List ℕ
output_of names meaning =
    summary_of meaning.value meaning.totals (length meaning.threads)
    ++ (if names then flat_map thread_line meaning.threads else [])
