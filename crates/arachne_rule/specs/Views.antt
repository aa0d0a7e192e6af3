-- The knowledge of seats: the contexts that they carry, the threads that they have posted and ended, and the steps that
-- they have made.
use Rattle.std.specs.{Prelude.{ℕ, if◌then◌else◌, ◌==◌, List, [], ◌∷◌, ◌++◌, slice_index_or, count_by}, List.sum_by}
use Rattle.arachne_core.specs.World.{Thread, same_thread}
use Rattle.arachne_weights.specs.{declared.token.Token.Token, Weight.{first_part, second_part, joined}}
use Rattle.arachne_weights.specs.Tokens.{held, spent}
use Rattle.arachne_rule.specs.declared.view.{Carried.Carried, Kind.Kind, Known.Known}

abbrev pub blank : Known
blank = record { carried = []; given = []; ended = []; records = [] }

-- the knowledge of the seat of this number
abbrev pub known_at : List (Token Known) → ℕ → Known
known_at views h = (slice_index_or views h (spent blank)).known

-- ---- the contexts that a seat carries

-- the entries of the list for context x
abbrev pub carried_at : ℕ → List Carried → List Carried
carried_at x [] = []
carried_at x (c ∷ cs) = if c.context == x then c ∷ carried_at x cs else carried_at x cs

abbrev pub without : ℕ → List Carried → List Carried
without x [] = []
without x (c ∷ cs) = if c.context == x then without x cs else c ∷ without x cs

-- the list with c as the only entry for its context
abbrev pub with_carried : Carried → List Carried → List Carried
with_carried c cs = c ∷ without c.context cs

abbrev pub with_context : Known → Carried → Known
with_context k c = record k { carried = with_carried c k.carried }

abbrev pub without_context : Known → Carried → Known
without_context k c = record k { carried = without c.context k.carried }

-- the thread that is in the context
abbrev pub thread_in : Carried → Thread
thread_in c = (record { context = c.context; generation = c.generation }, c.tag)

-- ---- the steps that a seat has made

-- the knowledge with one more step: its kind, the word's index, and the numbers in the word before and after it
abbrev pub noted : Kind → ℕ → ℕ → ℕ → Known → Known
noted kind word before after k = record k { records = record { kind = kind; word = word; before = before; after = after } ∷ k.records }

-- ---- the number of times that the seats have posted or ended a thread

abbrev pub given_in : Thread → List (Token Known) → ℕ
given_in t views = sum_by (λ (v : Token Known). count_by (same_thread t) v.known.given) views

abbrev pub ended_in : Thread → List (Token Known) → ℕ
ended_in t views = sum_by (λ (v : Token Known). count_by (same_thread t) v.known.ended) views

-- ---- a split and a join of seats

-- the first seat keeps what is known, and the second begins with no knowledge
abbrev pub first_seat : Token Known → Token Known
first_seat v = held (first_part v.weight) v.known

abbrev pub second_seat : Token Known → Token Known
second_seat v = held (second_part v.weight) blank

-- the knowledge of a seat after another, which carries nothing, was joined into it: it also has what that one has
-- posted and ended
abbrev pub joined_known : Known → Known → Known
joined_known k o = record k { given = k.given ++ o.given; ended = k.ended ++ o.ended }

abbrev pub joined_seat : Token Known → Token Known → Token Known
joined_seat v u = held (joined v.weight u.weight) (joined_known v.known u.known)
