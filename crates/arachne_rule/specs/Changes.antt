-- The effect of each kind of step on what its seat knows, on the phases, and on the words.
use Rattle.std.specs.Prelude.{ℕ, ◌+◌, ◌^◌, true, false, if◌then◌else◌, ◌∷◌}
use Rattle.arachne_core.specs.declared.{layout.TheConstants.MASK_BITS, place.Place.Place, mark.Mark.Mark}
use Rattle.arachne_core.specs.declared.mark.Mark.TheVariants as mark
use Rattle.arachne_core.specs.{Place.same_place, Marked.Marked, World.with_at}
use Rattle.arachne_rule.specs.declared.view.{Carried.Carried, Known.Known}
use Rattle.arachne_rule.specs.{Views.{with_context, without_context, thread_in}, Rule.Phase}

-- the map of place words in which p names x
abbrev pub with_name : (Place → ℕ) → Place → ℕ → Place → ℕ
with_name names p x q = if same_place q p then x else names q

-- ---- a context as its carrier knows it, after a step

-- after a claim of a place: the context, at the place p and with no call in progress
abbrev pub claimed_context : ℕ → Place → ℕ → Carried
claimed_context x p generation = record { context = x; place = p; shown = p; generation = generation; held = false; tag = 0; alone = false; named = true; away = false }

-- after a claim of a whole core
abbrev pub alone_context : ℕ → ℕ → ℕ → Carried
alone_context x core generation = record {
  context = x;
  place = record { core = core; index = 0 };
  shown = record { core = core; index = 0 };
  generation = generation;
  held = false;
  tag = 0;
  alone = true;
  named = true;
  away = false;
}

-- after a take by a mark word that was seen: the slot is out, and the place word may name another context
abbrev pub taken_context : ℕ → Marked → ℕ → Carried
taken_context x m tag = record {
  context = x;
  place = m.place;
  shown = m.place;
  generation = m.generation;
  held = true;
  tag = tag;
  alone = m.alone;
  named = false;
  away = true;
}

-- after the end of its thread: claimed again, for the next generation
abbrev pub claimed_again : Carried → Carried
claimed_again c = record c { held = false; tag = 0; generation = c.generation + 1; away = false; shown = c.place }

-- a context after a moved thread took its place: it stands at p, and its mark word still shows the place that it had
abbrev pub left_context : Carried → Place → Carried
left_context c p = record c { place = p; named = false }

-- ---- the knowledge of a seat after a post, and after the end of a thread

abbrev pub posted : Known → Carried → ℕ → Known
posted k c tag = record (without_context k c) { given = (record { context = c.context; generation = c.generation }, tag) ∷ k.given }

abbrev pub retired : Known → Carried → Known
retired k c = record (with_context k (claimed_again c)) { ended = thread_in c ∷ k.ended }

abbrev pub spent_known : Known → Carried → Known
spent_known k c = record (without_context k c) { ended = thread_in c ∷ k.ended }

-- ---- words

-- the mark word of a context that its carrier knows
abbrev pub marked_as : Mark → Carried → Marked
marked_as mark c = record { mark = mark; alone = c.alone; place = c.place; generation = c.generation }

-- the mark word of a context that is free or claimed
abbrev pub marked_free : Carried → Marked
marked_free c = record { mark = mark.Free; alone = false; place = c.place; generation = c.generation }

-- the mark word of a context that is spent
abbrev pub marked_spent : Carried → Marked
marked_spent c = record { mark = mark.Spent; alone = false; place = c.place; generation = c.generation }

-- the number that the claim of index i adds to the word of its core
abbrev pub index_sum : ℕ → ℕ
index_sum i = 2 ^ i + 2 ^ MASK_BITS

-- the number that the release of a claim subtracts from the word of its core
abbrev pub release_sum : Carried → ℕ
release_sum c = if c.alone then 2 ^ 63 + index_sum c.place.index else index_sum c.place.index

-- ---- phases

-- the phase of a context after a take
abbrev pub taken_phase : Place → Phase
taken_phase p = record { away = true; named = false; shown = p }

-- the phases after x was moved to q, the place of y
abbrev pub moved_phase : (ℕ → Phase) → ℕ → ℕ → Place → ℕ → Phase
moved_phase d x y q = with_at (with_at d x (record { away = false; named = false; shown = q })) y (record (d y) { named = false })
