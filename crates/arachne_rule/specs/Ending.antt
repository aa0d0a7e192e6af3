-- The threads that are left at the end, when one seat has joined all others into it and carries nothing.
use Rattle.std.specs.Prelude.{◌≡◌, ℕ, suc, ◌+◌, ◌≤◌, List, [], ◌∷◌, slice_index, map, count_by, Option, Some, None}
use Rattle.arachne_core.specs.{declared.thread_id.ThreadId.ThreadId, Marked.marked_of, World.{Thread, same_thread}}
use Rattle.arachne_rule.specs.declared.view.Known.{Known}

-- the threads whose values are in the slots of the contexts from x on, in order, each with the generation of the mark
-- word
abbrev pub left_from : {T : Type 0} → ℕ → ℕ → List ℕ → List (Option T) → List (ThreadId × T)
left_from bits x words [] = []
left_from bits x words (None ∷ slots) = left_from bits (suc x) words slots
left_from bits x words (Some value ∷ slots) = (record { context = x; generation = (marked_of bits (slice_index words x)).generation }, value) ∷ left_from bits (suc x) words slots

abbrev pub threads_of : {T : Type 0} → (T → ℕ) → List (ThreadId × T) → List Thread
threads_of tag_in pairs = map (λ (p : _). (p.0, tag_in p.1)) pairs

-- each thread that was posted has ended or is left, once
pub record IsSettled {T : Type 0} (tag_in : T → ℕ) (k : Known) (left : List (ThreadId × T)) : Type 0 where
  pub once : (t : Thread) → count_by (same_thread t) k.given ≤ 1
  pub settled : (t : Thread) → count_by (same_thread t) k.given ≡ count_by (same_thread t) k.ended + count_by (same_thread t) (threads_of tag_in left)
