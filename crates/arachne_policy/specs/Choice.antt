-- Two random choices: the core for a new thread.
use Rattle.std.specs.Prelude.{ℕ, ◌/◌, ◌%◌, ◌^◌, List, length, slice_index_or, nat_lt, if◌then◌else◌}
use Rattle.arachne_policy.specs.declared.choices.CoreLoad.{CoreLoad}

-- the entry at a place below the list's length
abbrev pub entry_at : List CoreLoad → ℕ → CoreLoad
entry_at loads place = slice_index_or loads place (record { core = 0; count = 0 })

-- the low half of the word picks the first entry
abbrev pub first_choice : ℕ → List CoreLoad → CoreLoad
first_choice word loads = entry_at loads ((word % 2 ^ 32) % length loads)

-- the high half of the word picks the second entry
abbrev pub second_choice : ℕ → List CoreLoad → CoreLoad
second_choice word loads = entry_at loads ((word / 2 ^ 32) % length loads)

-- the one with fewer threads; on a tie the first
abbrev pub fewer : CoreLoad → CoreLoad → CoreLoad
fewer first second = if nat_lt second.count first.count then second else first

-- the core for a new thread
abbrev pub chosen_core : ℕ → List CoreLoad → ℕ
chosen_core word loads = (fewer (first_choice word loads) (second_choice word loads)).core
