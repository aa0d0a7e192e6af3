-- The measures of a sample. Loads and utilisations are in thousandths: of a runnable thread per scan, and of a busy
-- core.
use Rattle.std.specs.Prelude.{ℕ, ◌*◌, ◌/◌, ◌^◌, Bool, ◌&&◌, ◌==◌, nat_le, if◌then◌else◌}
use Rattle.arachne_policy.specs.declared.samples.Sample.{Sample}

-- the runnable threads per scan; 0 for a sample without a scan
abbrev pub load_of : Sample → ℕ
load_of s = if s.scans == 0 then 0 else 1000 * s.runnable / s.scans

-- the busy cores
abbrev pub utilisation_of : Sample → ℕ
utilisation_of s = 1000 * s.busy / s.elapsed

-- the maximum of a count of a sample
abbrev pub most_counted : ℕ
most_counted = 2 ^ 48

-- a sample that can have been measured on 1 to `max` cores: some time went by, the cores were busy for no more than
-- that time each, and no count is over the limit
abbrev pub is_good : ℕ → Sample → Bool
is_good max s =
    nat_le 1 s.cores && nat_le s.cores max
    && nat_le s.runnable most_counted && nat_le s.scans most_counted && nat_le s.busy most_counted
    && nat_le 1 s.elapsed && nat_le s.elapsed most_counted
    && nat_le s.busy (s.cores * s.elapsed)
