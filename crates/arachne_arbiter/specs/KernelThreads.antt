-- The number of cores for which there are counts and parkers.
use Rattle.std.specs.Prelude.{ℕ, vec_len}
use Rattle.arachne_arbiter.specs.declared.{slices.SliceCounts.SliceCounts, parking.Parking.Parking}

abbrev pub counted_cores : SliceCounts → ℕ
counted_cores counts = vec_len counts.counts

abbrev pub parked_cores : Parking → ℕ
parked_cores parking = vec_len parking.parkers
