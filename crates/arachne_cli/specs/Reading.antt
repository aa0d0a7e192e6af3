-- The results of private readers, as functions on the bytes of a text. No contract of a public call cites these.
use Rattle.std.specs.Prelude.{ℕ, ◌^◌, List, [], ◌∷◌, Ok, codes}
use Rattle.arachne_lang.specs.Reading.{Reading, ◌>>=◌, number_at}
use Rattle.arachne_policy.specs.declared.samples.Sample.{Sample}

-- a number of 64 bits, and the bytes that end it
abbrev pub word_number_at : List ℕ → List ℕ → Reading ℕ
word_number_at end bytes = number_at (2 ^ 64) end bytes

-- the sample of a line
unfoldable pub sample_at : List ℕ → Reading Sample
sample_at bytes = do
  cores ← word_number_at (codes " ") bytes
  runnable ← word_number_at (codes " ") cores.1
  scans ← word_number_at (codes " ") runnable.1
  busy ← word_number_at (codes " ") scans.1
  elapsed ← word_number_at (10 ∷ []) busy.1
  Ok (record { cores = cores.0; runnable = runnable.0; scans = scans.0; busy = busy.0; elapsed = elapsed.0 }, elapsed.1)
