use Rattle.std.{proofs.Common.{◌≡◌, ◌^◌, ◌<◌, ◌++◌, map, drop}, specs.List.AllByRecursion}
use Rattle.arachne_lang.specs.Spelling.{after_spaces, numeral}
use Rattle.arachne_lang.proofs.printing.push_line.Given as goal

-- The text and the rest of the numbers are the whole line, and all numbers fit if those of the rest do.
abbrev pub invariant-loop-number : goal.invariant-loop-number
invariant-loop-number l = record {
  written : l.text.items ++ after_spaces (map numeral (drop l.number-index l.numbers))
      ≡ l.initial.text.items ++ after_spaces (map numeral l.numbers);
  fit : AllByRecursion (λ n. n < 2 ^ 64) (drop l.number-index l.numbers) → AllByRecursion (λ n. n < 2 ^ 64) l.numbers;
}
