use Rattle.std.{proofs.Common.{◌≡◌, ◌^◌, ◌<◌, ◌++◌, codes, map, drop}, specs.List.{AllByRecursion, flat_map}}
use Rattle.arachne_lang.specs.Spelling.{line}
use Rattle.arachne_lang.proofs.printing.print.Given as goal

-- The text and the rest of the arrays are all array lines, and all numbers fit if those of the rest do.
abbrev pub invariant-loop-array : goal.invariant-loop-array
invariant-loop-array l = record {
  written : l.text.items ++ flat_map (line (codes "array")) (map (λ array. array.items) (drop l.array-index l.program.arrays.items))
      ≡ l.initial.text.items ++ flat_map (line (codes "array")) (map (λ array. array.items) l.program.arrays.items);
  fit : AllByRecursion (AllByRecursion (λ n. n < 2 ^ 64)) (map (λ array. array.items) (drop l.array-index l.program.arrays.items))
      → AllByRecursion (AllByRecursion (λ n. n < 2 ^ 64)) (map (λ array. array.items) l.program.arrays.items);
}
