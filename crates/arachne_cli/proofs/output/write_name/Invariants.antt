use Rattle.std.{proofs.Common.{◌≡◌, ◌++◌, ◌∷◌, take, string_bytes, decimal}, specs.List.flat_map}
use Rattle.arachne_cli.proofs.output.write_name.Given as goal

-- the forks so far are written
abbrev pub invariant-loop-k : goal.invariant-loop-k
invariant-loop-k l = string_bytes l.text ≡ string_bytes l.initial.text ++ flat_map (λ fork. 47 ∷ decimal fork) (take l.k l.name)
