use Rattle.std.{proofs.Common.{◌≡◌, map}, specs.List.range_with_len}
use Rattle.arachne_core.specs.TableChanges.{first_context}
use Rattle.arachne_core.proofs.tables.first_contexts.Given as goal

abbrev pub invariant-loop-number : goal.invariant-loop-number
invariant-loop-number l = l.contexts.items ≡ map (first_context l.slots l.generation) (range_with_len 0 l.number)
