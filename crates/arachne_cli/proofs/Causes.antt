-- Memory may be refused whatever the words ask for.
use Rattle.std.proofs.Common.{ℕ, List, Option, Some, None, refl, IfSome}
use Rattle.arachne_cli.specs.declared.{command_line.SerialRequest.SerialRequest, fault.Fault.TheVariants.Memory}
use Rattle.arachne_cli.specs.Ends.{IsCauseFor}

-- refused memory is a cause for any request, and for none
wanting : (asked : Option SerialRequest) (input : List ℕ) → IsCauseFor asked input Memory
wanting None input = refl
wanting (Some request) input = tt

pub memory_is_wanting : (known : Option (List ℕ)) (asked : Option SerialRequest) → IfSome known (λ input. IsCauseFor asked input Memory)
memory_is_wanting None asked = tt
memory_is_wanting (Some input) asked = wanting asked input
