use Rattle.std.proofs.Common.{◌≡◌, Ok, map, take}
use Rattle.arachne_cli.specs.Orders.{orders_of}
use Rattle.arachne_cli.proofs.command_line.orders_in.Given as goal

-- the orders of the words so far
abbrev pub invariant-loop-index : goal.invariant-loop-index
invariant-loop-index l = orders_of (map (λ word. word.now) (take l.index l.words)) ≡ Ok l.orders.items
