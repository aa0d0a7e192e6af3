use Rattle.std.proofs.Common.{◌≡◌, ◌+◌, ◌-◌, ◌<◌, length, take}
use Rattle.arachne_machine.specs.Lines.{lines_in}
use Rattle.arachne_machine.proofs.lines.count_hold_in.Given as goal

abbrev pub invariant-loop-left : goal.invariant-loop-left
invariant-loop-left l = record {
  here : l.at < length l.lists.items;
  past : l.left + length (lines_in (take l.at l.lists.items)) ≡ l.fn.place;
}

abbrev pub decreases-loop-left : goal.decreases-loop-left
decreases-loop-left l = length l.lists.items - l.at
