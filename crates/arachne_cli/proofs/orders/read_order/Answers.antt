use Rattle.std.proofs.Common.{◌∙◌, Ok, Err}
use Rattle.arachne_cli.proofs.OrderWords.{halted, no_number, no_kind, no_core, some_left, none_left, is_order}
use Rattle.arachne_cli.proofs.orders.read_order.Goals as goal

pub returns-in_default : goal.returns-in_default
returns-in_default c =
    let stop = halted c.in_default.field-0 _ c.in_default.ensures.at_byte c.in_default.ensures.read in
    rw c.as_bytes.ensures.value at (no_number c.as_bytes.result.now stop.0 stop.1)

pub returns-in_default-kind : goal.returns-in_default-kind
returns-in_default-kind c =
    rw c.as_bytes.ensures.value at (no_kind c.as_bytes.result.now c.in-Ok.rest.now c.in-Ok.after c.in-Ok.ensures.read c.in_default-kind.ensures)

pub returns-in_default-figures : goal.returns-in_default-figures
returns-in_default-figures c =
    let stop = halted c.in_default-figures.field-0 _ c.in_default-figures.ensures.at_byte c.in_default-figures.ensures.read in
    rw c.as_bytes.ensures.value at (no_core c.as_bytes.result.now c.in-Ok.rest.now c.in-Some.rest.now c.in-Ok.after c.in-Some.kind (Err stop.0)
    c.in-Ok.ensures.read c.in-Some.ensures stop.1 (λ core e. absurd (cc)))

pub returns-then-not-is_empty : goal.returns-then-not-is_empty
returns-then-not-is_empty c =
    rw c.as_bytes.ensures.value at (no_core c.as_bytes.result.now c.in-Ok.rest.now c.in-Some.rest.now c.in-Ok.after c.in-Some.kind (Ok (c.in-Ok-figures.core, c.in-Ok-figures.rest.now))
    c.in-Ok.ensures.read c.in-Some.ensures c.in-Ok-figures.ensures.read (λ core e. some_left c.in-Ok-figures.core core c.in-Ok-figures.rest.now c.if-not-is_empty.ensures e))

pub returns : goal.returns
returns c =
    rw c.as_bytes.ensures.value at (is_order c.as_bytes.result.now c.in-Ok.rest.now c.in-Some.rest.now c.in-Ok.after c.in-Ok-figures.core c.in-Some.kind
    c.in-Ok.ensures.read c.in-Some.ensures (c.in-Ok-figures.ensures.read ∙ none_left c.in-Ok-figures.core c.in-Ok-figures.rest.now c.if-not-is_empty.ensures))
