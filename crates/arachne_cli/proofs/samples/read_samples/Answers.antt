use Rattle.std.proofs.Common.{◌++◌, ◌∙◌, sym, ap, inr, append-nil}
use Rattle.arachne_cli.specs.Samples.{IsFirstFault, samples_text}
use Rattle.arachne_cli.proofs.SampleTexts.{text-unique, stopped, line_read, read_has_no_fault, one_first_fault, some_left, none_left}
use Rattle.arachne_cli.proofs.samples.read_samples.Goals as goal

pub returns-in-Err : goal.returns-in-Err
returns-in-Err c =
    let text = c.args.text.now in
    let found = c.fault.result in
    let one : IsFirstFault c.args.text.now c.fault.result =
    rw c.fault.ensures (stopped c.loop-rest.samples.items c.args.text.now c.loop-rest.rest.now c.in-Err.stop c.loop-rest.invariant.in_range c.loop-rest.invariant.text
    (some_left c.loop-rest.rest.now c.loop-rest-test.ensures) c.in-Err.ensures.at_byte c.in-Err.ensures.read) in
    record {
      accepted = tt;
      every_text = λ samples fits spelled. absurd (read_has_no_fault text samples fits spelled found one);
      first_fault = inr one;
      every_fault = λ first is. inr (one_first_fault text found first one is);
    }

pub loop-rest-smaller : goal.loop-rest-smaller
loop-rest-smaller c =
    (line_read c.loop-rest.samples.items c.args.text.now c.loop-rest.rest.now c.in-Ok.read.1.now c.in-Ok.read.0 c.loop-rest.invariant.in_range c.loop-rest.invariant.text c.in-Ok.ensures.read).shorter

pub loop-rest-preserved : goal.loop-rest-preserved
loop-rest-preserved c =
    let read = line_read c.loop-rest.samples.items c.args.text.now c.loop-rest.rest.now c.in-Ok.read.1.now c.in-Ok.read.0
    c.loop-rest.invariant.in_range c.loop-rest.invariant.text c.in-Ok.ensures.read in
    rw c.in-Ok-push.ensures.items (record { text = read.split; in_range = read.in_range })

pub returns-clause-every_text : goal.returns-clause-every_text
returns-clause-every_text c = λ samples fits text.
    text-unique c.loop-rest.samples.items samples
    (sym (c.loop-rest.invariant.text ∙ ap (λ rest. samples_text c.loop-rest.samples.items ++ rest) (none_left c.loop-rest.rest.now c.loop-rest-test.ensures)
    ∙ append-nil (samples_text c.loop-rest.samples.items)) ∙ sym text)

pub returns-clause-every_fault : goal.returns-clause-every_fault
returns-clause-every_fault c = λ first is.
    read_has_no_fault c.args.text.now c.loop-rest.samples.items c.loop-rest.invariant.in_range
    (sym (c.loop-rest.invariant.text ∙ ap (λ rest. samples_text c.loop-rest.samples.items ++ rest) (none_left c.loop-rest.rest.now c.loop-rest-test.ensures)
    ∙ append-nil (samples_text c.loop-rest.samples.items))) first is
