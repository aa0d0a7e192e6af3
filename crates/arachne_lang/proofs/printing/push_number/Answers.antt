use Rattle.std.proofs.Common.{[], ◌∷◌, append_assoc}
use Rattle.arachne_lang.{specs.Spelling.numeral, proofs.PrintedNumbers.decimal-numeral}
use Rattle.arachne_lang.proofs.printing.push_number.Goals as goal

pub returns : goal.returns
returns c =
    rw (c.in_ok-extend_from_slice.ensures.items, c.as_bytes.ensures.value, c.format.ensures.text, decimal-numeral c.args.number c.ranges.number.fits, c.in_ok-push.ensures.items)
    (append_assoc c.args.text.now.items (32 ∷ []) (numeral c.args.number))
