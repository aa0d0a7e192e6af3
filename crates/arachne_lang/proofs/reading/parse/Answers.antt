use Rattle.std.proofs.Common.{Ok, Err, refl}
use Rattle.arachne_lang.specs.Spelling.{header}
use Rattle.arachne_lang.specs.declared.text_fault.TextFault.TheVariants as fault
use Rattle.arachne_lang.proofs.FirstFault.{word_taken, said_header, said_program, said_fault, said_every_text, said_every_fault}
use Rattle.arachne_lang.proofs.reading.parse.Goals as goal

pub returns-in_default : goal.returns-in_default
returns-in_default c =
    let bytes = c.args.text.now in
    let said = said_header bytes c.in_default.field-0 c.in_default.ensures.at_byte c.in_default.ensures.read in
    record { accepted = tt; every_text = said_every_text bytes (Err (fault.Header 0)) said; no_header = λ none. refl; first_fault = said; every_fault = said_every_fault bytes (Err (fault.Header 0)) said }

pub returns-in-Ok-program : goal.returns-in-Ok-program
returns-in-Ok-program c =
    let bytes = c.args.text.now in
    let program = c.in-Ok-program.program in
    let said = said_program bytes c.in-Ok.rest.now program c.in-Ok.ensures.read c.in-Ok-program.ensures in
    record { accepted = said; every_text = said_every_text bytes (Ok program) said; no_header = λ none. absurd (none (c.in-Ok.rest.now, word_taken header bytes c.in-Ok.rest.now c.in-Ok.ensures.read)); first_fault = tt; every_fault = said_every_fault bytes (Ok program) said }

pub returns-in-Err : goal.returns-in-Err
returns-in-Err c =
    let bytes = c.args.text.now in
    let found = c.fault.result in
    let said = said_fault bytes c.in-Ok.rest.now c.in-Err.stop found c.in-Ok.ensures.read c.in-Err.ensures c.fault.ensures in
    record { accepted = tt; every_text = said_every_text bytes (Err found) said; no_header = λ none. absurd (none (c.in-Ok.rest.now, word_taken header bytes c.in-Ok.rest.now c.in-Ok.ensures.read)); first_fault = said; every_fault = said_every_fault bytes (Err found) said }
