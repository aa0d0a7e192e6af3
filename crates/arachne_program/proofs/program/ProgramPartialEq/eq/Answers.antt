use Rattle.std.proofs.lemmas.Bool.Decides.{same_from_decides}
use Rattle.arachne_program.specs.{Program.source_of, Same.same_source, SameDecides.same_source-Decides}
use Rattle.arachne_program.proofs.program.ProgramPartialEq.eq.Goals as goal

pub returns-clause-eq : goal.returns-clause-eq
returns-clause-eq c =
    same_from_decides c.is_same.result (same_source (source_of c.args.self.now) (source_of c.args.other.now)) c.is_same.ensures
    (same_source-Decides (source_of c.args.self.now) (source_of c.args.other.now))
