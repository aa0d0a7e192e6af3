use Rattle.std.proofs.Common.{ap, arith}
use Rattle.arachne_core.{specs.ContextTable.ContextTable, proofs.TableEvents.move_makes}
use Rattle.arachne_core.proofs.tables.Tables.move_thread.Goals as goal

pub returns : goal.returns
returns c =
    let old = c.args.self.now in
    let e = c.swap_places.ensures in (
      move_makes old c.swap_places.new.self c.args.carrier c.args.from c.args.to (omega (arith, e.sizes, c.requires.from)) (omega (arith, e.sizes, c.requires.to)) c.requires e.swapped,
      omega (arith, ap (λ (t : ContextTable). t.posts) e.swapped),
      omega (arith, ap (λ (t : ContextTable). t.retires) e.swapped),
    )
