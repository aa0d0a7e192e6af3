use Rattle.std.proofs.{Common.arith, lemmas.List.drop_all}
use Rattle.arachne_lang.proofs.printing.print.Goals as goal

pub returns-clause-accepted : goal.returns-clause-accepted
returns-clause-accepted c = record {
  in_range = record {
    arrays = c.loop-array.invariant.fit (rw (drop_all c.loop-array.array-index c.args.program.now.arrays.items (omega arith)) tt);
    ledgers = omega arith;
    locks = omega arith;
    root = c.in_ok-push_expression.ensures.fit;
  };
  nesting = c.requires;
}
