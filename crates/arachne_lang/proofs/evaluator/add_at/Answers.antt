use Rattle.arachne_lang.proofs.Accounts.{Gains-at, Gains-past}
use Rattle.arachne_lang.proofs.evaluator.add_at.Goals as goal

pub returns : goal.returns
returns c = Gains-at c.args.numbers.now c.args.place c.args.amount

pub returns-then-place-numbers : goal.returns-then-place-numbers
returns-then-place-numbers c = Gains-past c.args.numbers.now c.args.place c.args.amount c.if-place-numbers.true
