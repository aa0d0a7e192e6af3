use Rattle.std.proofs.Common.{rules, Some, refl, ap, ◌∙◌, subst}
use Rattle.arachne_machine.specs.{Steps.{HasRoom, IsSame}, Runs.{LooksSame, TakesIn}}
use Rattle.arachne_machine.proofs.state.State.take_newest.Goals as goal

pub stand_before_join-requires-clause-room : goal.stand_before_join-requires-clause-room
stand_before_join-requires-clause-room c =
    let room : HasRoom c.args.self.now → HasRoom c.take_in.new.self = search rules in
    room c.requires.room

pub returns-then-is_err-clause-err : goal.returns-then-is_err-clause-err
returns-then-is_err-clause-err c =
    let looks : LooksSame c.deref_mut.result.now c.take_in.new.child = search rules in
    let same : IsSame c.args.self.now c.take_in.new.self = search rules in
    record {
      joins = c.requires.joins;
      rest = c.pop.new.self.items;
      child = c.in-Some.child;
      back = _;
      were = c.in-Some.ensures.items;
      are = c.push_reserved-then-is_err.ensures.items;
      looks = subst (λ s. LooksSame s c.take_in.new.child) c.deref_mut.ensures.value looks;
      mid = c.take_in.new.self;
      same = same;
      stands = c.stand_before_join.ensures;
    }

pub returns-clause-ok : goal.returns-clause-ok
returns-clause-ok c =
    let taken : TakesIn c.args.self.now c.deref_mut.result.now c.take_in.new.self = search rules in (
      c.in-Some.child,
      c.in-Some.ensures.items,
      c.requires.joins,
      c.if-not-awaits.ensures.0 refl ∙ ap (λ s. Some s.own.name) c.deref.ensures,
      subst (λ s. TakesIn c.args.self.now s c.take_in.new.self) c.deref_mut.ensures.value taken,
    )
