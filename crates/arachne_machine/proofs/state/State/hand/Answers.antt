use Rattle.std.proofs.Common.{rules, ◌≡◌, ◌≤◌, ◌+◌, length, vec_len, vec_capacity, ap, subst, sym, arith}
use Rattle.arachne_machine.specs.declared.frame.Control.TheVariants.{Awaits, AwaitsHalf}
use Rattle.arachne_machine.specs.Runs.{BeginsHere, IsPoppedIn, giving_in}
use Rattle.arachne_machine.proofs.{Going.{comes_half_here, comes_join_here, comes_popped}, Lasting.on_value}
use Rattle.arachne_machine.proofs.state.State.hand.Goals as goal

pub stand_before-requires : goal.stand_before-requires
stand_before-requires g c =
    let same : c.begin_here.new.self.frames ≡ c.args.self.now.frames = search rules in
    subst (λ f. vec_len f + 1 ≤ vec_capacity f) (sym same) c.requires.frames

pub stand_before-requires-then-is_err-2 : goal.stand_before-requires-then-is_err-2
stand_before-requires-then-is_err-2 g c =
    let same : c.begin_here-in-MergeHere.new.self.frames ≡ c.args.self.now.frames = search rules in
    subst (λ f. vec_len f + 1 ≤ vec_capacity f) (sym same) c.requires.frames

pub returns-else-is_err-clause-made : goal.returns-else-is_err-clause-made
returns-else-is_err-clause-made g c = λ before popped sound.
    let t = c.args.self.now in
    let begun : BeginsHere t c.begin_here.new.self c.in-JoinHere.number (Awaits c.in-JoinHere.number c.args.value c.in-JoinHere.after) t.control = search rules in
    comes_join_here _ c.args.value c.in-JoinHere.number before t c.begin_here.new.self c.in-JoinHere.child c.in-JoinHere.after sound
    (subst (λ f. IsPoppedIn f before (giving_in t c.args.value)) c.in-JoinHere.is popped) c.requires.start begun

pub returns-else-is_err-2-clause-made : goal.returns-else-is_err-2-clause-made
returns-else-is_err-2-clause-made g c = λ before popped sound.
    let t = c.args.self.now in
    let half = c.in-MergeHere.half in
    let begun : BeginsHere t c.begin_here-in-MergeHere.new.self c.in-MergeHere.number (AwaitsHalf c.in-MergeHere.number c.args.value half.reduction) t.control = search rules in
    comes_half_here _ c.args.value c.in-MergeHere.number before t c.begin_here-in-MergeHere.new.self half sound
    (subst (λ f. IsPoppedIn f before (giving_in t c.args.value)) c.in-MergeHere.is popped) c.requires.start begun

pub returns-in_default : goal.returns-in_default
returns-in_default g c =
    let t = c.args.self.now in
    let new = c.hand_within.new.self in
    record {
      made = λ before popped sound. comes_popped _ _ _ before t new c.args.frame c.args.value c.hand_within.result sound popped c.requires.start c.hand_within.ensures.leaves c.hand_within.ensures.stops c.hand_within.ensures.made;
      fewer = c.hand_within.ensures.fewer;
      room = c.hand_within.ensures.room;
      frames = c.hand_within.ensures.frames;
      parents = on_value c.hand_within.result _ (omega (arith, ap length c.hand_within.ensures.leaves.parents, new.parents.ok.0, t.parents.ok.0));
      err = tt;
      uncharged = tt;
    }
