use Rattle.std.proofs.Common.{◌≡◌, ◌+◌, ◌-◌, ◌<◌, ◌≤◌, length, take, get_or, ap, sym, ◌∙◌, subst, arith}
use Rattle.std.proofs.Math.ListN.{set}
use Rattle.arachne_machine.specs.Lines.{HoldsOnceMore, lines_in}
use Rattle.arachne_machine.proofs.Listing.{later-list, line-within, lines_in-set, take-lines}
use Rattle.arachne_machine.proofs.lines.count_hold_in.Goals as goal

pub loop-left-preserved : goal.loop-left-preserved
loop-left-preserved c =
    let lists = c.args.lists.now.items in
    let at = c.loop-left.at in
    let seen = c.index.result.now in
    let v = c.index-in-loop-left.result.now in
    let here = c.loop-left.invariant.here in
    let up_to_seen : length (lines_in (take (at + 1) lists)) ≡ length (lines_in (take at lists)) + length seen.lines = take-lines lists at seen here c.index.ensures in
    let up_to : length (lines_in (take (at + 1) lists)) ≡ length (lines_in (take at lists)) + length v.lines = take-lines lists at v here c.index-in-loop-left.ensures in
    let long : c.len-left.result ≡ length v.lines = c.len-left.ensures in
    let less : length v.lines ≤ c.loop-left.left = omega (arith, up_to_seen, up_to, c.loop-left-test.true, c.len.ensures) in
    let past : c.loop-left.left - c.len-left.result + length (lines_in (take (at + 1) lists)) ≡ c.args.place = omega (arith, up_to, less, long, c.loop-left.invariant.past) in
    record {
      here = later-list lists at (omega (arith, past, c.requires)) here;
      past = past;
    }

pub returns : goal.returns
returns c =
    let lists = c.args.lists.now.items in
    let at = c.loop-left.at in
    let left = c.loop-left.left in
    let seen = c.index.result.now in
    let v = c.index_mut-list.result.now in
    let counts = c.count_hold.ensures.counts in
    let here = c.loop-left.invariant.here in
    let up_to_seen : length (lines_in (take (at + 1) lists)) ≡ length (lines_in (take at lists)) + length seen.lines = take-lines lists at seen here c.index.ensures in
    let up_to : length (lines_in (take (at + 1) lists)) ≡ length (lines_in (take at lists)) + length v.lines = take-lines lists at v here c.index_mut-list.ensures.value in
    let small : left < length v.lines = omega (arith, up_to_seen, up_to, c.loop-left-test.false, c.len.ensures) in
    let index : length (lines_in (take at lists)) + left ≡ c.args.place = omega (arith, c.loop-left.invariant.past) in
    record {
      line = counts.line;
      lines = lines_in-set lists at left v c.count_hold.new.self counts.line here c.index_mut-list.ensures.value small counts.lines
          ∙ ap (λ n. set (lines_in lists) n counts.line) index;
      counted = λ other.
          let was : get_or v.lines left other ≡ get_or (lines_in lists) c.args.place other =
          sym (line-within lists at left v other here c.index_mut-list.ensures.value small) ∙ ap (λ n. get_or (lines_in lists) n other) index in
          subst (λ l. HoldsOnceMore l counts.line c.args.lock) was (counts.counted other);
    }
