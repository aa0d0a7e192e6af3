use Rattle.std.proofs.Common.{◌≡◌, ◌+◌, ◌-◌, ◌<◌, ◌≤◌, length, take, get_or, ap, sym, ◌∙◌, arith}
use Rattle.arachne_machine.{specs.Lines.lines_in, proofs.Listing.{later-list, line-within, take-lines}}
use Rattle.arachne_machine.proofs.lines.line_in.Goals as goal

pub loop-left-preserved : goal.loop-left-preserved
loop-left-preserved c =
    let lists = c.args.lists.now.items in
    let at = c.loop-left.at in
    let seen = c.index.result.now in
    let v = c.index-in-loop-left.result.now in
    let here = c.loop-left.invariant.here in
    let up_to_seen : length (lines_in (take (at + 1) lists)) ≡ length (lines_in (take at lists)) + length seen.lines = take-lines lists at seen here c.index.ensures in
    let up_to : length (lines_in (take (at + 1) lists)) ≡ length (lines_in (take at lists)) + length v.lines = take-lines lists at v here c.index-in-loop-left.ensures in
    let long : c.len-left.result ≡ length v.lines = c.len-left.ensures in
    let less : length v.lines ≤ c.loop-left.left = omega (arith, up_to_seen, up_to, c.loop-left-test.true, c.len.ensures) in
    let past : c.loop-left.left - c.len-left.result + length (lines_in (take (at + 1) lists)) ≡ c.args.place = omega (arith, up_to, less, long, c.loop-left.invariant.past) in
    record {
      here = later-list lists at (omega (arith, past, c.requires)) here;
      past = past;
    }

pub returns : goal.returns
returns c = λ other.
    let lists = c.args.lists.now.items in
    let at = c.loop-left.at in
    let left = c.loop-left.left in
    let seen = c.index.result.now in
    let v = c.index-2.result.now in
    let here = c.loop-left.invariant.here in
    let up_to_seen : length (lines_in (take (at + 1) lists)) ≡ length (lines_in (take at lists)) + length seen.lines = take-lines lists at seen here c.index.ensures in
    let up_to : length (lines_in (take (at + 1) lists)) ≡ length (lines_in (take at lists)) + length v.lines = take-lines lists at v here c.index-2.ensures in
    let small : left < length v.lines = omega (arith, up_to_seen, up_to, c.loop-left-test.false, c.len.ensures) in
    let index : length (lines_in (take at lists)) + left ≡ c.args.place = omega (arith, c.loop-left.invariant.past) in
    c.at.ensures other ∙ sym (line-within lists at left v other here c.index-2.ensures small) ∙ ap (λ n. get_or (lines_in lists) n other) index
