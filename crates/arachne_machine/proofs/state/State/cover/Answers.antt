use Rattle.std.proofs.Common.{rules, ◌≤◌, ◌<◌, ◌+◌, ◌-◌, ◌/◌, ap, subst, sym, arith, max}
use Rattle.arachne_program.specs.declared.program.Class.TheVariants.{Normal}
use Rattle.arachne_machine.specs.{Ending.fork_awaited, Runs.Comes, Steps.{IsLeftOver, pending_of, top}}
use Rattle.arachne_machine.proofs.{Handings.covers, Splitting.{goes_to_half, places_half}, Turning.makes_once}
use Rattle.arachne_machine.proofs.Going.{comes_fork, comes_of, leaves_on, leaves_same, line_in, number_fits, runs_place, start_in, start_same, top_same}
use Rattle.arachne_machine.proofs.Lasting.{no_stop, ok_forked, ok_known}
use Rattle.arachne_machine.specs.declared.state.Progress.TheVariants as way
use Rattle.arachne_machine.proofs.state.State.cover.Goals as goal

pub halve_here-requires : goal.halve_here-requires
halve_here-requires g c =
    let t = c.args.self.now in
    record { number = number_fits t c.requires.sound (ap fork_awaited c.requires.covers) (omega (arith, t.frames.ok.0, t.frames.ok.1, t.frames.small)) }

pub halve-requires-clause-number : goal.halve-requires-clause-number
halve-requires-clause-number g c =
    let t = c.args.self.now in
    number_fits t c.requires.sound (ap fork_awaited c.requires.covers) (omega (arith, t.frames.ok.0, t.frames.ok.1, t.frames.small))

pub halve-requires-clause-line : goal.halve-requires-clause-line
halve-requires-clause-line g c = line_in c.args.self.now c.requires.sound

pub returns-then-not-is_any_for-clause-ok : goal.returns-then-not-is_any_for-clause-ok
returns-then-not-is_any_for-clause-ok g c =
    let t = c.args.self.now in
    let s = c.args.stretch in
    let new = c.halve_here.new.self in
    let long : max 1 s.grain < s.end - s.first = omega (arith, c.if-count-max.true, c.max.ensures, c.saturating_sub-count.ensures) in
    ok_known c.halve_here.result way.Goes (λ p. Comes _ _ _ t p new) c.halve_here.ensures.goes c.halve_here.ensures.counts (λ counts. (
      runs_place _ t new _ _ _ (λ all. search (rules, c.is_any_for.ensures all)) c.requires.sound counts
          (λ pushed. places_half (top t) (top new) s (s.first + c.saturating_sub-count.result / 2) c.requires.covers long (ap (λ n. s.first + n / 2) c.saturating_sub-count.ensures) pushed),
      subst IsLeftOver (sym counts.control_is) tt,
    ))

pub returns-then-count-max-clause-ok : goal.returns-then-count-max-clause-ok
returns-then-count-max-clause-ok g c =
    let t = c.args.self.now in
    let s = c.args.stretch in
    let new = c.halve.new.self in
    let long : max 1 s.grain < s.end - s.first = omega (arith, c.if-count-max.true, c.max.ensures, c.saturating_sub-count.ensures) in
    ok_forked c.halve.result Normal _ (λ p. Comes _ _ _ t p new) c.halve.ensures.child c.halve.ensures.counts
    (λ child counts spawned. comes_fork _ t new child Normal _ _ _ c.requires.sound (ap pending_of c.requires.covers) tt counts spawned
    (λ spawned. goes_to_half (top t) (top new) (top child.value) s (s.first + c.saturating_sub-count.result / 2) c.requires.covers long
    (ap (λ n. s.first + n / 2) c.saturating_sub-count.ensures) spawned))

pub returns-clause-ok : goal.returns-clause-ok
returns-clause-ok g c =
    let t = c.args.self.now in
    let s = c.args.stretch in
    let short : s.end - s.first ≤ max 1 s.grain = omega (arith, c.if-count-max.false, c.max.ensures, c.saturating_sub-count.ensures) in
    let mid = c.reserve_turn.new.self in
    let same = c.reserve_turn.ensures.same in
    let p = c.turn_sweep.result in
    let new = c.turn_sweep.new.self in
    let le = start_in t c.requires.sound in
    comes_of _ _ _ t p new c.requires.sound (ap pending_of c.requires.covers)
    (leaves_on t mid new (leaves_same t mid _ _ same le) c.turn_sweep.ensures.leaves)
    (no_stop p _ c.turn_sweep.ensures.stops)
    (c.turn_sweep.ensures.reaches (top t) (λ on turns. makes_once _ (top t) on
    (covers (top t) (top mid) on s c.unit-unit.result (top_same t mid _ _ same le) c.requires.covers short c.unit-unit.ensures turns)))

pub turn_sweep-requires-clause-start : goal.turn_sweep-requires-clause-start
turn_sweep-requires-clause-start g c = start_same c.args.self.now c.reserve_turn.new.self _ _ c.reserve_turn.ensures.same (start_in c.args.self.now c.requires.sound)
