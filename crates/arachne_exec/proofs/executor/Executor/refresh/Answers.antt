use Rattle.std.proofs.Common.{◌≡◌, ℕ, ◌*◌, ◌/◌, ◌%◌, ◌∙◌, sym, ap}
use Rattle.arachne_exec.specs.{declared.view.Notes.Notes, Layout.mark_at, Seats.CallView, Changes.{hearing, noted}}
use Rattle.arachne_exec.proofs.Chains.{unmarked, cleared}
use Rattle.arachne_exec.proofs.executor.Executor.refresh.Goals.{After-look-mark}
use Rattle.arachne_exec.proofs.executor.Executor.refresh.Goals as goal

-- the mark was found
saw : (c : goal.After-look-mark) → c.look-mark.new.seat ≡ record c.args.seat.now { known = noted (mark_at c.args.place) c.look-mark.result c.args.seat.now.known }
saw c = c.look-mark.ensures.seat ∙ ap (λ (w : ℕ). record c.args.seat.now { known = noted w c.look-mark.result c.args.seat.now.known }) c.mark_word.ensures

pub returns-then-mark-eq0 : goal.returns-then-mark-eq0
returns-then-mark-eq0 c =
    let place : ℕ = c.args.place in let mark : ℕ = c.look-mark.result in let k : Notes = noted (mark_at place) mark c.args.seat.now.known in
    (0, saw (goal.at.returns-then-mark-eq0 c).After-look-mark ∙ ap (λ (l : Notes). record c.args.seat.now { known = l }) (sym (unmarked mark place 0 k c.if-mark-eq0.true)))

pub returns : goal.returns
returns c =
    let place : ℕ = c.args.place in let mark : ℕ = c.look-mark.result in let k : Notes = noted (mark_at place) mark c.args.seat.now.known in
    let found = saw (goal.at.returns c).After-look-mark in let heard = c.hear.ensures.seat in let n : ℕ = heard.0 in (
      n,
      heard.1 ∙ ap (λ (v : CallView). record v { known = noted (mark_at place) (4 * (n / 4)) (hearing (n % 2) place v.known) }) found
          ∙ ap (λ (l : Notes). record c.args.seat.now { known = l }) (sym (cleared mark place n k c.if-mark-eq0.false)),
    )
