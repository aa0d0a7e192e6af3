use Rattle.std.proofs.{Common.map, lemmas.Result.err_from_is_err_and}
use Rattle.arachne_cli.proofs.CommandLines.{asked_is_met, no_order_met_first, nothing_met, refused_by_parser}
use Rattle.arachne_cli.proofs.command_line.read_words.Goals as goal

pub returns-in-Err-clause-refused : goal.returns-in-Err-clause-refused
returns-in-Err-clause-refused g c =
    refused_by_parser c.in_ok-command.command (map g.S.AsStr.text c.args.words.now) c.in-Err.error c.in_ok-command.ensures c.in-Err.ensures.passes

pub returns-in_err-request-clause-refused : goal.returns-in_err-request-clause-refused
returns-in_err-request-clause-refused g c =
    let p = err_from_is_err_and c.from_residual-in_err-request.result c.from_residual-in_err-request.ensures.1 in
    rw (p.1, p.2) (no_order_met_first c.in_ok-command.command (map g.S.AsStr.text c.args.words.now) c.in-Ok.matches _
    c.in_ok-command.ensures c.in-Ok.ensures.ok.2 c.in_err-request.ensures.none)

pub returns-in-Some-clause-asked : goal.returns-in-Some-clause-asked
returns-in-Some-clause-asked g c =
    let met = asked_is_met c.in_ok-command.command (map g.S.AsStr.text c.args.words.now) c.in-Ok.matches c.in_ok-command.ensures c.in-Ok.ensures.ok.2 in
    let asked = c.in_ok-request.ensures.asked in
    let some = c.in-Some.is in
    cc

pub returns-clause-refused : goal.returns-clause-refused
returns-clause-refused g c =
    let asked = c.in_ok-request.ensures.asked in
    let none = c.in-None.is in
    nothing_met c.in_ok-command.command (map g.S.AsStr.text c.args.words.now) c.in-Ok.matches c.in_ok-error-in-None.field-0
    c.in_ok-command.ensures c.in-Ok.ensures.ok.2 (cc) c.in_ok-request.ensures.orders
