use Rattle.std.proofs.Common.{codes}
use Rattle.std.proofs.lemmas.Result.{err_from_is_err_and}
use Rattle.cvd_text.specs.Steps.{spot}
use Rattle.cvd_steps.specs.Bodies.{around_of, load_of}
use Rattle.cvd_steps.proofs.Held.{stop_held}
use Rattle.cvd_steps.proofs.plain.stop.Goals as goal

pub returns-in_err-sums : goal.returns-in_err-sums
returns-in_err-sums c =
    let p = err_from_is_err_and c.from_residual.result c.from_residual.ensures.1 in
    rw (p.1, p.2) (c.in_err-sums.ensures (around_of c.args.vars.now c.args.process) (spot c.args.place.deep c.args.place.before) (codes "stop")
    c.may_speak-allowed.ensures)

pub returns : goal.returns
returns c =
    let around = around_of c.args.vars.now c.args.process in
    let at = spot c.args.place.deep c.args.place.before in
    let r = c.in_ok-sums.ensures around at (codes "stop") c.may_speak-allowed.ensures in
    (r.0, (r.1.0, stop_held around (load_of c.args.sums) at c.in_ok-sums.sums r.1.1))
