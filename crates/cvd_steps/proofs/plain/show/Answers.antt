use Rattle.std.proofs.lemmas.Result.{err_from_is_err_and}
use Rattle.cvd_text.specs.Steps.{spot}
use Rattle.cvd_steps.specs.Bodies.{around_of, load_of}
use Rattle.cvd_steps.proofs.Held.{show_held}
use Rattle.cvd_steps.proofs.plain.show.Goals as goal

pub returns-in_err-line : goal.returns-in_err-line
returns-in_err-line c =
    let p = err_from_is_err_and c.from_residual.result c.from_residual.ensures.1 in
    rw (p.1, p.2) (c.in_err-line.ensures (spot c.args.place.deep c.args.place.before) c.may_speak-allowed.ensures)

pub returns : goal.returns
returns c =
    let at = spot c.args.place.deep c.args.place.before in
    let r = c.in_ok-line.ensures at c.may_speak-allowed.ensures in
    (r.0, (r.1.0, show_held (around_of c.args.vars.now c.args.process) (load_of c.args.sums) at r.0.1.0.items c.in_ok-line.line r.1.1))
