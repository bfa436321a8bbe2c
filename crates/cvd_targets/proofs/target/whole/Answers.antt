use Rattle.cvd_step_laws.specs.LineMarks.{with_vars}
use Rattle.cvd_targets.proofs.target.whole.Goals as goal

pub returns : goal.returns
returns c =
    let a = c.in_ok-var.ensures in
    (a.0, (a.1.0, c.whole_of.ensures (with_vars c.args.vars.now) c.args.kind a.0 (c.find_named.ensures a.0 a.1.1)))
