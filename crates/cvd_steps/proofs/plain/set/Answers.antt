use Rattle.std.proofs.Common.{codes, ◌∙◌}
use Rattle.std.proofs.lemmas.Result.{err_from_is_err_and}
use Rattle.cvd_text.specs.Steps.{spot, sets}
use Rattle.cvd_steps.specs.Bodies.{around_of, load_of}
use Rattle.cvd_steps.proofs.Held.{set_held}
use Rattle.cvd_steps.proofs.plain.set.Goals as goal

pub returns-in_err-line : goal.returns-in_err-line
returns-in_err-line c =
    let p = err_from_is_err_and c.from_residual.result c.from_residual.ensures.1 in
    rw (p.1, p.2) (c.in_err-line.ensures (spot c.args.place.deep c.args.place.before) sets (codes "set") c.may_set-allowed.ensures)

pub returns : goal.returns
returns c =
    let at = spot c.args.place.deep c.args.place.before in
    let r = c.in_ok-line.ensures at sets (codes "set") c.may_set-allowed.ensures in
    let line = c.in_ok-line.line in
    let is = r.1.1 in (
      r.0,
      (
        r.1.0,
        set_held (around_of c.args.vars.now c.args.process) (load_of c.args.sums) at r.0.1.0.items r.0.1.1.0
            (record { targets = line.targets; value = c.into_inner.result; sums = line.sums })
            (record { targets_are = is.targets_are; value_is = c.into_inner.ensures ∙ is.value_is; sums_are = is.sums_are }),
      ),
    )
