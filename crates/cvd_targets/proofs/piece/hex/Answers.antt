use Rattle.cvd_step_laws.specs.LineMarks.{with_vars}
use Rattle.cvd_targets.proofs.Positions.{expression_in}
use Rattle.cvd_targets.proofs.piece.hex.Goals as goal

pub returns : goal.returns
returns c =
    let b = c.in_ok-value.ensures in (
      b.0,
      (b.1.0, c.hex_piece.ensures (with_vars c.args.vars.now) b.0 c.requires.variables (expression_in c.args.vars.now b.0 c.in_ok-value.value b.1.1)),
    )
