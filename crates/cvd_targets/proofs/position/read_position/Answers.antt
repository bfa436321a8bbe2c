use Rattle.std.proofs.Common.{subst}
use Rattle.std.proofs.lemmas.Result.{err_from_is_err_and}
use Rattle.design_tree.specs.declared.typed.Typed.{Typed}
use Rattle.cvd_text.specs.Expressions.{tokens_of}
use Rattle.cvd_cursor.specs.Reads.{marks}
use Rattle.cvd_cursor.proofs.Composed.{takes_both, refused_first, refused_second}
use Rattle.cvd_step_laws.specs.LineMarks.{with_vars}
use Rattle.cvd_nodes.specs.Nodes.{Low, low_marks}
use Rattle.cvd_nodes.proofs.Fields.{apart_low}
use Rattle.cvd_targets.specs.Positions.{PositionIn}
use Rattle.cvd_targets.proofs.Positions.{some_expression, expression_in}
use Rattle.cvd_targets.proofs.position.read_position.Goals as goal

pub returns-in_err-from : goal.returns-in_err-from
returns-in_err-from c =
    let p = err_from_is_err_and c.from_residual.result c.from_residual.ensures.1 in
    rw (p.1, p.2) (refused_first Low (λ l. Typed) low_marks (λ l. marks tokens_of) apart_low (λ l. some_expression) c.args.cursor.now _ _ c.in_err-from.ensures)

pub returns-in_err-value : goal.returns-in_err-value
returns-in_err-value c =
    let a = c.in_ok-from.ensures in
    let p = err_from_is_err_and c.from_residual-in_err-value.result c.from_residual-in_err-value.ensures.1 in
    rw (p.1, p.2) (refused_second Low (λ l. Typed) low_marks (λ l. marks tokens_of) a.0 (apart_low a.0) c.args.cursor.now _ _ _ a.1.0 c.in_err-value.ensures)

pub returns : goal.returns
returns c =
    let a = c.in_ok-from.ensures in
    let b = c.in_ok-value.ensures in
    let d = with_vars c.args.vars.now in (
      (a.0, b.0),
      (
        takes_both Low (λ l. Typed) low_marks (λ l. marks tokens_of) c.args.cursor.now _ _ a.0 b.0 a.1.0 b.1.0,
        subst (λ s. PositionIn d ((a.0.0, s), b.0) c.position_of.result) a.1.1.1
            (c.position_of.ensures d a.0.0 b.0 a.1.1.0 (expression_in c.args.vars.now b.0 c.in_ok-value.value b.1.1)),
      ),
    )
