use Rattle.std.proofs.lemmas.Result.{err_from_is_err_and}
use Rattle.design_tree.specs.declared.step.Target.{Target}
use Rattle.design_tree.specs.declared.typed.Typed.{Typed}
use Rattle.cvd_text.specs.Expressions.{tokens_of}
use Rattle.cvd_cursor.specs.Reads.{marks}
use Rattle.cvd_cursor.proofs.Composed.{takes_both, refused_first, refused_second}
use Rattle.cvd_step_laws.specs.LineMarks.{with_vars}
use Rattle.cvd_targets.specs.Lists.{Counted}
use Rattle.cvd_targets.specs.TargetParts.{assigned_by, counted_targets}
use Rattle.cvd_targets.proofs.Assignments.{apart_counted}
use Rattle.cvd_targets.proofs.Positions.{some_expression, expression_in}
use Rattle.cvd_targets.proofs.assigned.read_assigned.Goals as goal

pub returns-in_err-targets : goal.returns-in_err-targets
returns-in_err-targets c =
    let p = err_from_is_err_and c.from_residual.result c.from_residual.ensures.1 in
    rw (p.1, p.2) (refused_first (Counted Target) (λ t. Typed) counted_targets (λ t. marks tokens_of) apart_counted (λ t. some_expression) c.args.cursor.now _ _
    c.in_err-targets.ensures)

pub returns-in_err-value : goal.returns-in_err-value
returns-in_err-value c =
    let a = c.in_ok-targets.ensures in
    let p = err_from_is_err_and c.from_residual-in_err-value.result c.from_residual-in_err-value.ensures.1 in
    rw (p.1, p.2) (refused_second (Counted Target) (λ t. Typed) counted_targets (λ t. marks tokens_of) a.0 (apart_counted a.0) c.args.cursor.now _ _ _ a.1.0
    c.in_err-value.ensures)

pub returns : goal.returns
returns c =
    let a = c.in_ok-targets.ensures in
    let b = c.in_ok-value.ensures in (
      (a.0, b.0),
      (
        takes_both (Counted Target) (λ t. Typed) counted_targets (λ t. marks tokens_of) c.args.cursor.now _ _ a.0 b.0 a.1.0 b.1.0,
        c.assigned_of.ensures (with_vars c.args.vars.now) c.args.kind (assigned_by (a.0, b.0)) a.1.1
            (expression_in c.args.vars.now b.0 c.in_ok-value.value b.1.1),
      ),
    )
