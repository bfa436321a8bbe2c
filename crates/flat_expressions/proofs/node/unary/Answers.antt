use Rattle.vlog_tree.specs.declared.expression.Expr.TheVariants as e
use Rattle.flat_meaning.specs.FlatForm.{IsFlat, of_unary}
use Rattle.flat_expressions.proofs.Copying.{one_made, one_fails}
use Rattle.flat_expressions.proofs.node.unary.Goals as goal

pub returns-in-Ok : goal.returns-in-Ok
returns-in-Ok c = λ vars env a l h.
    one_made (IsFlat vars env a) (IsFlat vars env (e.Unary c.args.op a)) l c.args.of _ _ c.made_unary.result c.in-Ok.is h (λ k. of_unary k) c.made_unary.ensures

pub returns-in-Err : goal.returns-in-Err
returns-in-Err c = λ vars env a l h. one_fails (IsFlat vars env a) (IsFlat vars env (e.Unary c.args.op a)) l c.args.of _ c.in-Err.is h
