use Rattle.vlog_tree.specs.declared.expression.Select.TheVariants as select
use Rattle.flat_meaning.specs.FlatForm.{IsFlat, IsFlatSelect, of_at}
use Rattle.flat_expressions.proofs.Copying.{one_made, one_fails}
use Rattle.flat_expressions.proofs.node.at.Goals as goal

pub returns-in-Ok : goal.returns-in-Ok
returns-in-Ok c = λ vars env a l h.
    one_made (IsFlat vars env a) (IsFlatSelect vars env (select.At a)) l c.args.position _ _ c.made_at.result c.in-Ok.is h (λ k. of_at k) c.made_at.ensures

pub returns-in-Err : goal.returns-in-Err
returns-in-Err c = λ vars env a l h. one_fails (IsFlat vars env a) (IsFlatSelect vars env (select.At a)) l c.args.position _ c.in-Err.is h
