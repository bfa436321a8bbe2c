use Rattle.vlog_tree.specs.declared.expression.Expr.TheVariants as e
use Rattle.flat_meaning.specs.FlatForm.{IsFlat, IsFlatSelect, of_select}
use Rattle.flat_expressions.proofs.Copying.{two_made, two_fail}
use Rattle.flat_expressions.proofs.node.select.Goals as goal

pub returns-in-Ok : goal.returns-in-Ok
returns-in-Ok c = λ vars env a b l m h k.
    two_made (IsFlat vars env a) (IsFlatSelect vars env b) (IsFlat vars env (e.Select a b)) l m c.args.base c.args.part c.both-all.result _ _ _
    c.made_select.result c.both-all.ensures
    c.in-Ok.is h k (λ p q. of_select p q) c.made_select.ensures

pub returns-in-Err : goal.returns-in-Err
returns-in-Err c = λ vars env a b l m h k.
    two_fail (IsFlat vars env a) (IsFlatSelect vars env b) (IsFlat vars env (e.Select a b)) l m c.args.base c.args.part c.both-all.result _
    c.both-all.ensures c.in-Err.is h k
