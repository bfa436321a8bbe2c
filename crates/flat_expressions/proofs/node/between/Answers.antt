use Rattle.vlog_tree.specs.declared.expression.Select.TheVariants as select
use Rattle.flat_meaning.specs.FlatForm.{IsFlat, IsFlatSelect, of_between}
use Rattle.flat_expressions.proofs.Copying.{two_made, two_fail}
use Rattle.flat_expressions.proofs.node.between.Goals as goal

pub returns-in-Ok : goal.returns-in-Ok
returns-in-Ok c = λ vars env a b l m h k.
    two_made (IsFlat vars env a) (IsFlat vars env b) (IsFlatSelect vars env (select.Between a b)) l m c.args.high c.args.low c.both-all.result _ _ _
    c.made_between.result c.both-all.ensures
    c.in-Ok.is h k (λ p q. of_between p q) c.made_between.ensures

pub returns-in-Err : goal.returns-in-Err
returns-in-Err c = λ vars env a b l m h k.
    two_fail (IsFlat vars env a) (IsFlat vars env b) (IsFlatSelect vars env (select.Between a b)) l m c.args.high c.args.low c.both-all.result _
    c.both-all.ensures c.in-Err.is h k
