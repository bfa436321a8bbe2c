use Rattle.vlog_tree.specs.declared.expression.Select.TheVariants as select
use Rattle.flat_meaning.specs.FlatForm.{IsFlat, IsFlatSelect, of_down}
use Rattle.flat_expressions.proofs.Copying.{two_made, two_fail}
use Rattle.flat_expressions.proofs.node.down.Goals as goal

pub returns-in-Ok : goal.returns-in-Ok
returns-in-Ok c = λ vars env a b l m h k.
    two_made (IsFlat vars env a) (IsFlat vars env b) (IsFlatSelect vars env (select.Down a b)) l m c.args.from c.args.width c.both-all.result _ _ _
    c.made_down.result c.both-all.ensures
    c.in-Ok.is h k (λ p q. of_down p q) c.made_down.ensures

pub returns-in-Err : goal.returns-in-Err
returns-in-Err c = λ vars env a b l m h k.
    two_fail (IsFlat vars env a) (IsFlat vars env b) (IsFlatSelect vars env (select.Down a b)) l m c.args.from c.args.width c.both-all.result _
    c.both-all.ensures c.in-Err.is h k
