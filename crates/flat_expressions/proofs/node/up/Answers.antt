use Rattle.vlog_tree.specs.declared.expression.Select.TheVariants as select
use Rattle.flat_meaning.specs.FlatForm.{IsFlat, IsFlatSelect, of_up}
use Rattle.flat_expressions.proofs.Copying.{two_made, two_fail}
use Rattle.flat_expressions.proofs.node.up.Goals as goal

pub returns-in-Ok : goal.returns-in-Ok
returns-in-Ok c = λ vars env a b l m h k.
    two_made (IsFlat vars env a) (IsFlat vars env b) (IsFlatSelect vars env (select.Up a b)) l m c.args.from c.args.width c.both-all.result _ _ _
    c.made_up.result c.both-all.ensures
    c.in-Ok.is h k (λ p q. of_up p q) c.made_up.ensures

pub returns-in-Err : goal.returns-in-Err
returns-in-Err c = λ vars env a b l m h k.
    two_fail (IsFlat vars env a) (IsFlat vars env b) (IsFlatSelect vars env (select.Up a b)) l m c.args.from c.args.width c.both-all.result _
    c.both-all.ensures c.in-Err.is h k
