use Rattle.vlog_tree.specs.declared.expression.Expr.TheVariants as e
use Rattle.flat_meaning.specs.FlatForm.{IsFlat, of_binary}
use Rattle.flat_expressions.proofs.Copying.{two_made, two_fail}
use Rattle.flat_expressions.proofs.node.binary.Goals as goal

pub returns-in-Ok : goal.returns-in-Ok
returns-in-Ok c = λ vars env a b l m h k.
    two_made (IsFlat vars env a) (IsFlat vars env b) (IsFlat vars env (e.Binary c.args.op a b)) l m c.args.left c.args.right c.both-all.result _ _ _
    c.made_binary.result c.both-all.ensures
    c.in-Ok.is h k (λ p q. of_binary p q) c.made_binary.ensures

pub returns-in-Err : goal.returns-in-Err
returns-in-Err c = λ vars env a b l m h k.
    two_fail (IsFlat vars env a) (IsFlat vars env b) (IsFlat vars env (e.Binary c.args.op a b)) l m c.args.left c.args.right c.both-all.result _
    c.both-all.ensures c.in-Err.is h k
