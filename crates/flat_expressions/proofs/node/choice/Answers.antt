use Rattle.vlog_tree.specs.declared.expression.Expr.TheVariants as e
use Rattle.flat_meaning.specs.FlatForm.{IsFlat, of_choice}
use Rattle.flat_expressions.proofs.Copying.{three_made, three_fail}
use Rattle.flat_expressions.proofs.node.choice.Goals as goal

pub returns-in-Ok : goal.returns-in-Ok
returns-in-Ok c = λ vars env t a b j l m h k i.
    three_made (IsFlat vars env t) (IsFlat vars env a) (IsFlat vars env b) (IsFlat vars env (e.Choose t a b)) j l m c.args.test c.args.yes c.args.no
    c.both-first.result
    c.both-all.result _ _ _ c.made_choice.result c.both-first.ensures c.both-all.ensures c.in-Ok.is h k i (λ p q r. of_choice p q r) c.made_choice.ensures

pub returns-in-Err : goal.returns-in-Err
returns-in-Err c = λ vars env t a b j l m h k i.
    three_fail (IsFlat vars env t) (IsFlat vars env a) (IsFlat vars env b) (IsFlat vars env (e.Choose t a b)) j l m c.args.test c.args.yes c.args.no
    c.both-first.result
    c.both-all.result _ c.both-first.ensures c.both-all.ensures c.in-Err.is h k i
