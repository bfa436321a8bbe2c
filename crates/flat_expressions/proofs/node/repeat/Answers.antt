use Rattle.std.specs.Global.{Vec}
use Rattle.elab_types.specs.declared.flat_expression.FlatExpr.{FlatExpr}
use Rattle.vlog_tree.specs.declared.expression.Expr.TheVariants as e
use Rattle.flat_meaning.specs.FlatForm.{AreFlat, IsFlat, of_repeat}
use Rattle.flat_expressions.proofs.Copying.{two_made, two_fail}
use Rattle.flat_expressions.proofs.node.repeat.Goals as goal

pub returns-in-Ok : goal.returns-in-Ok
returns-in-Ok c = λ vars env a b l m h k.
    two_made (IsFlat vars env a) (λ (v : Vec FlatExpr). AreFlat vars env b v.items) (IsFlat vars env (e.Repeat a b)) l m c.args.count c.args.parts
    c.both-all.result _ _ _ c.made_repeat.result c.both-all.ensures
    c.in-Ok.is h k (λ p q. of_repeat p q) c.made_repeat.ensures

pub returns-in-Err : goal.returns-in-Err
returns-in-Err c = λ vars env a b l m h k.
    two_fail (IsFlat vars env a) (λ (v : Vec FlatExpr). AreFlat vars env b v.items) (IsFlat vars env (e.Repeat a b)) l m c.args.count c.args.parts
    c.both-all.result _ c.both-all.ensures c.in-Err.is h k
