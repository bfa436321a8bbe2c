use Rattle.std.proofs.Common.{◌++◌, ◌∷◌, []}
use Rattle.std.specs.Global.{Vec}
use Rattle.elab_types.specs.declared.flat_expression.FlatExpr.{FlatExpr}
use Rattle.flat_meaning.specs.FlatForm.{AreFlat, IsFlat}
use Rattle.flat_expressions.proofs.Copying.{part_more, two_fail}
use Rattle.flat_expressions.proofs.node.with.Goals as goal

pub returns-in-Ok : goal.returns-in-Ok
returns-in-Ok c = λ vars env ps a l m h k.
    part_more vars env ps a l m c.args.so_far c.args.part c.both-all.result _ _ c.pushed.result c.both-all.ensures c.in-Ok.is h k c.pushed.ensures

pub returns-in-Err : goal.returns-in-Err
returns-in-Err c = λ vars env ps a l m h k.
    two_fail (λ (v : Vec FlatExpr). AreFlat vars env ps v.items) (IsFlat vars env a)
    (λ (v : Vec FlatExpr). AreFlat vars env (ps ++ a ∷ []) v.items) l m c.args.so_far c.args.part c.both-all.result _
    c.both-all.ensures c.in-Err.is h k
