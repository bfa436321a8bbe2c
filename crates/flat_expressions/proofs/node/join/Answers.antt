use Rattle.std.proofs.Common.{List, sym, subst, Result}
use Rattle.std.specs.Global.{Vec}
use Rattle.elab_types.specs.declared.flat_expression.FlatExpr.{FlatExpr}
use Rattle.elab_types.specs.declared.flat_expression.FlatExpr.TheVariants as f
use Rattle.vlog_tree.specs.declared.expression.Expr.TheVariants as e
use Rattle.flat_meaning.specs.FlatForm.{AreFlat, IsFlat, of_join}
use Rattle.flat_expressions.specs.declared.fault.CopyFault.{CopyFault}
use Rattle.flat_expressions.specs.Copies.{Copied}
use Rattle.flat_expressions.proofs.Copying.{one_fails}
use Rattle.flat_expressions.proofs.node.join.Goals as goal

pub returns-in-Ok : goal.returns-in-Ok
returns-in-Ok c = λ vars env ps l h.
    subst (λ (xs : List FlatExpr). IsFlat vars env (e.Join ps) (f.Join xs)) (sym c.from_vec.ensures)
    (of_join (subst (λ (r : Result (Vec FlatExpr) CopyFault). Copied (λ (v : Vec FlatExpr). AreFlat vars env ps v.items) l r) c.in-Ok.is h))

pub returns-in-Err : goal.returns-in-Err
returns-in-Err c = λ vars env ps l h.
    one_fails (λ (v : Vec FlatExpr). AreFlat vars env ps v.items) (IsFlat vars env (e.Join ps)) l c.args.parts _ c.in-Err.is h
