-- What the copy of a flat expression says as a constant: what the expression says.
use Rattle.std.specs.Prelude.{◌≡◌, List, map, Result, IfOk}
use Rattle.std.specs.declared.alloc.AllocError.{AllocError}
use Rattle.vlog_tree.specs.declared.expression.Expr.{Expr}
use Rattle.elab_types.specs.declared.flat_expression.FlatExpr.{FlatExpr}
use Rattle.scope_meaning.specs.Constants.{read}
use Rattle.lower_meaning.specs.Constants.{nameless, said}

abbrev pub IsCopy : FlatExpr → Result Expr AllocError → Type 0
IsCopy a r = IfOk r (λ y. read nameless y ≡ said a)

abbrev pub AreCopies : List FlatExpr → Result (List Expr) AllocError → Type 0
AreCopies ps r = IfOk r (λ ys. map (read nameless) ys ≡ map said ps)
