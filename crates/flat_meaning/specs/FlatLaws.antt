-- What the flat form keeps.
use Rattle.std.specs.Prelude.{◌≡◌, List}
use Rattle.vlog_tree.specs.declared.expression.Expr.{Expr}
use Rattle.vlog_tree.specs.declared.statement.Stmt.{Stmt}
use Rattle.elab_types.specs.declared.flat_expression.FlatExpr.{FlatExpr}
use Rattle.elab_types.specs.declared.flat_source.FlatVar.{FlatVar}
use Rattle.elab_types.specs.declared.flat_statement.FlatStmt.{FlatStmt}
use Rattle.source_meaning.specs.Environment.{Environment}
use Rattle.source_meaning.specs.Expressions as source
use Rattle.source_meaning.specs.Statements as source_statements
use Rattle.source_meaning.specs.Drives as source_targets
use Rattle.flat_meaning.specs.Expressions.{meaning}
use Rattle.flat_meaning.specs.FlatForm.{IsFlat, IsFlatStmt}
use Rattle.flat_meaning.specs.Statements.{does, targets}

-- The flat form of an expression means the same: size, sign, objects, and the value in each state and context.
abbrev pub FlatMeansTheSame : Type 0
FlatMeansTheSame = (vars : List FlatVar) (env : Environment) (e : Expr) (flat : FlatExpr) → IsFlat vars env e flat
    → source.meaning env e ≡ meaning vars flat

-- The flat form of a statement does the same from each state: state, updates, text, events and flags.
abbrev pub FlatDoesTheSame : Type 0
FlatDoesTheSame = (vars : List FlatVar) (env : Environment) (st : Stmt) (flat : FlatStmt) → IsFlatStmt vars env st flat
    → source_statements.does st env ≡ does vars env.scope flat

-- The targets of the flat form of a statement name the same objects.
abbrev pub FlatNamesTheSame : Type 0
FlatNamesTheSame = (vars : List FlatVar) (env : Environment) (st : Stmt) (flat : FlatStmt) → IsFlatStmt vars env st flat
    → source_targets.targets st env ≡ targets vars flat
