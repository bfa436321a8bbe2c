-- Whether the expressions inside a flat statement have numbers that fit and sizes of at most 128, and its targets some bit.
use Rattle.std.specs.Prelude.{nat_le, Bool, true, ◌&&◌, List, unwrap_or}
use Rattle.std.specs.List.{list_all}
use Rattle.elab_types.specs.declared.flat_source.FlatVar.{FlatVar}
use Rattle.elab_types.specs.declared.flat_expression.FlatExpr.{FlatExpr}
use Rattle.elab_types.specs.declared.flat_statement.FlatStmt.{FlatStmt, fold-FlatStmt}
use Rattle.elab_types.specs.declared.flat_statement.FlatKind.TheOpen as k
use Rattle.source_meaning.specs.Assignments.{total_width}
use Rattle.flat_meaning.specs.Expressions.{meaning}
use Rattle.flat_meaning.specs.Faults.{check}
use Rattle.typed_valid_laws.specs.NumbersFit.{numbers_fit}

-- an expression's numbers fit, and its sizes are small
abbrev pub expression_fits : List FlatVar → FlatExpr → Bool
expression_fits vars e = numbers_fit vars e && (check vars e).sizes

-- those of all
abbrev pub all_fit : List FlatVar → List FlatExpr → Bool
all_fit vars = list_all (expression_fits vars)

-- those of a target, which names some bit
abbrev pub target_fits : List FlatVar → FlatExpr → Bool
target_fits vars e = expression_fits vars e && nat_le 1 (total_width (meaning vars e).objects)

-- one statement, from whether those inside fit
abbrev pub kind_fits : List FlatVar → k.FlatKind-F Bool Bool Bool → Bool
kind_fits vars (k.Block body last) = list_all (λ fits. fits) body
kind_fits vars (k.If on first second) = expression_fits vars on && first && unwrap_or second true
kind_fits vars (k.Case wild on arms) = expression_fits vars on && list_all (λ fits. fits) arms
kind_fits vars (k.Set target e) = target_fits vars target && expression_fits vars e
kind_fits vars (k.Later target e) = target_fits vars target && expression_fits vars e
kind_fits vars (k.Show text values) = all_fit vars values
kind_fits vars _ = true

-- an arm of a `case`
abbrev pub arm_fits : List FlatVar → k.FlatArm-F Bool Bool Bool → Bool
arm_fits vars a = all_fit vars a.items && a.body

-- the expressions and targets of a statement fit
abbrev pub statement_fits : List FlatVar → FlatStmt → Bool
statement_fits vars = fold-FlatStmt Bool Bool Bool (kind_fits vars) (arm_fits vars) (λ s. s.what)
