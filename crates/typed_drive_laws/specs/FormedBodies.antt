-- What the bodies of a flat source are beside the forms of its trees: constants stand where they have to, no `case` has two
-- defaults, and a cover does nothing (IEEE 1364-2005, 9.5: one default at most).
use Rattle.std.specs.Prelude.{◌≡◌, Bool, true, false, not, ◌&&◌, List, [], ◌∷◌, map, unwrap_or}
use Rattle.std.specs.List.{list_all, AllByRecursion}
use Rattle.cov_types.specs.declared.kind.ProcessKind.TheVariants as kind
use Rattle.elab_types.specs.declared.flat_source.FlatVar.{FlatVar}
use Rattle.elab_types.specs.declared.flat_expression.FlatExpr.{FlatExpr}
use Rattle.elab_types.specs.declared.flat_statement.FlatStmt.{FlatStmt, fold-FlatStmt}
use Rattle.elab_types.specs.declared.flat_statement.FlatKind.TheOpen as k
use Rattle.elab_types.specs.declared.flat_source.FlatProcess.{FlatProcess}
use Rattle.elab_types.specs.declared.flat_source.FlatSource.{FlatSource}
use Rattle.flat_meaning.specs.Statements.{targets}
use Rattle.typed_drive_laws.specs.FixedParts.{has_constants}

-- an arm without items is a default
abbrev pub is_default : List FlatExpr → Bool
is_default [] = true
is_default (item ∷ items) = false

-- of some arms one is a default at most
abbrev pub one_default : List Bool → Bool
one_default [] = true
one_default (true ∷ rest) = list_all not rest
one_default (false ∷ rest) = one_default rest

-- an arm of a `case`: whether it is a default, and whether it is well formed
pub record FormedArm : Type 0 where
  pub is_default : Bool
  pub formed : Bool

-- a statement by its kind: each expression of it passes a test, and no `case` has two defaults
abbrev pub kind_formed : (FlatExpr → Bool) → k.FlatKind-F Bool FormedArm Bool → Bool
kind_formed test (k.Block body last) = list_all (λ formed. formed) body
kind_formed test (k.If on first second) = test on && first && unwrap_or second true
kind_formed test (k.Case wild on arms) = test on && one_default (map (λ a. a.is_default) arms) && list_all (λ a. a.formed) arms
kind_formed test (k.Set target value) = test target && test value
kind_formed test (k.Later target value) = test target && test value
kind_formed test (k.Show text values) = list_all test values
kind_formed test _ = true

-- the same of an arm
abbrev pub arm_formed : (FlatExpr → Bool) → k.FlatArm-F Bool FormedArm Bool → FormedArm
arm_formed test a = record { is_default = is_default a.items; formed = list_all test a.items && a.body }

-- each expression of a statement passes a test, and no `case` in it has two defaults
abbrev pub is_formed : (FlatExpr → Bool) → FlatStmt → Bool
is_formed test = fold-FlatStmt Bool FormedArm Bool (kind_formed test) (arm_formed test) (λ s. s.what)

-- The body of a process has constants where they have to be, and writes nothing where the process is a cover.
pub record IsFormed (vars : List FlatVar) (p : FlatProcess) : Type 0 where
  pub body : is_formed (has_constants vars) p.body ≡ true
  pub idle : p.kind ≡ kind.Cover → targets vars p.body ≡ []

-- All processes of a source are so.
abbrev pub AreFormed : FlatSource → Type 0
AreFormed flat = AllByRecursion (IsFormed flat.vars) flat.processes
