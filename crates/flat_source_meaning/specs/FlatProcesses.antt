-- The flat processes of a source, and the copies of arms that each process has.
use Rattle.std.specs.Prelude.{◌≡◌, ℕ, ◌+◌, List, [], ◌∷◌, ◌++◌, map, Option, Some}
use Rattle.cov_types.specs.declared.place.Place.{Place}
use Rattle.vlog_tree.specs.declared.expression.Expr.{Expr}
use Rattle.vlog_tree.specs.declared.statement.Stmt.{Stmt}
use Rattle.vlog_tree.specs.declared.item.NamePlace.{NamePlace}
use Rattle.vlog_tree.specs.Trees.{stmt_layer}
use Rattle.cov_types.specs.declared.kind.ProcessKind.{ProcessKind}
use Rattle.cov_types.specs.declared.kind.ProcessKind.TheVariants as kind
use Rattle.elab_types.specs.declared.flat_source.FlatVar.{FlatVar}
use Rattle.elab_types.specs.declared.flat_expression.FlatExpr.{FlatExpr}
use Rattle.elab_types.specs.declared.flat_statement.FlatStmt.{FlatStmt}
use Rattle.elab_types.specs.declared.flat_statement.FlatKind.TheVariants as k
use Rattle.elab_types.specs.declared.flat_source.FlatProcess.{FlatProcess}
use Rattle.source_meaning.specs.Environment.{Environment}
use Rattle.flat_meaning.specs.FlatForm.{IsFlat, IsFlatStmt}
use Rattle.flat_source_meaning.specs.SourceArms.{Arm, body_arm, cover_arm, no_arm}
use Rattle.flat_source_meaning.specs.ArmCopies.{HasArms}
use Rattle.flat_source_meaning.specs.Processes.{Process, initially, always, assigns, covers, always_kind}
use Rattle.flat_meaning.specs.FlatTrees.{flat_stmt}

-- a process of a kind in a scope
abbrev pub flat_process : ℕ → Place → ProcessKind → FlatStmt → FlatProcess
flat_process scope p kind body = record { scope = scope; place = p; kind = kind; body = body }

-- a cover is one `if` on its expression with empty arms, at the first token of its item
abbrev pub cover_stmt : Place → FlatExpr → FlatStmt
cover_stmt p test = flat_stmt p (k.If test (flat_stmt p k.Empty) (Some (flat_stmt p k.Empty)))

-- The flat form of a process.
pub data IsFlatProcess (vars : List FlatVar) : Process → FlatProcess → Type 0 where
  initially_flat : {env : Environment} {p : Place} {st : Stmt} {body : FlatStmt}
      → IsFlatStmt vars env st body → IsFlatProcess vars (initially env p st) (flat_process env.scope p kind.Initial body)
  always_flat : {clock : Option (List ℕ)} {env : Environment} {p : Place} {st : Stmt} {body : FlatStmt}
      → IsFlatStmt vars env st body → IsFlatProcess vars (always clock env p st) (flat_process env.scope p (always_kind clock) body)
  assigns_flat : {target_env env : Environment} {p : Place} {target e : Expr} {a b : FlatExpr}
      → IsFlat vars target_env target a → IsFlat vars env e b
      → IsFlatProcess vars (assigns target_env env p target e) (flat_process env.scope p kind.Assign (flat_stmt p (k.Set a b)))
  covers_flat : {env : Environment} {p word : Place} {label : Option NamePlace} {test : Expr} {a : FlatExpr}
      → IsFlat vars env test a
      → IsFlatProcess vars (covers env p word label test) (flat_process env.scope word kind.Cover (cover_stmt p a))

-- the number of the scope that a process stands in
abbrev pub scope_of : Process → ℕ
scope_of (initially env p st) = env.scope
scope_of (always clock env p st) = env.scope
scope_of (assigns target_env env p target e) = env.scope
scope_of (covers env p word label test) = env.scope

-- The copies of arms of a process: its body's before those in it.
pub data HasProcessArms : Process → List Arm → Type 0 where
  initially_has : {env : Environment} {p : Place} {st : Stmt} {arms : List Arm}
      → HasArms env st (stmt_layer st) arms → HasProcessArms (initially env p st) (body_arm p st ∷ arms)
  always_has : {clock : Option (List ℕ)} {env : Environment} {p : Place} {st : Stmt} {arms : List Arm}
      → HasArms env st (stmt_layer st) arms → HasProcessArms (always clock env p st) (body_arm p st ∷ arms)
  assigns_has : {target_env env : Environment} {p : Place} {target e : Expr} → HasProcessArms (assigns target_env env p target e) (no_arm p ∷ [])
  covers_has : {env : Environment} {p word : Place} {label : Option NamePlace} {test : Expr}
      → HasProcessArms (covers env p word label test) (cover_arm word label ∷ [])

-- a copy of an arm with the numbers of its process and scope
pub record Numbered : Type 0 where
  pub process : ℕ
  pub scope : ℕ
  pub arm : Arm

-- the copies of arms of a process with its number and its scope's
abbrev pub with_numbers : ℕ → Process → List Arm → List Numbered
with_numbers k p arms = map (λ a. record { process = k; scope = scope_of p; arm = a }) arms

-- the copies of all arms of some processes, the first of which has this number
pub data HaveArms : ℕ → List Process → List Numbered → Type 0 where
  none : {k : ℕ} → HaveArms k [] []
  more : {k n : ℕ} {p : Process} {ps : List Process} {arms : List Arm} {rest : List Numbered}
      → HasProcessArms p arms → n ≡ k + 1 → HaveArms n ps rest → HaveArms k (p ∷ ps) (with_numbers k p arms ++ rest)
