-- The copies of arms of a process in preorder: a loop has those of its body once per pass (this project's own).
use Rattle.std.specs.Prelude.{◌≡◌, ℕ, Bool, true, false, List, [], ◌∷◌, ◌++◌, Option, Some, None}
use Rattle.cov_types.specs.declared.place.Place.{Place}
use Rattle.vlog_tree.specs.declared.expression.Expr.{Expr}
use Rattle.vlog_tree.specs.declared.statement.Stmt.{Stmt}
use Rattle.vlog_tree.specs.declared.statement.StmtKind.TheOpen as o
use Rattle.vlog_tree.specs.declared.statement.CaseArm.{CaseArm, out-CaseArm}
use Rattle.vlog_tree.specs.Trees.{StmtLayer, stmt_layer, first_token}
use Rattle.source_meaning.specs.Environment.{Environment, in_pass}
use Rattle.source_meaning.specs.Statements.{values_of}
use Rattle.flat_source_meaning.specs.SourceArms.{Arm, if_arm, else_arm, unwritten_else, case_arm_of, no_arm}

-- the arms of the default, or the one where nothing matches
abbrev pub or_no_match : Place → Option (List Arm) → List Arm
or_no_match p (Some arms) = arms
or_no_match p None = no_arm p ∷ []

-- a statement with no statement in it
abbrev pub is_single : StmtLayer → Bool
is_single (o.Block body last) = false
is_single (o.If test first other) = false
is_single (o.Case wild on all) = false
is_single (o.For name from test step_name step body) = false
is_single _ = true

mutual
  -- a statement with its layer, and the copies of arms in it
  pub data HasArms : Environment → Stmt → StmtLayer → List Arm → Type 0 where
    single : {env : Environment} {a : Stmt} {l : StmtLayer} → is_single l ≡ true → HasArms env a l []
    block : {env : Environment} {a : Stmt} {last : Place} {body : List Stmt} {arms : List Arm}
        → AllHaveArms env body arms → HasArms env a (o.Block body last) arms
    if_alone : {env : Environment} {a : Stmt} {test : Expr} {first : Stmt} {arms : List Arm}
        → HasArms env first (stmt_layer first) arms
        → HasArms env a (o.If test first None) (if_arm (first_token a) first ∷ arms ++ unwritten_else (first_token a) ∷ [])
    if_else : {env : Environment} {a : Stmt} {test : Expr} {first other : Stmt} {arms others : List Arm}
        → HasArms env first (stmt_layer first) arms → HasArms env other (stmt_layer other) others
        → HasArms env a (o.If test first (Some other)) (if_arm (first_token a) first ∷ arms ++ else_arm (first_token a) other ∷ others)
    -- The default comes last among the arms, wherever it stands.
    case : {env : Environment} {a : Stmt} {wild : Bool} {on : Expr} {all : List CaseArm} {arms : List Arm} {default : Option (List Arm)}
        → CasesHaveArms env all arms default → HasArms env a (o.Case wild on all) (arms ++ or_no_match (first_token a) default)
    for : {env : Environment} {a : Stmt} {name step_name : List ℕ} {from test step : Expr} {body : Stmt} {arms : List Arm}
        → PassesHaveArms env name (values_of env name from test step) body arms
        → HasArms env a (o.For name from test step_name step body) arms

  -- statements in turn
  pub data AllHaveArms : Environment → List Stmt → List Arm → Type 0 where
    no_stmts : {env : Environment} → AllHaveArms env [] []
    more_stmts : {env : Environment} {a : Stmt} {all : List Stmt} {arms others : List Arm}
        → HasArms env a (stmt_layer a) arms → AllHaveArms env all others → AllHaveArms env (a ∷ all) (arms ++ others)

  -- the passes of a loop, its variable having these values
  pub data PassesHaveArms : Environment → List ℕ → List ℕ → Stmt → List Arm → Type 0 where
    over : {env : Environment} {name : List ℕ} {body : Stmt} → PassesHaveArms env name [] body []
    turn : {env : Environment} {name : List ℕ} {n : ℕ} {ns : List ℕ} {body : Stmt} {arms others : List Arm}
        → HasArms (in_pass env name n) body (stmt_layer body) arms → PassesHaveArms env name ns body others
        → PassesHaveArms env name (n ∷ ns) body (arms ++ others)

  -- the arms of a `case`: those listed, and apart from them those of the default, if there is one
  pub data CasesHaveArms : Environment → List CaseArm → List Arm → Option (List Arm) → Type 0 where
    no_arms : {env : Environment} → CasesHaveArms env [] [] None
    listed : {env : Environment} {a : CaseArm} {item : Expr} {items : List Expr} {all : List CaseArm} {arms others : List Arm} {default : Option (List Arm)}
        → (out-CaseArm a).items ≡ item ∷ items → HasArms env (out-CaseArm a).body (stmt_layer (out-CaseArm a).body) arms
        → CasesHaveArms env all others default → CasesHaveArms env (a ∷ all) (case_arm_of a ∷ arms ++ others) default
    default_arm : {env : Environment} {a : CaseArm} {all : List CaseArm} {arms others : List Arm}
        → (out-CaseArm a).items ≡ [] → HasArms env (out-CaseArm a).body (stmt_layer (out-CaseArm a).body) arms
        → CasesHaveArms env all others None → CasesHaveArms env (a ∷ all) others (Some (case_arm_of a ∷ arms))
