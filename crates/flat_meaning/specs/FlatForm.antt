-- The flat form of expressions and statements (this project's own): each name is a variable's number or a constant's value,
-- and a loop is a block of its passes.
use Rattle.std.specs.Prelude.{◌≡◌, ℕ, Bool, List, [], ◌∷◌, Option, Some, None}
use Rattle.cov_types.specs.declared.place.Place.{Place}
use Rattle.vlog_tree.specs.declared.operator.UnaryOp.{UnaryOp}
use Rattle.vlog_tree.specs.declared.operator.BinaryOp.{BinaryOp}
use Rattle.vlog_tree.specs.declared.operator.SystemCall.{SystemCall}
use Rattle.vlog_tree.specs.declared.expression.Expr.{Expr}
use Rattle.vlog_tree.specs.declared.expression.Expr.TheVariants as e
use Rattle.vlog_tree.specs.declared.expression.Select.{Select}
use Rattle.vlog_tree.specs.declared.expression.Select.TheVariants as select
use Rattle.vlog_tree.specs.declared.statement.Stmt.{Stmt}
use Rattle.vlog_tree.specs.declared.statement.StmtKind.TheVariants as s
use Rattle.vlog_tree.specs.declared.statement.CaseArm.{CaseArm}
use Rattle.vlog_tree.specs.Trees.{stmt, case_arm}
use Rattle.elab_types.specs.declared.flat_source.FlatVar.{FlatVar}
use Rattle.elab_types.specs.declared.flat_expression.FlatExpr.{FlatExpr}
use Rattle.elab_types.specs.declared.flat_expression.FlatExpr.TheVariants as f
use Rattle.elab_types.specs.declared.flat_expression.FlatSelect.{FlatSelect}
use Rattle.elab_types.specs.declared.flat_expression.FlatSelect.TheVariants as flat_select
use Rattle.elab_types.specs.declared.flat_statement.FlatStmt.{FlatStmt}
use Rattle.elab_types.specs.declared.flat_statement.FlatKind.TheVariants as k
use Rattle.elab_types.specs.declared.flat_statement.FlatArm.{FlatArm}
use Rattle.source_meaning.specs.Meaning.{Variable}
use Rattle.source_meaning.specs.Environment.{Environment, variable, constant, in_pass}
use Rattle.source_meaning.specs.Statements.{values_of}
use Rattle.flat_meaning.specs.Expressions.{looked_up}
use Rattle.flat_meaning.specs.FlatTrees.{flat_stmt, flat_arm}

module _ (vars : List FlatVar) where
  mutual
    -- an expression and its flat form: names that stand for variables are their numbers, those that stand for constants their values
    pub data IsFlat (env : Environment) : Expr → FlatExpr → Type 0 where
      number : {w x free : ℕ} {sg : Bool} → IsFlat env (e.Number w sg x free) (f.Number w sg x free)
      of_variable : {name : List ℕ} {n : ℕ} {v : Variable} → env.look name ≡ variable v → looked_up vars n ≡ variable v → IsFlat env (e.Name name) (f.Var n)
      of_constant : {name : List ℕ} {w x : ℕ} {sg : Bool} → env.look name ≡ constant w sg x → IsFlat env (e.Name name) (f.Number w sg x 0)
      of_select : {base : Expr} {some : Select} {a : FlatExpr} {b : FlatSelect} → IsFlat env base a → IsFlatSelect env some b
          → IsFlat env (e.Select base some) (f.Select a b)
      of_unary : {op : UnaryOp} {of : Expr} {a : FlatExpr} → IsFlat env of a → IsFlat env (e.Unary op of) (f.Unary op a)
      of_binary : {op : BinaryOp} {left right : Expr} {a b : FlatExpr} → IsFlat env left a → IsFlat env right b
          → IsFlat env (e.Binary op left right) (f.Binary op a b)
      of_choice : {test left right : Expr} {a b c : FlatExpr} → IsFlat env test a → IsFlat env left b → IsFlat env right c
          → IsFlat env (e.Choose test left right) (f.Choose a b c)
      of_join : {parts : List Expr} {as_parts : List FlatExpr} → AreFlat env parts as_parts → IsFlat env (e.Join parts) (f.Join as_parts)
      of_repeat : {count : Expr} {parts : List Expr} {a : FlatExpr} {as_parts : List FlatExpr}
          → IsFlat env count a → AreFlat env parts as_parts → IsFlat env (e.Repeat count parts) (f.Repeat a as_parts)
      of_call : {name : SystemCall} {of : Expr} {a : FlatExpr} → IsFlat env of a → IsFlat env (e.Call name of) (f.Call name a)

    -- a select and its flat form
    pub data IsFlatSelect (env : Environment) : Select → FlatSelect → Type 0 where
      of_at : {i : Expr} {a : FlatExpr} → IsFlat env i a → IsFlatSelect env (select.At i) (flat_select.At a)
      of_between : {high low : Expr} {a b : FlatExpr} → IsFlat env high a → IsFlat env low b
          → IsFlatSelect env (select.Between high low) (flat_select.Between a b)
      of_up : {i count : Expr} {a b : FlatExpr} → IsFlat env i a → IsFlat env count b → IsFlatSelect env (select.Up i count) (flat_select.Up a b)
      of_down : {i count : Expr} {a b : FlatExpr} → IsFlat env i a → IsFlat env count b → IsFlatSelect env (select.Down i count) (flat_select.Down a b)

    -- expressions and their flat forms, one by one
    pub data AreFlat (env : Environment) : List Expr → List FlatExpr → Type 0 where
      no_exprs : AreFlat env [] []
      more_exprs : {of : Expr} {a : FlatExpr} {rest : List Expr} {others : List FlatExpr} → IsFlat env of a → AreFlat env rest others
          → AreFlat env (of ∷ rest) (a ∷ others)

  mutual
    -- a statement and its flat form
    pub data IsFlatStmt : Environment → Stmt → FlatStmt → Type 0 where
      empty : {env : Environment} {p : Place} → IsFlatStmt env (stmt p s.Empty) (flat_stmt p k.Empty)
      block : {env : Environment} {p last : Place} {body : List Stmt} {flat : List FlatStmt} → AreFlatStmts env body flat
          → IsFlatStmt env (stmt p (s.Block body last)) (flat_stmt p (k.Block flat last))
      if_alone : {env : Environment} {p : Place} {test : Expr} {a : FlatExpr} {first : Stmt} {one : FlatStmt}
          → IsFlat env test a → IsFlatStmt env first one → IsFlatStmt env (stmt p (s.If test first None)) (flat_stmt p (k.If a one None))
      if_else : {env : Environment} {p : Place} {test : Expr} {a : FlatExpr} {first second : Stmt} {one two : FlatStmt}
          → IsFlat env test a → IsFlatStmt env first one → IsFlatStmt env second two
          → IsFlatStmt env (stmt p (s.If test first (Some second))) (flat_stmt p (k.If a one (Some two)))
      case : {env : Environment} {p : Place} {wild : Bool} {on : Expr} {a : FlatExpr} {arms : List CaseArm} {flat : List FlatArm}
          → IsFlat env on a → AreFlatArms env arms flat → IsFlatStmt env (stmt p (s.Case wild on arms)) (flat_stmt p (k.Case wild a flat))
      -- a loop: a block of its passes, the loop variable being a constant in each; its places are that of the `for`
      loop : {env : Environment} {p : Place} {name step_name : List ℕ} {from test step : Expr} {body : Stmt} {values : List ℕ} {flat : List FlatStmt}
          → values_of env name from test step ≡ values → AreFlatPasses env name values body flat
          → IsFlatStmt env (stmt p (s.For name from test step_name step body)) (flat_stmt p (k.Block flat p))
      set : {env : Environment} {p : Place} {target value : Expr} {a b : FlatExpr} → IsFlat env target a → IsFlat env value b
          → IsFlatStmt env (stmt p (s.Set target value)) (flat_stmt p (k.Set a b))
      later : {env : Environment} {p : Place} {target value : Expr} {a b : FlatExpr} → IsFlat env target a → IsFlat env value b
          → IsFlatStmt env (stmt p (s.Later target value)) (flat_stmt p (k.Later a b))
      show : {env : Environment} {p : Place} {text : Option (List ℕ)} {values : List Expr} {flat : List FlatExpr} → AreFlat env values flat
          → IsFlatStmt env (stmt p (s.Show text values)) (flat_stmt p (k.Show text flat))
      finish : {env : Environment} {p : Place} → IsFlatStmt env (stmt p s.Finish) (flat_stmt p k.Finish)
      stop : {env : Environment} {p : Place} → IsFlatStmt env (stmt p s.Stop) (flat_stmt p k.Stop)

    -- statements and their flat forms, one by one
    pub data AreFlatStmts : Environment → List Stmt → List FlatStmt → Type 0 where
      no_stmts : {env : Environment} → AreFlatStmts env [] []
      more_stmts : {env : Environment} {first : Stmt} {one : FlatStmt} {rest : List Stmt} {others : List FlatStmt} → IsFlatStmt env first one
          → AreFlatStmts env rest others → AreFlatStmts env (first ∷ rest) (one ∷ others)

    -- arms of a `case` and their flat forms, one by one
    pub data AreFlatArms : Environment → List CaseArm → List FlatArm → Type 0 where
      no_arms : {env : Environment} → AreFlatArms env [] []
      more_arms : {env : Environment} {p : Place} {items : List Expr} {flat_items : List FlatExpr} {body : Stmt} {one : FlatStmt}
          {rest : List CaseArm} {others : List FlatArm}
          → AreFlat env items flat_items → IsFlatStmt env body one → AreFlatArms env rest others
          → AreFlatArms env (case_arm p items body ∷ rest) (flat_arm p flat_items one ∷ others)

    -- the passes of a loop: its variable has these values, and the flat form of its body in each is this
    pub data AreFlatPasses : Environment → List ℕ → List ℕ → Stmt → List FlatStmt → Type 0 where
      no_passes : {env : Environment} {name : List ℕ} {body : Stmt} → AreFlatPasses env name [] body []
      more_passes : {env : Environment} {name : List ℕ} {n : ℕ} {ns : List ℕ} {body : Stmt} {one : FlatStmt} {others : List FlatStmt}
          → IsFlatStmt (in_pass env name n) body one → AreFlatPasses env name ns body others → AreFlatPasses env name (n ∷ ns) body (one ∷ others)
