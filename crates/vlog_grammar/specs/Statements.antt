-- The grammar of statements (IEEE 1364-2005, procedural statements; docs/formats.md, "Grammar").
use Rattle.std.specs.Prelude.{◌≡◌, ◌==◌, ℕ, Bool, true, false, List, [], ◌∷◌, Option, Some, None, codes}
use Rattle.cov_types.specs.declared.place.Place.{Place}
use Rattle.vlog_tokens.specs.declared.token.Token.{Token}
use Rattle.vlog_tokens.specs.declared.token.TokenKind.TheVariants as k
use Rattle.vlog_tree.specs.declared.expression.Expr.{Expr}
use Rattle.vlog_tree.specs.declared.expression.Expr.TheVariants as e
use Rattle.vlog_tree.specs.declared.statement.Stmt.{Stmt}
use Rattle.vlog_tree.specs.declared.statement.StmtKind.{StmtKind}
use Rattle.vlog_tree.specs.declared.statement.StmtKind.TheVariants as s
use Rattle.vlog_tree.specs.declared.statement.CaseArm.{CaseArm}
use Rattle.vlog_tree.specs.Trees.{stmt, case_arm}
use Rattle.vlog_grammar.specs.Tokens.{Tokens, at, NotNext}
use Rattle.vlog_grammar.specs.Parts.{AreSeparated}
use Rattle.vlog_grammar.specs.Expressions.{IsExpr, AreExprs, IsTarget}

-- head = "(" name "=" expr ";" expr ";" name "=" expr ")"
pub data IsForHead : Tokens → List ℕ → Expr → Expr → List ℕ → Expr → Tokens → Type 0 where
  for_head : {us vs ws xs : Tokens} {p1 p2 p3 p4 p5 p6 p7 p8 : Place} {name step_name : List ℕ} {from test step : Expr}
      → IsExpr us from (at p4 k.Semicolon ∷ vs) → IsExpr vs test (at p5 k.Semicolon ∷ at p6 (k.Name step_name) ∷ at p7 k.EqualSign ∷ ws)
      → IsExpr ws step (at p8 k.CloseParen ∷ xs)
      → IsForHead (at p1 k.OpenParen ∷ at p2 (k.Name name) ∷ at p3 k.EqualSign ∷ us) name from test step_name step xs

-- an item of a `case`, or where it is wild of a `casez`
pub data IsCaseItem : Bool → Tokens → Expr → Tokens → Type 0 where
  plain_item : {wild : Bool} {ts us : Tokens} {a : Expr} → IsExpr ts a us → IsCaseItem wild ts a us
  -- A number with free bits is a whole item of a `casez`.
  free_item : {us : Tokens} {p : Place} {width value free : ℕ} {signed : Bool} → (free == 0) ≡ false
      → IsCaseItem true (at p (k.Number width signed value free) ∷ us) (e.Number width signed value free) us

-- what a `$display` has: nothing | "(" ")" | "(" text ")" | "(" text "," expr, .. ")"
pub data IsShown : Tokens → Option (List ℕ) → List Expr → Tokens → Type 0 where
  no_parentheses : {us : Tokens} → NotNext k.OpenParen us → IsShown us None [] us
  no_text : {us : Tokens} {p q : Place} → IsShown (at p k.OpenParen ∷ at q k.CloseParen ∷ us) None [] us
  text_alone : {us : Tokens} {p q r : Place} {text : List ℕ}
      → IsShown (at p k.OpenParen ∷ at q (k.Text text) ∷ at r k.CloseParen ∷ us) (Some text) [] us
  text_and_values : {us vs : Tokens} {p q r o : Place} {text : List ℕ} {values : List Expr}
      → AreExprs us values (at o k.CloseParen ∷ vs)
      → IsShown (at p k.OpenParen ∷ at q (k.Text text) ∷ at r k.Comma ∷ us) (Some text) values vs

-- stop = nothing | "(" number ")", the number being without free bits
pub data IsEnding : Tokens → Tokens → Type 0 where
  no_number : {us : Tokens} → NotNext k.OpenParen us → IsEnding us us
  with_number : {us : Tokens} {p q r : Place} {width value : ℕ} {signed : Bool}
      → IsEnding (at p k.OpenParen ∷ at q (k.Number width signed value 0) ∷ at r k.CloseParen ∷ us) us

-- the name of a block, after its `begin`: nothing | ":" name
pub data IsBlockName : Tokens → Tokens → Type 0 where
  named : {us : Tokens} {p q : Place} {name : List ℕ} → IsBlockName (at p k.Colon ∷ at q (k.Name name) ∷ us) us
  unnamed : {us : Tokens} → NotNext k.Colon us → IsBlockName us us

mutual
  pub data IsStmt : Tokens → Stmt → Tokens → Type 0 where
    -- ";"
    empty : {us : Tokens} {p : Place} → IsStmt (at p k.Semicolon ∷ us) (stmt p s.Empty) us
    -- "begin" stmt* "end" | "begin" ":" name stmt* "end"
    block : {us vs ws : Tokens} {p q : Place} {body : List Stmt}
        → IsBlockName us vs → AreStmts vs body (at q k.End ∷ ws) → IsStmt (at p k.Begin ∷ us) (stmt p (s.Block body q)) ws
    -- "if" "(" expr ")" stmt | "if" "(" expr ")" stmt "else" stmt
    -- An `else` belongs to the nearest `if` that has none: none follows an `if` without one.
    if_alone : {us vs ws : Tokens} {p q r : Place} {test : Expr} {first : Stmt}
        → IsExpr us test (at r k.CloseParen ∷ vs) → IsStmt vs first ws → NotNext k.Else ws
        → IsStmt (at p k.If ∷ at q k.OpenParen ∷ us) (stmt p (s.If test first None)) ws
    if_else : {us vs ws xs : Tokens} {p q r o : Place} {test : Expr} {first second : Stmt}
        → IsExpr us test (at r k.CloseParen ∷ vs) → IsStmt vs first (at o k.Else ∷ ws) → IsStmt ws second xs
        → IsStmt (at p k.If ∷ at q k.OpenParen ∷ us) (stmt p (s.If test first (Some second))) xs
    -- "case" "(" expr ")" arm arm* "endcase" | "casez" "(" expr ")" arm arm* "endcase"
    case : {us vs ws : Tokens} {p q r o : Place} {on : Expr} {arms : List CaseArm}
        → IsExpr us on (at r k.CloseParen ∷ vs) → AreArms false false vs arms (at o k.EndCase ∷ ws)
        → IsStmt (at p k.Case ∷ at q k.OpenParen ∷ us) (stmt p (s.Case false on arms)) ws
    casez : {us vs ws : Tokens} {p q r o : Place} {on : Expr} {arms : List CaseArm}
        → IsExpr us on (at r k.CloseParen ∷ vs) → AreArms true false vs arms (at o k.EndCase ∷ ws)
        → IsStmt (at p k.CaseZ ∷ at q k.OpenParen ∷ us) (stmt p (s.Case true on arms)) ws
    -- "for" head stmt
    for : {us vs ws : Tokens} {p : Place} {name step_name : List ℕ} {from test step : Expr} {body : Stmt}
        → IsForHead us name from test step_name step vs → IsStmt vs body ws
        → IsStmt (at p k.For ∷ us) (stmt p (s.For name from test step_name step body)) ws
    -- target "=" expr ";" | target "<=" expr ";"
    set : {us vs ws : Tokens} {t : Token} {q r : Place} {target value : Expr}
        → IsTarget (t ∷ us) target (at q k.EqualSign ∷ vs) → IsExpr vs value (at r k.Semicolon ∷ ws)
        → IsStmt (t ∷ us) (stmt t.place (s.Set target value)) ws
    later : {us vs ws : Tokens} {t : Token} {q r : Place} {target value : Expr}
        → IsTarget (t ∷ us) target (at q k.LessOrEqual ∷ vs) → IsExpr vs value (at r k.Semicolon ∷ ws)
        → IsStmt (t ∷ us) (stmt t.place (s.Later target value)) ws
    -- "$display" ";" | "$display" "(" ")" ";" | "$display" "(" text ")" ";" | "$display" "(" text "," expr, .. ")" ";"
    show : {us vs : Tokens} {p q : Place} {name : List ℕ} {text : Option (List ℕ)} {values : List Expr}
        → name ≡ codes "$display" → IsShown us text values (at q k.Semicolon ∷ vs)
        → IsStmt (at p (k.System name) ∷ us) (stmt p (s.Show text values)) vs
    -- "$finish" stop ";" | "$stop" stop ";"
    finish : {us vs : Tokens} {p q : Place} {name : List ℕ}
        → name ≡ codes "$finish" → IsEnding us (at q k.Semicolon ∷ vs) → IsStmt (at p (k.System name) ∷ us) (stmt p s.Finish) vs
    stop : {us vs : Tokens} {p q : Place} {name : List ℕ}
        → name ≡ codes "$stop" → IsEnding us (at q k.Semicolon ∷ vs) → IsStmt (at p (k.System name) ∷ us) (stmt p s.Stop) vs

  -- stmt*
  pub data AreStmts : Tokens → List Stmt → Tokens → Type 0 where
    no_stmts : {ts : Tokens} → AreStmts ts [] ts
    more_stmts : {ts us vs : Tokens} {a : Stmt} {all : List Stmt} → IsStmt ts a us → AreStmts us all vs → AreStmts ts (a ∷ all) vs

  -- arm arm*, of a `casez` where the first `Bool` says so. There is at most one default: the second `Bool` says
  -- whether one stands before.
  pub data AreArms : Bool → Bool → Tokens → List CaseArm → Tokens → Type 0 where
    last_arm : {wild seen : Bool} {ts us : Tokens} {a : CaseArm} → IsArm wild ts a us → AreArms wild seen ts (a ∷ []) us
    more_arms : {wild seen : Bool} {ts us vs : Tokens} {a : CaseArm} {all : List CaseArm}
        → IsArm wild ts a us → AreArms wild seen us all vs → AreArms wild seen ts (a ∷ all) vs
    last_default : {wild : Bool} {ts us : Tokens} {a : CaseArm} → IsDefault ts a us → AreArms wild false ts (a ∷ []) us
    more_after_default : {wild : Bool} {ts us vs : Tokens} {a : CaseArm} {all : List CaseArm}
        → IsDefault ts a us → AreArms wild true us all vs → AreArms wild false ts (a ∷ all) vs

  -- arm = case_item, .. ":" stmt
  pub data IsArm : Bool → Tokens → CaseArm → Tokens → Type 0 where
    listed : {wild : Bool} {us vs ws : Tokens} {t : Token} {q : Place} {items : List Expr} {body : Stmt}
        → AreSeparated (IsCaseItem wild) (t ∷ us) items (at q k.Colon ∷ vs) → IsStmt vs body ws
        → IsArm wild (t ∷ us) (case_arm t.place items body) ws

  -- arm = "default" ":"? stmt
  pub data IsDefault : Tokens → CaseArm → Tokens → Type 0 where
    default_colon : {us vs : Tokens} {p q : Place} {body : Stmt}
        → IsStmt us body vs → IsDefault (at p k.Default ∷ at q k.Colon ∷ us) (case_arm p [] body) vs
    default_plain : {us vs : Tokens} {p : Place} {body : Stmt} → IsStmt us body vs → IsDefault (at p k.Default ∷ us) (case_arm p [] body) vs

-- The tokens, all of them, spell the statement.
abbrev pub SpellsStmt : Tokens → Stmt → Type 0
SpellsStmt ts a = IsStmt ts a []
