-- The grammar of expressions (IEEE 1364-2005, expressions; docs/formats.md, "Grammar"). A relation holds of the tokens
-- from a place on, a tree, and the tokens after what spells the tree.
use Rattle.std.specs.Prelude.{◌≡◌, ℕ, suc, Bool, List, [], ◌∷◌, Some}
use Rattle.cov_types.specs.declared.place.Place.{Place}
use Rattle.vlog_tokens.specs.declared.token.TokenKind.{TokenKind}
use Rattle.vlog_tokens.specs.declared.token.TokenKind.TheVariants as k
use Rattle.vlog_tree.specs.declared.operator.UnaryOp.{UnaryOp}
use Rattle.vlog_tree.specs.declared.operator.BinaryOp.{BinaryOp}
use Rattle.vlog_tree.specs.declared.operator.SystemCall.{SystemCall}
use Rattle.vlog_tree.specs.declared.expression.RangeExpr.{RangeExpr}
use Rattle.vlog_tree.specs.declared.expression.Expr.{Expr}
use Rattle.vlog_tree.specs.declared.expression.Expr.TheVariants as e
use Rattle.vlog_tree.specs.declared.expression.Select.{Select}
use Rattle.vlog_tree.specs.declared.expression.Select.TheVariants as select
use Rattle.vlog_grammar.specs.Tokens.{Tokens, at, NotNext, infix_of, prefix_of, call_of, tightest}

mutual
  -- expr = binary | binary "?" expr ":" expr
  pub data IsExpr : Tokens → Expr → Tokens → Type 0 where
    plain : {ts us : Tokens} {a : Expr} → IsBinary 2 ts a us → IsExpr ts a us
    choice : {ts us vs ws : Tokens} {a b c : Expr} {p q : Place}
        → IsBinary 2 ts a (at p k.Question ∷ us) → IsExpr us b (at q k.Colon ∷ vs) → IsExpr vs c ws
        → IsExpr ts (e.Choose a b c) ws

  -- The binary operators, left to right: binary of a level is binary of the next one, or
  -- binary of the level, an operator of the level, and binary of the next one.
  pub data IsBinary : ℕ → Tokens → Expr → Tokens → Type 0 where
    operand : {ts us : Tokens} {a : Expr} → IsUnary ts a us → IsBinary tightest ts a us
    higher : {n : ℕ} {ts us : Tokens} {a : Expr} → IsBinary (suc n) ts a us → IsBinary n ts a us
    joined : {n : ℕ} {ts us vs : Tokens} {a b : Expr} {p : Place} {kind : TokenKind} {op : BinaryOp}
        → IsBinary n ts a (at p kind ∷ us) → infix_of kind ≡ Some (n, op) → IsBinary (suc n) us b vs
        → IsBinary n ts (e.Binary op a b) vs

  -- unary = operator unary | primary
  pub data IsUnary : Tokens → Expr → Tokens → Type 0 where
    prefix : {us vs : Tokens} {a : Expr} {p : Place} {kind : TokenKind} {op : UnaryOp}
        → prefix_of kind ≡ Some op → IsUnary us a vs → IsUnary (at p kind ∷ us) (e.Unary op a) vs
    primary : {ts us : Tokens} {a : Expr} → IsPrimary ts a us → IsUnary ts a us

  pub data IsPrimary : Tokens → Expr → Tokens → Type 0 where
    -- number, without free bits
    number : {us : Tokens} {p : Place} {width value : ℕ} {signed : Bool}
        → IsPrimary (at p (k.Number width signed value 0) ∷ us) (e.Number width signed value 0) us
    -- part
    part : {ts us : Tokens} {a : Expr} → IsPart ts a us → IsPrimary ts a us
    -- "(" expr ")"
    inner : {us vs : Tokens} {p q : Place} {a : Expr}
        → IsExpr us a (at q k.CloseParen ∷ vs) → IsPrimary (at p k.OpenParen ∷ us) a vs
    -- "{" expr, .. "}"
    join : {us vs : Tokens} {p q : Place} {all : List Expr}
        → AreExprs us all (at q k.CloseBrace ∷ vs) → IsPrimary (at p k.OpenBrace ∷ us) (e.Join all) vs
    -- "{" expr "{" expr, .. "}" "}"
    repeat : {us vs ws : Tokens} {p q r s : Place} {n : Expr} {all : List Expr}
        → IsExpr us n (at q k.OpenBrace ∷ vs) → AreExprs vs all (at r k.CloseBrace ∷ at s k.CloseBrace ∷ ws)
        → IsPrimary (at p k.OpenBrace ∷ us) (e.Repeat n all) ws
    -- "$signed" "(" expr ")" | "$unsigned" "(" expr ")" | "$clog2" "(" expr ")"
    call : {us vs : Tokens} {p q r : Place} {name : List ℕ} {what : SystemCall} {a : Expr}
        → call_of name ≡ Some what → IsExpr us a (at r k.CloseParen ∷ vs)
        → IsPrimary (at p (k.System name) ∷ at q k.OpenParen ∷ us) (e.Call what a) vs

  -- part = name | name select | name "[" expr "]" select. A bracket after a name, or after a select of one position,
  -- selects from it.
  pub data IsPart : Tokens → Expr → Tokens → Type 0 where
    name : {us : Tokens} {p : Place} {s : List ℕ} → NotNext k.OpenBracket us → IsPart (at p (k.Name s) ∷ us) (e.Name s) us
    position : {us vs : Tokens} {p q r : Place} {s : List ℕ} {a : Expr}
        → IsExpr us a (at r k.CloseBracket ∷ vs) → NotNext k.OpenBracket vs
        → IsPart (at p (k.Name s) ∷ at q k.OpenBracket ∷ us) (e.Select (e.Name s) (select.At a)) vs
    slice : {us vs : Tokens} {p q : Place} {s : List ℕ} {some : Select}
        → IsSlice us some vs → IsPart (at p (k.Name s) ∷ at q k.OpenBracket ∷ us) (e.Select (e.Name s) some) vs
    twice : {us vs ws : Tokens} {p q r t : Place} {s : List ℕ} {a : Expr} {some : Select}
        → IsExpr us a (at r k.CloseBracket ∷ at t k.OpenBracket ∷ vs) → IsSelect vs some ws
        → IsPart (at p (k.Name s) ∷ at q k.OpenBracket ∷ us) (e.Select (e.Select (e.Name s) (select.At a)) some) ws

  -- select, after its opening bracket
  pub data IsSelect : Tokens → Select → Tokens → Type 0 where
    -- expr "]"
    single : {us vs : Tokens} {q : Place} {a : Expr} → IsExpr us a (at q k.CloseBracket ∷ vs) → IsSelect us (select.At a) vs
    several : {us vs : Tokens} {some : Select} → IsSlice us some vs → IsSelect us some vs

  pub data IsSlice : Tokens → Select → Tokens → Type 0 where
    -- expr ":" expr "]"
    between : {us vs ws : Tokens} {q r : Place} {a b : Expr}
        → IsExpr us a (at q k.Colon ∷ vs) → IsExpr vs b (at r k.CloseBracket ∷ ws) → IsSlice us (select.Between a b) ws
    -- expr "+:" expr "]"
    up : {us vs ws : Tokens} {q r : Place} {a b : Expr}
        → IsExpr us a (at q k.PlusColon ∷ vs) → IsExpr vs b (at r k.CloseBracket ∷ ws) → IsSlice us (select.Up a b) ws
    -- expr "-:" expr "]"
    down : {us vs ws : Tokens} {q r : Place} {a b : Expr}
        → IsExpr us a (at q k.MinusColon ∷ vs) → IsExpr vs b (at r k.CloseBracket ∷ ws) → IsSlice us (select.Down a b) ws

  -- expr, ..
  pub data AreExprs : Tokens → List Expr → Tokens → Type 0 where
    last : {ts us : Tokens} {a : Expr} → IsExpr ts a us → AreExprs ts (a ∷ []) us
    more : {ts us vs : Tokens} {p : Place} {a : Expr} {all : List Expr}
        → IsExpr ts a (at p k.Comma ∷ us) → AreExprs us all vs → AreExprs ts (a ∷ all) vs

-- The tokens, all of them, spell the expression.
abbrev pub SpellsExpr : Tokens → Expr → Type 0
SpellsExpr ts a = IsExpr ts a []

mutual
  pub data IsTarget : Tokens → Expr → Tokens → Type 0 where
    -- target = part
    target_part : {ts us : Tokens} {a : Expr} → IsPart ts a us → IsTarget ts a us
    -- target = "{" target, .. "}"
    target_join : {us vs : Tokens} {p q : Place} {all : List Expr}
        → AreTargets us all (at q k.CloseBrace ∷ vs) → IsTarget (at p k.OpenBrace ∷ us) (e.Join all) vs

  -- target, ..
  pub data AreTargets : Tokens → List Expr → Tokens → Type 0 where
    last_target : {ts us : Tokens} {a : Expr} → IsTarget ts a us → AreTargets ts (a ∷ []) us
    more_targets : {ts us vs : Tokens} {p : Place} {a : Expr} {all : List Expr}
        → IsTarget ts a (at p k.Comma ∷ us) → AreTargets us all vs → AreTargets ts (a ∷ all) vs

-- range = "[" expr ":" expr "]"
pub data IsRange : Tokens → RangeExpr → Tokens → Type 0 where
  range : {us vs ws : Tokens} {p q r : Place} {a b : Expr}
      → IsExpr us a (at q k.Colon ∷ vs) → IsExpr vs b (at r k.CloseBracket ∷ ws)
      → IsRange (at p k.OpenBracket ∷ us) (record { high = a; low = b }) ws
