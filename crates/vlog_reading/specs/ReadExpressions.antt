-- Reading expressions from left to right, binary operators by precedence climbing.
use Rattle.std.specs.Prelude.{ℕ, zero, suc, ◌+◌, max, if◌then◌else◌, ◌==◌, nat_lt, List, [], ◌∷◌, ◌++◌, length, Option, Some, None}
use Rattle.vlog_tokens.specs.declared.token.TokenKind.{TokenKind}
use Rattle.vlog_tokens.specs.declared.token.TokenKind.TheVariants as k
use Rattle.vlog_tree.specs.declared.operator.UnaryOp.{UnaryOp}
use Rattle.vlog_tree.specs.declared.operator.BinaryOp.{BinaryOp}
use Rattle.vlog_tree.specs.declared.operator.SystemCall.{SystemCall}
use Rattle.vlog_tree.specs.declared.expression.Expr.{Expr}
use Rattle.vlog_tree.specs.declared.expression.Expr.TheVariants as e
use Rattle.vlog_tree.specs.declared.expression.Select.{Select}
use Rattle.vlog_tree.specs.declared.expression.Select.TheVariants as sel
use Rattle.vlog_grammar.specs.Tokens.{Tokens, prefix_of, call_of, tightest}
use Rattle.vlog_reading.specs.Reading.{Parser, ◌>>=◌, ◌>>◌, pure, refuse, peek, skip, eat, expect, next_infix}

-- The number is the lowest at_level that is read.
module _ (expr : ℕ → Parser Expr) where
  -- an expression, and the mark after it
  unfoldable pub nested_before : TokenKind → Parser Expr
  nested_before close = do
    a ← expr 1
    expect close
    pure a

  unfoldable pub list_from : ℕ → List Expr → Parser (List Expr)
  list_from zero found = refuse
  list_from (suc n) found = do
    x ← expr 1
    more ← eat k.Comma
    if more then list_from n (found ++ x ∷ []) else pure (found ++ x ∷ [])

  -- one or more, with commas between, after those that were found
  unfoldable pub list : List Expr → Parser (List Expr)
  list found = λ ts. list_from (length ts) found ts

  unfoldable pub repeated : Expr → Parser Expr
  repeated count = do
    parts ← list []
    expect k.CloseBrace
    expect k.CloseBrace
    pure (e.Repeat count parts)

  unfoldable pub others : Expr → Parser (List Expr)
  others first = do
    more ← eat k.Comma
    if more then list (first ∷ []) else pure (first ∷ [])

  unfoldable pub joined : Expr → Parser Expr
  joined first = do
    all ← others first
    expect k.CloseBrace
    pure (e.Join all)

  -- after the opening brace
  unfoldable pub in_braces : Parser Expr
  in_braces = do
    first ← expr 1
    is_count ← eat k.OpenBrace
    if is_count then repeated first else joined first

  unfoldable pub slice_by_width : Expr → Parser Select
  slice_by_width first = do
    is_up ← eat k.PlusColon
    if is_up
        then (do width ← nested_before k.CloseBracket; pure (sel.Up first width))
        else (do expect k.MinusColon; width ← nested_before k.CloseBracket; pure (sel.Down first width))

  -- after the first expression of a select that isn't plain
  unfoldable pub slice : Expr → Parser Select
  slice first = do
    is_between ← eat k.Colon
    if is_between then (do second ← nested_before k.CloseBracket; pure (sel.Between first second)) else slice_by_width first

  -- after the opening bracket
  unfoldable pub select : Parser Select
  select = do
    first ← expr 1
    is_plain ← eat k.CloseBracket
    if is_plain then pure (sel.At first) else slice first

  -- after a plain select
  unfoldable pub second_select : Expr → Parser Expr
  second_select base = do
    more ← eat k.OpenBracket
    if more then (do some ← select; pure (e.Select base some)) else pure base

  unfoldable pub part_after_bracket : List ℕ → Parser Expr
  part_after_bracket name = do
    first ← expr 1
    is_plain ← eat k.CloseBracket
    if is_plain then second_select (e.Select (e.Name name) (sel.At first)) else (do some ← slice first; pure (e.Select (e.Name name) some))

  -- after a name
  unfoldable pub part_after_name : List ℕ → Parser Expr
  part_after_name name = do
    is_part ← eat k.OpenBracket
    if is_part then part_after_bracket name else pure (e.Name name)

  abbrev pub system_function : Option SystemCall → Parser Expr
  system_function (Some what) = do
    expect k.OpenParen
    of ← nested_before k.CloseParen
    pure (e.Call what of)
  system_function None = refuse

  abbrev pub prefixed : Option UnaryOp → Parser Expr
  prefixed (Some op) = do
    skip
    of ← expr tightest
    pure (e.Unary op of)
  prefixed None = refuse

  abbrev pub unary_or_primary_by : Option TokenKind → Parser Expr
  unary_or_primary_by (Some (k.Number width signed value free)) = do
    skip
    if free == 0 then pure (e.Number width signed value free) else refuse
  unary_or_primary_by (Some (k.Name name)) = skip >> part_after_name name
  unary_or_primary_by (Some (k.System name)) = skip >> system_function (call_of name)
  unary_or_primary_by (Some k.OpenParen) = skip >> nested_before k.CloseParen
  unary_or_primary_by (Some k.OpenBrace) = skip >> in_braces
  unary_or_primary_by (Some kind) = prefixed (prefix_of kind)
  unary_or_primary_by None = refuse

  unfoldable pub unary_or_primary : Parser Expr
  unary_or_primary = peek >>= unary_or_primary_by

  abbrev pub climb_by : ℕ → (Expr → Parser Expr) → Expr → Option (ℕ × BinaryOp) → Parser Expr
  climb_by least more left None = pure left
  climb_by least more left (Some found) =
      if nat_lt found.0 least then pure left
      else (do skip; right ← expr (found.0 + 1); more (e.Binary found.1 left right))

  unfoldable pub climb : ℕ → ℕ → Expr → Parser Expr
  climb least zero left = refuse
  climb least (suc n) left = λ ts. climb_by least (climb least n) left (next_infix ts) ts

  unfoldable pub binary_rest : ℕ → Expr → Parser Expr
  binary_rest least left = λ ts. climb least (length ts + 1) left ts

  unfoldable pub conditional_rest : Expr → Parser Expr
  conditional_rest test = do
    is_test ← eat k.Question
    if is_test then (do first ← nested_before k.Colon; second ← expr 1; pure (e.Choose test first second)) else pure test

  unfoldable pub at_level : ℕ → Parser Expr
  at_level least = do
    first ← unary_or_primary
    all ← binary_rest (max least 2) first
    if nat_lt least 2 then conditional_rest all else pure all

-- with expressions nested no deeper than the first number
unfoldable pub expr : ℕ → ℕ → Parser Expr
expr zero least = refuse
expr (suc depth) least = at_level (expr depth) least

-- an expression with whatever is in it, and a list of those
unfoldable pub expression : Parser Expr
expression ts = expr (length ts) 1 ts

unfoldable pub expressions : Parser (List Expr)
expressions ts = list (expr (length ts)) [] ts

abbrev pub whole : {A : Type 0} → Option (A × Tokens) → Option A
whole (Some (a, [])) = Some a
whole _ = None

-- an expression of all the tokens
unfoldable pub only_expression : Tokens → Option Expr
only_expression ts = whole (expression ts)
