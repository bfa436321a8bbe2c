-- Reading the shapes that many rules share.
use Rattle.std.specs.Prelude.{ℕ, zero, suc, if◌then◌else◌, List, [], ◌∷◌, ◌++◌, length, Option, Some}
use Rattle.vlog_tokens.specs.declared.token.TokenKind.{TokenKind}
use Rattle.vlog_tokens.specs.declared.token.TokenKind.TheVariants as k
use Rattle.vlog_tree.specs.declared.expression.Expr.{Expr}
use Rattle.vlog_reading.specs.Reading.{Parser, ◌>>=◌, ◌>>◌, pure, refuse, peek, skip, eat, expect}
use Rattle.vlog_reading.specs.ReadExpressions.{expr, expression, part_after_name}

-- one or more, with commas between
module _ {A : Type 0} (item : Parser A) where
  unfoldable pub separated_from : ℕ → List A → Parser (List A)
  separated_from zero found = refuse
  separated_from (suc n) found = do
    x ← item
    more ← eat k.Comma
    if more then separated_from n (found ++ x ∷ []) else pure (found ++ x ∷ [])

  unfoldable pub separated : Parser (List A)
  separated = λ ts. separated_from (length ts) [] ts

  -- the same, and the semicolon after it
  unfoldable pub listed : Parser (List A)
  listed = do
    all ← separated
    expect k.Semicolon
    pure all

abbrev pub name_token_by : Option TokenKind → Parser (List ℕ)
name_token_by (Some (k.Name name)) = skip >> pure name
name_token_by _ = refuse

unfoldable pub name_token : Parser (List ℕ)
name_token = peek >>= name_token_by

-- an expression, and the mark after it
unfoldable pub expression_before : TokenKind → Parser Expr
expression_before close = do
  a ← expression
  expect close
  pure a

-- a name, `=`, an expression and the mark after it
unfoldable pub bound_name : TokenKind → Parser (List ℕ × Expr)
bound_name close = do
  name ← name_token
  expect k.EqualSign
  a ← expression_before close
  pure (name, a)

-- an expression in parentheses
unfoldable pub condition : Parser Expr
condition = do
  expect k.OpenParen
  expression_before k.CloseParen

-- after a name: the part of it that is written to
unfoldable pub part_of : List ℕ → Parser Expr
part_of name ts = part_after_name (expr (length ts)) name ts
