-- What spells an expression has at least one token.
use Rattle.std.proofs.Common.{ℕ, ◌<◌, List, length, arith}
use Rattle.vlog_tree.specs.declared.expression.Expr.{Expr}
use Rattle.vlog_tree.specs.declared.expression.Select.{Select}
use Rattle.vlog_grammar.specs.Tokens.{Tokens}
use Rattle.vlog_grammar.specs.Expressions.{IsExpr, plain, choice, IsBinary, operand, higher, joined, IsUnary, prefix, primary, IsPrimary, number, part, inner}
use Rattle.vlog_grammar.specs.Expressions.{join, repeat, call, IsPart, name, position, slice, twice, IsSelect, single, several, IsSlice, between, up, down}
use Rattle.vlog_grammar.specs.Expressions.{AreExprs, last, more}

mutual
  pub shorter_expr : {ts us : Tokens} {a : Expr} → IsExpr ts a us → length us < length ts
  shorter_expr (plain b) = shorter_binary b
  shorter_expr (choice b y n) = omega (arith, shorter_binary b, shorter_expr y, shorter_expr n)

  pub shorter_binary : {n : ℕ} {ts us : Tokens} {a : Expr} → IsBinary n ts a us → length us < length ts
  shorter_binary (operand u) = shorter_unary u
  shorter_binary (higher b) = shorter_binary b
  shorter_binary (joined l e r) = omega (arith, shorter_binary l, shorter_binary r)

  pub shorter_unary : {ts us : Tokens} {a : Expr} → IsUnary ts a us → length us < length ts
  shorter_unary (prefix e u) = omega (arith, shorter_unary u)
  shorter_unary (primary p) = shorter_primary p

  pub shorter_primary : {ts us : Tokens} {a : Expr} → IsPrimary ts a us → length us < length ts
  shorter_primary number = omega arith
  shorter_primary (part a) = shorter_part a
  shorter_primary (inner i) = omega (arith, shorter_expr i)
  shorter_primary (join all) = omega (arith, shorter_exprs all)
  shorter_primary (repeat n all) = omega (arith, shorter_expr n, shorter_exprs all)
  shorter_primary (call known of) = omega (arith, shorter_expr of)

  pub shorter_part : {ts us : Tokens} {a : Expr} → IsPart ts a us → length us < length ts
  shorter_part (name none) = omega arith
  shorter_part (position i none) = omega (arith, shorter_expr i)
  shorter_part (slice some) = omega (arith, shorter_slice some)
  shorter_part (twice i some) = omega (arith, shorter_expr i, shorter_select some)

  pub shorter_select : {ts us : Tokens} {a : Select} → IsSelect ts a us → length us < length ts
  shorter_select (single i) = omega (arith, shorter_expr i)
  shorter_select (several some) = shorter_slice some

  pub shorter_slice : {ts us : Tokens} {a : Select} → IsSlice ts a us → length us < length ts
  shorter_slice (between i j) = omega (arith, shorter_expr i, shorter_expr j)
  shorter_slice (up i j) = omega (arith, shorter_expr i, shorter_expr j)
  shorter_slice (down i j) = omega (arith, shorter_expr i, shorter_expr j)

  pub shorter_exprs : {ts us : Tokens} {all : List Expr} → AreExprs ts all us → length us < length ts
  shorter_exprs (last i) = shorter_expr i
  shorter_exprs (more i all) = omega (arith, shorter_expr i, shorter_exprs all)
