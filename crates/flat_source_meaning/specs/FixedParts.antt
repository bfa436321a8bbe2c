-- The parts of an expression that have to be constants: the bounds of a part, the width of `+:` and `-:`, the count of a
-- replication, the operand of `$clog2` (IEEE 1364-2005, 5.1.14, 5.2.1).
use Rattle.std.specs.Prelude.{Bool, true, not, ◌&&◌, List, map}
use Rattle.std.specs.List.{list_all}
use Rattle.vlog_tree.specs.declared.expression.Expr.{Expr, Expr-F, fold-Expr}
use Rattle.vlog_tree.specs.declared.expression.Expr.TheOpen as e
use Rattle.vlog_tree.specs.declared.operator.SystemCall.{SystemCall}
use Rattle.vlog_tree.specs.declared.operator.SystemCall.TheVariants as call
use Rattle.source_meaning.specs.Environment.{Environment}
use Rattle.scope_meaning.specs.Constants as c
use Rattle.scope_meaning.specs.Constants.{Read, ReadSelect, is_wrong}

-- what an expression says as a constant, and whether each part of it that has to be a constant is one
pub record Checked : Type 0 where
  pub read : Read
  pub fixed : Bool

-- the same of a select
pub record CheckedSelect : Type 0 where
  pub read : ReadSelect
  pub fixed : Bool

-- both of an expression
abbrev pub checked : Read → Bool → Checked
checked r b = record { read = r; fixed = b }

-- both of a select
abbrev pub checked_select : ReadSelect → Bool → CheckedSelect
checked_select r b = record { read = r; fixed = b }

-- what each of them says
abbrev pub reads : List Checked → List Read
reads = map (λ a. a.read)

-- all of them are constants where they have to be
abbrev pub all_fixed : List Checked → Bool
all_fixed = list_all (λ a. a.fixed)

-- it is a constant: nothing is wrong in it as one
abbrev pub is_fixed : Checked → Bool
is_fixed a = not (is_wrong a.read.wrong)

-- the operand of `$clog2` has to be a constant
abbrev pub operand_fixed : SystemCall → Checked → Bool
operand_fixed call.CeilLog2 a = is_fixed a
operand_fixed _ a = true

-- one clause for each form of an expression
abbrev pub node : Environment → Expr-F Checked CheckedSelect → Checked
node env (e.Number w signed n free) = checked (c.node env (e.Number w signed n free)) true
node env (e.Name x) = checked (c.node env (e.Name x)) true
node env (e.Select base part) = checked (c.node env (e.Select base.read part.read)) (base.fixed && part.fixed)
node env (e.Unary op a) = checked (c.node env (e.Unary op a.read)) a.fixed
node env (e.Binary op a b) = checked (c.node env (e.Binary op a.read b.read)) (a.fixed && b.fixed)
node env (e.Choose test a b) = checked (c.node env (e.Choose test.read a.read b.read)) (test.fixed && a.fixed && b.fixed)
node env (e.Join parts) = checked (c.node env (e.Join (reads parts))) (all_fixed parts)
node env (e.Repeat count parts) = checked (c.node env (e.Repeat count.read (reads parts))) (is_fixed count && count.fixed && all_fixed parts)
node env (e.Call f a) = checked (c.node env (e.Call f a.read)) (operand_fixed f a && a.fixed)

-- one clause for each form of a select
abbrev pub part : e.Select-F Checked CheckedSelect → CheckedSelect
part (e.At a) = checked_select (c.part (e.At a.read)) a.fixed
part (e.Between a b) = checked_select (c.part (e.Between a.read b.read)) (is_fixed a && is_fixed b && a.fixed && b.fixed)
part (e.Up a b) = checked_select (c.part (e.Up a.read b.read)) (is_fixed b && a.fixed && b.fixed)
part (e.Down a b) = checked_select (c.part (e.Down a.read b.read)) (is_fixed b && a.fixed && b.fixed)

-- each part of the expression that has to be a constant is one
abbrev pub has_constants : Environment → Expr → Bool
has_constants env a = (fold-Expr Checked CheckedSelect (node env) part a).fixed

-- the whole expression is a constant
abbrev pub is_constant : Environment → Expr → Bool
is_constant env a = not (is_wrong (c.read env a).wrong)
