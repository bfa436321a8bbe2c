-- The parts of a flat expression that have to be constants: the bounds of a part, the width of `+:` and `-:`, the count of a
-- replication, the operand of `$clog2` (IEEE 1364-2005, 5.1.14, 5.2.1; IEEE 1800, 20.8).
use Rattle.std.specs.Prelude.{Bool, true, ◌&&◌, List}
use Rattle.std.specs.List.{list_all}
use Rattle.vlog_tree.specs.declared.operator.SystemCall.{SystemCall}
use Rattle.vlog_tree.specs.declared.operator.SystemCall.TheVariants as call
use Rattle.elab_types.specs.declared.flat_source.FlatVar.{FlatVar}
use Rattle.elab_types.specs.declared.flat_expression.FlatExpr.{FlatExpr, FlatExpr-F, para-FlatExpr}
use Rattle.elab_types.specs.declared.flat_expression.FlatExpr.TheOpen as x
use Rattle.elab_types.specs.declared.flat_expression.FlatSelect.{FlatSelect}
use Rattle.flat_meaning.specs.Expressions.{meaning}

-- an expression in which no variable has a part
abbrev pub is_constant : List FlatVar → FlatExpr → Bool
is_constant vars e = (meaning vars e).constant

-- the operand of `$clog2` has to be a constant
abbrev pub operand_fixed : SystemCall → Bool → Bool
operand_fixed call.CeilLog2 constant = constant
operand_fixed _ constant = true

-- one node, from its operands and whether the parts inside each are constants where they have to be
abbrev pub node_fixed : List FlatVar → FlatExpr-F (FlatExpr × Bool) (FlatSelect × Bool) → Bool
node_fixed vars (x.Number w signed n free) = true
node_fixed vars (x.Var n) = true
node_fixed vars (x.Select base part) = base.1 && part.1
node_fixed vars (x.Unary op a) = a.1
node_fixed vars (x.Binary op a b) = a.1 && b.1
node_fixed vars (x.Choose test a b) = test.1 && a.1 && b.1
node_fixed vars (x.Join parts) = list_all (λ p. p.1) parts
node_fixed vars (x.Repeat count parts) = is_constant vars count.0 && count.1 && list_all (λ p. p.1) parts
node_fixed vars (x.Call name a) = operand_fixed name (is_constant vars a.0) && a.1

-- the same of a select
abbrev pub select_fixed : List FlatVar → x.FlatSelect-F (FlatExpr × Bool) (FlatSelect × Bool) → Bool
select_fixed vars (x.At i) = i.1
select_fixed vars (x.Between a b) = is_constant vars a.0 && is_constant vars b.0 && a.1 && b.1
select_fixed vars (x.Up i count) = is_constant vars count.0 && i.1 && count.1
select_fixed vars (x.Down i count) = is_constant vars count.0 && i.1 && count.1

-- each part of the expression that has to be a constant is one
abbrev pub has_constants : List FlatVar → FlatExpr → Bool
has_constants vars = para-FlatExpr Bool Bool (node_fixed vars) (select_fixed vars)
