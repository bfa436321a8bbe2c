-- Whether each number inside a flat expression has at least one bit, and room for its value (IEEE 1364-2005, 3.5.1), and each
-- bound that is the position of a part some bit.
use Rattle.std.specs.Prelude.{ℕ, ◌^◌, nat_le, nat_lt, Bool, true, ◌&&◌, List}
use Rattle.std.specs.List.{list_all}
use Rattle.elab_types.specs.declared.flat_source.FlatVar.{FlatVar}
use Rattle.elab_types.specs.declared.flat_expression.FlatExpr.{FlatExpr, FlatExpr-F, para-FlatExpr}
use Rattle.elab_types.specs.declared.flat_expression.FlatExpr.TheOpen as x
use Rattle.elab_types.specs.declared.flat_expression.FlatSelect.{FlatSelect}
use Rattle.typed_form.specs.TypedExpressions.{size}

-- one node, from its operands and whether the numbers of each fit
abbrev pub node_fits : FlatExpr-F (FlatExpr × Bool) (FlatSelect × Bool) → Bool
node_fits (x.Number w signed n free) = nat_le 1 w && nat_lt n (2 ^ w)
node_fits (x.Var k) = true
node_fits (x.Select base s) = base.1 && s.1
node_fits (x.Unary op a) = a.1
node_fits (x.Binary op a b) = a.1 && b.1
node_fits (x.Choose test a b) = test.1 && a.1 && b.1
node_fits (x.Join parts) = list_all (λ p. p.1) parts
node_fits (x.Repeat count parts) = count.1 && list_all (λ p. p.1) parts
node_fits (x.Call f a) = a.1

-- the same of a select
abbrev pub select_fits : List FlatVar → x.FlatSelect-F (FlatExpr × Bool) (FlatSelect × Bool) → Bool
select_fits vars (x.At i) = i.1
select_fits vars (x.Between high low) = high.1 && low.1 && nat_le 1 (size vars low.0)
select_fits vars (x.Up i count) = i.1 && count.1
select_fits vars (x.Down i count) = i.1 && count.1

-- the numbers of an expression fit
abbrev pub numbers_fit : List FlatVar → FlatExpr → Bool
numbers_fit vars = para-FlatExpr Bool Bool node_fits (select_fits vars)
