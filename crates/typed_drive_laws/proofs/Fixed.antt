-- Which parts of an expression have to be constants, by its parts.
use Rattle.std.proofs.Common.{◌≡◌, ◌∙◌, sym, ap, ℕ, Bool, true, ◌&&◌, List}
use Rattle.std.specs.List.{list_all}
use Rattle.vlog_tree.specs.declared.operator.UnaryOp.{UnaryOp}
use Rattle.vlog_tree.specs.declared.operator.BinaryOp.{BinaryOp}
use Rattle.vlog_tree.specs.declared.operator.SystemCall.{SystemCall}
use Rattle.elab_types.specs.declared.flat_source.FlatVar.{FlatVar}
use Rattle.elab_types.specs.declared.flat_expression.FlatExpr.{FlatExpr, para-roll-FlatExpr}
use Rattle.elab_types.specs.declared.flat_expression.FlatExpr.TheVariants as e
use Rattle.elab_types.specs.declared.flat_expression.FlatExpr.TheOpen as x
use Rattle.elab_types.specs.declared.flat_expression.FlatSelect.{FlatSelect, para-FlatSelect, para-roll-FlatSelect}
use Rattle.elab_types.specs.declared.flat_expression.FlatSelect.TheVariants as select
use Rattle.design_meaning.proofs.ListLaws.{all_map}
use Rattle.typed_drive_laws.specs.FixedParts.{is_constant, operand_fixed, node_fixed, select_fixed, has_constants}

module _ (vars : List FlatVar) where
  abbrev pub fixed : FlatExpr → Bool
  fixed = has_constants vars

  abbrev pub fixed_select : FlatSelect → Bool
  fixed_select = para-FlatSelect Bool Bool (node_fixed vars) (select_fixed vars)

  pub fixed-Number : (w : ℕ) (signed : Bool) (n free : ℕ) → fixed (e.Number w signed n free) ≡ true
  fixed-Number w signed n free = ap fixed (sym (e.rolls-Number w signed n free))
      ∙ para-roll-FlatExpr Bool Bool (node_fixed vars) (select_fixed vars) (x.Number w signed n free)

  pub fixed-Var : (k : ℕ) → fixed (e.Var k) ≡ true
  fixed-Var k = ap fixed (sym (e.rolls-Var k)) ∙ para-roll-FlatExpr Bool Bool (node_fixed vars) (select_fixed vars) (x.Var k)

  pub fixed-Select : (base : FlatExpr) (s : FlatSelect) → fixed (e.Select base s) ≡ (fixed base && fixed_select s)
  fixed-Select base s = ap fixed (sym (e.rolls-Select base s)) ∙ para-roll-FlatExpr Bool Bool (node_fixed vars) (select_fixed vars) (x.Select base s)

  pub fixed-Unary : (op : UnaryOp) (a : FlatExpr) → fixed (e.Unary op a) ≡ fixed a
  fixed-Unary op a = ap fixed (sym (e.rolls-Unary op a)) ∙ para-roll-FlatExpr Bool Bool (node_fixed vars) (select_fixed vars) (x.Unary op a)

  pub fixed-Binary : (op : BinaryOp) (a b : FlatExpr) → fixed (e.Binary op a b) ≡ (fixed a && fixed b)
  fixed-Binary op a b = ap fixed (sym (e.rolls-Binary op a b)) ∙ para-roll-FlatExpr Bool Bool (node_fixed vars) (select_fixed vars) (x.Binary op a b)

  pub fixed-Choose : (test a b : FlatExpr) → fixed (e.Choose test a b) ≡ (fixed test && fixed a && fixed b)
  fixed-Choose test a b = ap fixed (sym (e.rolls-Choose test a b))
      ∙ para-roll-FlatExpr Bool Bool (node_fixed vars) (select_fixed vars) (x.Choose test a b)

  pub fixed-Join : (parts : List FlatExpr) → fixed (e.Join parts) ≡ list_all fixed parts
  fixed-Join parts = ap fixed (sym (e.rolls-Join parts))
      ∙ para-roll-FlatExpr Bool Bool (node_fixed vars) (select_fixed vars) (x.Join parts)
      ∙ all_map (λ (p : FlatExpr × Bool). p.1) (λ part. (part, fixed part)) parts

  pub fixed-Repeat : (count : FlatExpr) (parts : List FlatExpr)
      → fixed (e.Repeat count parts) ≡ (is_constant vars count && fixed count && list_all fixed parts)
  fixed-Repeat count parts = ap fixed (sym (e.rolls-Repeat count parts))
      ∙ para-roll-FlatExpr Bool Bool (node_fixed vars) (select_fixed vars) (x.Repeat count parts)
      ∙ ap (λ all. is_constant vars count && fixed count && all) (all_map (λ (p : FlatExpr × Bool). p.1) (λ part. (part, fixed part)) parts)

  pub fixed-Call : (name : SystemCall) (a : FlatExpr) → fixed (e.Call name a) ≡ (operand_fixed name (is_constant vars a) && fixed a)
  fixed-Call name a = ap fixed (sym (e.rolls-Call name a)) ∙ para-roll-FlatExpr Bool Bool (node_fixed vars) (select_fixed vars) (x.Call name a)

  pub fixed-At : (i : FlatExpr) → fixed_select (select.At i) ≡ fixed i
  fixed-At i = ap fixed_select (sym (select.rolls-At i)) ∙ para-roll-FlatSelect Bool Bool (node_fixed vars) (select_fixed vars) (x.At i)

  pub fixed-Between : (a b : FlatExpr) → fixed_select (select.Between a b) ≡ (is_constant vars a && is_constant vars b && fixed a && fixed b)
  fixed-Between a b = ap fixed_select (sym (select.rolls-Between a b))
      ∙ para-roll-FlatSelect Bool Bool (node_fixed vars) (select_fixed vars) (x.Between a b)

  pub fixed-Up : (i count : FlatExpr) → fixed_select (select.Up i count) ≡ (is_constant vars count && fixed i && fixed count)
  fixed-Up i count = ap fixed_select (sym (select.rolls-Up i count))
      ∙ para-roll-FlatSelect Bool Bool (node_fixed vars) (select_fixed vars) (x.Up i count)

  pub fixed-Down : (i count : FlatExpr) → fixed_select (select.Down i count) ≡ (is_constant vars count && fixed i && fixed count)
  fixed-Down i count = ap fixed_select (sym (select.rolls-Down i count))
      ∙ para-roll-FlatSelect Bool Bool (node_fixed vars) (select_fixed vars) (x.Down i count)
