-- What is refused of an expression, by its parts.
use Rattle.std.proofs.Common.{◌≡◌, ◌∙◌, sym, ap, ℕ, Bool, List, map}
use Rattle.vlog_tree.specs.declared.operator.UnaryOp.{UnaryOp}
use Rattle.vlog_tree.specs.declared.operator.BinaryOp.{BinaryOp}
use Rattle.vlog_tree.specs.declared.operator.SystemCall.{SystemCall}
use Rattle.elab_types.specs.declared.flat_source.FlatVar.{FlatVar}
use Rattle.elab_types.specs.declared.flat_expression.FlatExpr.{FlatExpr, fold-roll-FlatExpr}
use Rattle.elab_types.specs.declared.flat_expression.FlatExpr.TheVariants as e
use Rattle.elab_types.specs.declared.flat_expression.FlatExpr.TheOpen as x
use Rattle.elab_types.specs.declared.flat_expression.FlatSelect.{FlatSelect, fold-FlatSelect, fold-roll-FlatSelect}
use Rattle.elab_types.specs.declared.flat_expression.FlatSelect.TheVariants as select
use Rattle.flat_meaning.specs.Faults.{Checked, CheckedSelection, checked_node, checked_selection, check}

module _ (vars : List FlatVar) where
  abbrev pub check_select : FlatSelect → CheckedSelection
  check_select = fold-FlatSelect Checked CheckedSelection (checked_node vars) checked_selection

  pub checked-Number : (w : ℕ) (signed : Bool) (n free : ℕ) → check vars (e.Number w signed n free) ≡ checked_node vars (x.Number w signed n free)
  checked-Number w signed n free = ap (check vars) (sym (e.rolls-Number w signed n free))
      ∙ fold-roll-FlatExpr Checked CheckedSelection (checked_node vars) checked_selection (x.Number w signed n free)

  pub checked-Var : (k : ℕ) → check vars (e.Var k) ≡ checked_node vars (x.Var k)
  checked-Var k = ap (check vars) (sym (e.rolls-Var k))
      ∙ fold-roll-FlatExpr Checked CheckedSelection (checked_node vars) checked_selection (x.Var k)

  pub checked-Select : (base : FlatExpr) (s : FlatSelect) → check vars (e.Select base s) ≡ checked_node vars (x.Select (check vars base) (check_select s))
  checked-Select base s = ap (check vars) (sym (e.rolls-Select base s))
      ∙ fold-roll-FlatExpr Checked CheckedSelection (checked_node vars) checked_selection (x.Select base s)

  pub checked-Unary : (op : UnaryOp) (a : FlatExpr) → check vars (e.Unary op a) ≡ checked_node vars (x.Unary op (check vars a))
  checked-Unary op a = ap (check vars) (sym (e.rolls-Unary op a))
      ∙ fold-roll-FlatExpr Checked CheckedSelection (checked_node vars) checked_selection (x.Unary op a)

  pub checked-Binary : (op : BinaryOp) (a b : FlatExpr) → check vars (e.Binary op a b) ≡ checked_node vars (x.Binary op (check vars a) (check vars b))
  checked-Binary op a b = ap (check vars) (sym (e.rolls-Binary op a b))
      ∙ fold-roll-FlatExpr Checked CheckedSelection (checked_node vars) checked_selection (x.Binary op a b)

  pub checked-Choose : (test a b : FlatExpr) → check vars (e.Choose test a b) ≡ checked_node vars (x.Choose (check vars test) (check vars a) (check vars b))
  checked-Choose test a b = ap (check vars) (sym (e.rolls-Choose test a b))
      ∙ fold-roll-FlatExpr Checked CheckedSelection (checked_node vars) checked_selection (x.Choose test a b)

  pub checked-Join : (parts : List FlatExpr) → check vars (e.Join parts) ≡ checked_node vars (x.Join (map (check vars) parts))
  checked-Join parts = ap (check vars) (sym (e.rolls-Join parts))
      ∙ fold-roll-FlatExpr Checked CheckedSelection (checked_node vars) checked_selection (x.Join parts)

  pub checked-Repeat : (count : FlatExpr) (parts : List FlatExpr) → check vars (e.Repeat count parts) ≡ checked_node vars
      (x.Repeat (check vars count) (map (check vars) parts))
  checked-Repeat count parts = ap (check vars) (sym (e.rolls-Repeat count parts))
      ∙ fold-roll-FlatExpr Checked CheckedSelection (checked_node vars) checked_selection (x.Repeat count parts)

  pub checked-Call : (name : SystemCall) (a : FlatExpr) → check vars (e.Call name a) ≡ checked_node vars (x.Call name (check vars a))
  checked-Call name a = ap (check vars) (sym (e.rolls-Call name a))
      ∙ fold-roll-FlatExpr Checked CheckedSelection (checked_node vars) checked_selection (x.Call name a)

  pub checked-At : (i : FlatExpr) → check_select (select.At i) ≡ checked_selection (x.At (check vars i))
  checked-At i = ap check_select (sym (select.rolls-At i))
      ∙ fold-roll-FlatSelect Checked CheckedSelection (checked_node vars) checked_selection (x.At i)

  pub checked-Between : (high low : FlatExpr) → check_select (select.Between high low) ≡ checked_selection (x.Between (check vars high) (check vars low))
  checked-Between high low = ap check_select (sym (select.rolls-Between high low))
      ∙ fold-roll-FlatSelect Checked CheckedSelection (checked_node vars) checked_selection (x.Between high low)

  pub checked-Up : (i count : FlatExpr) → check_select (select.Up i count) ≡ checked_selection (x.Up (check vars i) (check vars count))
  checked-Up i count = ap check_select (sym (select.rolls-Up i count))
      ∙ fold-roll-FlatSelect Checked CheckedSelection (checked_node vars) checked_selection (x.Up i count)

  pub checked-Down : (i count : FlatExpr) → check_select (select.Down i count) ≡ checked_selection (x.Down (check vars i) (check vars count))
  checked-Down i count = ap check_select (sym (select.rolls-Down i count))
      ∙ fold-roll-FlatSelect Checked CheckedSelection (checked_node vars) checked_selection (x.Down i count)
