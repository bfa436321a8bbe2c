-- Whether the numbers of an expression fit, by its parts.
use Rattle.std.proofs.Common.{◌≡◌, ◌∙◌, sym, ap, ℕ, ◌^◌, nat_lt, Bool, true, ◌&&◌, List, map}
use Rattle.std.specs.Prelude.{nat_le}
use Rattle.std.specs.List.{list_all}
use Rattle.vlog_tree.specs.declared.operator.UnaryOp.{UnaryOp}
use Rattle.vlog_tree.specs.declared.operator.BinaryOp.{BinaryOp}
use Rattle.vlog_tree.specs.declared.operator.SystemCall.{SystemCall}
use Rattle.elab_types.specs.declared.flat_source.FlatVar.{FlatVar}
use Rattle.elab_types.specs.declared.flat_expression.FlatExpr.{FlatExpr, para-roll-FlatExpr}
use Rattle.elab_types.specs.declared.flat_expression.FlatExpr.TheVariants as e
use Rattle.elab_types.specs.declared.flat_expression.FlatExpr.TheOpen as x
use Rattle.elab_types.specs.declared.flat_expression.FlatSelect.{FlatSelect, para-FlatSelect, para-roll-FlatSelect}
use Rattle.elab_types.specs.declared.flat_expression.FlatSelect.TheVariants as select
use Rattle.typed_form.specs.TypedExpressions.{size}
use Rattle.design_meaning.proofs.ListLaws.{all_map}
use Rattle.typed_valid_laws.specs.NumbersFit.{node_fits, select_fits, numbers_fit}

module _ (vars : List FlatVar) where
  abbrev pub fit : FlatExpr → Bool
  fit = numbers_fit vars

  abbrev pub part_fits : FlatSelect → Bool
  part_fits = para-FlatSelect Bool Bool node_fits (select_fits vars)

  pub fits-Number : (w : ℕ) (signed : Bool) (n free : ℕ) → fit (e.Number w signed n free) ≡ (nat_le 1 w && nat_lt n (2 ^ w))
  fits-Number w signed n free = ap fit (sym (e.rolls-Number w signed n free)) ∙ para-roll-FlatExpr Bool Bool node_fits (select_fits vars)
      (x.Number w signed n free)

  pub fits-Select : (base : FlatExpr) (s : FlatSelect) → fit (e.Select base s) ≡ (fit base && part_fits s)
  fits-Select base s = ap fit (sym (e.rolls-Select base s)) ∙ para-roll-FlatExpr Bool Bool node_fits (select_fits vars) (x.Select base s)

  pub fits-Unary : (op : UnaryOp) (a : FlatExpr) → fit (e.Unary op a) ≡ fit a
  fits-Unary op a = ap fit (sym (e.rolls-Unary op a)) ∙ para-roll-FlatExpr Bool Bool node_fits (select_fits vars) (x.Unary op a)

  pub fits-Binary : (op : BinaryOp) (a b : FlatExpr) → fit (e.Binary op a b) ≡ (fit a && fit b)
  fits-Binary op a b = ap fit (sym (e.rolls-Binary op a b)) ∙ para-roll-FlatExpr Bool Bool node_fits (select_fits vars) (x.Binary op a b)

  pub fits-Choose : (test a b : FlatExpr) → fit (e.Choose test a b) ≡ (fit test && fit a && fit b)
  fits-Choose test a b = ap fit (sym (e.rolls-Choose test a b)) ∙ para-roll-FlatExpr Bool Bool node_fits (select_fits vars) (x.Choose test a b)

  pub fits-Join : (parts : List FlatExpr) → fit (e.Join parts) ≡ list_all fit parts
  fits-Join parts = ap fit (sym (e.rolls-Join parts)) ∙ para-roll-FlatExpr Bool Bool node_fits (select_fits vars) (x.Join parts)
      ∙ all_map (λ (p : FlatExpr × Bool). p.1) (λ part. (part, fit part)) parts

  pub fits-Repeat : (count : FlatExpr) (parts : List FlatExpr) → fit (e.Repeat count parts) ≡ (fit count && list_all fit parts)
  fits-Repeat count parts = ap fit (sym (e.rolls-Repeat count parts)) ∙ para-roll-FlatExpr Bool Bool node_fits (select_fits vars) (x.Repeat count parts)
      ∙ ap (λ all. fit count && all) (all_map (λ (p : FlatExpr × Bool). p.1) (λ part. (part, fit part)) parts)

  pub fits-Call : (f : SystemCall) (a : FlatExpr) → fit (e.Call f a) ≡ fit a
  fits-Call f a = ap fit (sym (e.rolls-Call f a)) ∙ para-roll-FlatExpr Bool Bool node_fits (select_fits vars) (x.Call f a)

  pub fits-At : (i : FlatExpr) → part_fits (select.At i) ≡ fit i
  fits-At i = ap part_fits (sym (select.rolls-At i)) ∙ para-roll-FlatSelect Bool Bool node_fits (select_fits vars) (x.At i)

  pub fits-Between : (high low : FlatExpr) → part_fits (select.Between high low) ≡ (fit high && fit low && nat_le 1 (size vars low))
  fits-Between high low = ap part_fits (sym (select.rolls-Between high low)) ∙ para-roll-FlatSelect Bool Bool node_fits (select_fits vars) (x.Between high low)

  pub fits-Up : (i count : FlatExpr) → part_fits (select.Up i count) ≡ (fit i && fit count)
  fits-Up i count = ap part_fits (sym (select.rolls-Up i count)) ∙ para-roll-FlatSelect Bool Bool node_fits (select_fits vars) (x.Up i count)

  pub fits-Down : (i count : FlatExpr) → part_fits (select.Down i count) ≡ (fit i && fit count)
  fits-Down i count = ap part_fits (sym (select.rolls-Down i count)) ∙ para-roll-FlatSelect Bool Bool node_fits (select_fits vars) (x.Down i count)
