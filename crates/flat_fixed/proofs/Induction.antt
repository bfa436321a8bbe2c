-- Induction over expressions and their selects.
use Rattle.std.proofs.Common.{sym, subst, ℕ, Bool, List, map}
use Rattle.vlog_tree.specs.declared.operator.UnaryOp.{UnaryOp}
use Rattle.vlog_tree.specs.declared.operator.BinaryOp.{BinaryOp}
use Rattle.vlog_tree.specs.declared.operator.SystemCall.{SystemCall}
use Rattle.vlog_tree.specs.declared.expression.Expr.{Expr, Expr-F, ind-Expr, map-Expr, roll-Expr}
use Rattle.vlog_tree.specs.declared.expression.Expr.TheVariants as e
use Rattle.vlog_tree.specs.declared.expression.Expr.TheOpen as x
use Rattle.vlog_tree.specs.declared.expression.Select.{Select, map-Select, roll-Select}
use Rattle.vlog_tree.specs.declared.expression.Select.TheVariants as select

-- some expressions with what holds of each
abbrev pub Some : (Expr → Type 0) → Type 0
Some P = (a : Expr) × P a

-- the expressions alone
abbrev pub alone : {P : Expr → Type 0} → List (Some P) → List Expr
alone = map (λ s. s.0)

module _ (P : Expr → Type 0) (Q : Select → Type 0)
    (of_number : (w : ℕ) (signed : Bool) (n : ℕ) (free : ℕ) → P (e.Number w signed n free))
    (of_name : (name : List ℕ) → P (e.Name name))
    (of_select : (base : Expr) (s : Select) → P base → Q s → P (e.Select base s))
    (of_unary : (op : UnaryOp) (a : Expr) → P a → P (e.Unary op a))
    (of_binary : (op : BinaryOp) (a : Expr) (b : Expr) → P a → P b → P (e.Binary op a b))
    (of_choose : (test : Expr) (a : Expr) (b : Expr) → P test → P a → P b → P (e.Choose test a b))
    (of_join : (parts : List (Some P)) → P (e.Join (alone parts)))
    (of_repeat : (count : Expr) (parts : List (Some P)) → P count → P (e.Repeat count (alone parts)))
    (of_call : (name : SystemCall) (a : Expr) → P a → P (e.Call name a))
    (of_at : (i : Expr) → P i → Q (select.At i))
    (of_between : (high : Expr) (low : Expr) → P high → P low → Q (select.Between high low))
    (of_up : (i : Expr) (count : Expr) → P i → P count → Q (select.Up i count))
    (of_down : (i : Expr) (count : Expr) → P i → P count → Q (select.Down i count)) where
  abbrev SomeSelect : Type 0
  SomeSelect = (s : Select) × Q s

  at_node : (y : Expr-F (Some P) SomeSelect) → P (roll-Expr (map-Expr (Some P) SomeSelect Expr Select (λ a. a.0) (λ s. s.0) y))
  at_node (x.Number w signed n free) = subst P (sym (e.rolls-Number w signed n free)) (of_number w signed n free)
  at_node (x.Name name) = subst P (sym (e.rolls-Name name)) (of_name name)
  at_node (x.Select base s) = subst P (sym (e.rolls-Select base.0 s.0)) (of_select base.0 s.0 base.1 s.1)
  at_node (x.Unary op a) = subst P (sym (e.rolls-Unary op a.0)) (of_unary op a.0 a.1)
  at_node (x.Binary op a b) = subst P (sym (e.rolls-Binary op a.0 b.0)) (of_binary op a.0 b.0 a.1 b.1)
  at_node (x.Choose test a b) = subst P (sym (e.rolls-Choose test.0 a.0 b.0)) (of_choose test.0 a.0 b.0 test.1 a.1 b.1)
  at_node (x.Join parts) = subst P (sym (e.rolls-Join (alone parts))) (of_join parts)
  at_node (x.Repeat count parts) = subst P (sym (e.rolls-Repeat count.0 (alone parts))) (of_repeat count.0 parts count.1)
  at_node (x.Call name a) = subst P (sym (e.rolls-Call name a.0)) (of_call name a.0 a.1)

  at_part : (y : x.Select-F (Some P) SomeSelect) → Q (roll-Select (map-Select (Some P) SomeSelect Expr Select (λ a. a.0) (λ s. s.0) y))
  at_part (x.At i) = subst Q (sym (select.rolls-At i.0)) (of_at i.0 i.1)
  at_part (x.Between high low) = subst Q (sym (select.rolls-Between high.0 low.0)) (of_between high.0 low.0 high.1 low.1)
  at_part (x.Up i count) = subst Q (sym (select.rolls-Up i.0 count.0)) (of_up i.0 count.0 i.1 count.1)
  at_part (x.Down i count) = subst Q (sym (select.rolls-Down i.0 count.0)) (of_down i.0 count.0 i.1 count.1)

  -- the fact holds of each expression
  pub expression_induction : (a : Expr) → P a
  expression_induction = ind-Expr P Q
      (λ u y p. subst (λ (z : Expr-F Expr Select). P (roll-Expr z)) p (at_node y))
      (λ u y p. subst (λ (z : x.Select-F Expr Select). Q (roll-Select z)) p (at_part y))
