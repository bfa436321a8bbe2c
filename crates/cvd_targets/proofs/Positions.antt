-- Positions and the variables of targets, as they are read.
use Rattle.std.proofs.Common.{◌≡◌, ℕ, ◌<◌, ◌≤◌, ◌^◌, Bool, true, false, List, Option, Some, None, refl, sym, ◌∙◌, arith}
use Rattle.std.specs.Prelude.{◌&&◌, nat_le, nat_lt}
use Rattle.std.proofs.lemmas.Bool.{true≢false}
use Rattle.std.proofs.lemmas.Bool.Decides.{nat_tests}
use Rattle.cov_types.specs.Limits.{most}
use Rattle.cov_types.specs.declared.limit.LimitName.TheVariants as limit
use Rattle.cov_types.specs.declared.var.Var.{Var}
use Rattle.design_tree.specs.declared.design.Design.{Design}
use Rattle.design_tree.specs.declared.typed.Index.{fold-Index}
use Rattle.design_tree.specs.declared.typed.Typed.{Typed}
use Rattle.design_tree.specs.declared.typed.Typed.TheVariants as e
use Rattle.design_meaning.specs.Sizes.{nodes, depth, node_size, node_depth, of_index}
use Rattle.design_meaning.specs.WellTyped.{is_typed, is_index, node_typed, index_typed}
use Rattle.design_meaning.proofs.TypedFolds as folds
use Rattle.spelling_laws.specs.Spelled.{Apart}
use Rattle.cvd_text.specs.Expressions.{tokens_of}
use Rattle.cvd_text.specs.Pieces.{fits}
use Rattle.cvd_laws.proofs.Marks.{apart_marks}
use Rattle.cvd_laws.proofs.Typeds.{apart_typed}
use Rattle.cvd_cursor.specs.Reads.{marks}
use Rattle.cvd_nodes.specs.Nodes.{Low, low_marks, is_number}
use Rattle.cvd_nodes.proofs.Fields.{then_apart, apart_low}
use Rattle.cvd_expressions.specs.Builds.{HoldsExpression}
use Rattle.cvd_expressions.specs.declared.expression.Expression.{Expression}
use Rattle.cvd_step_laws.specs.LineMarks.{with_vars}
use Rattle.cvd_targets.specs.Positions.{At, at_marks, index_at, may_be_at, ExpressionIn}
use Rattle.cvd_targets.proofs.Lists.{left_of, right_of, both}

pub apart_expression : Apart fits (marks tokens_of)
apart_expression x = apart_marks tokens_of x (apart_typed x)

pub some_expression : Typed
some_expression = e.Var 0

pub apart_at : Apart fits at_marks
apart_at = then_apart Low Typed low_marks (marks tokens_of) apart_low apart_expression

pub some_at : At
some_at = ((0, true), e.Var 0)

-- an expression that was read, over the variables alone
pub expression_in : (vars : List Var) (tree : Typed) (held : Option Expression) → HoldsExpression vars tree held → ExpressionIn (with_vars vars) tree held
expression_in vars tree (Some x) h =
    let s = h.1.1 (with_vars vars) refl in
    record { tree_is = h.0; nodes_are = h.1.0; stands = s.0; width_is = s.1 }
expression_in vars tree None h = h (with_vars vars) refl

pub number_stands : (n : ℕ) → n < 2 ^ 32 → is_number n ≡ true
number_stands n h = grind (arith, nat_tests)

-- ---- an index that may stand

pub record Stands (d : Design) (a : At) : Type 0 where
  pub index : is_index d (index_at a) ≡ true
  pub deep : fold-Index ℕ ℕ node_depth of_index (index_at a) ≤ most limit.Depth
  pub few : fold-Index ℕ ℕ node_size of_index (index_at a) ≤ most limit.Nodes

four : (n t dd m : Bool) → (n && ((t && dd) && m)) ≡ true → (n ≡ true) × ((t ≡ true) × ((dd ≡ true) × (m ≡ true)))
four true true true true h = (refl, (refl, (refl, refl)))
four true true true false h = absurd (true≢false (sym h))
four true true false m h = absurd (true≢false (sym h))
four true false dd m h = absurd (true≢false (sym h))
four false t dd m h = absurd (true≢false (sym h))

le_of : (n m : ℕ) → nat_le n m ≡ true → n ≤ m
le_of n m h = grind (arith, nat_tests)

test_le : (n m : ℕ) → n ≤ m → nat_le n m ≡ true
test_le n m h = grind (arith, nat_tests)

pub nodes_at : (a : At) → fold-Index ℕ ℕ node_size of_index (index_at a) ≡ nodes a.1
nodes_at a = folds.fold-index ℕ ℕ node_size of_index a.0.0 a.0.1 a.1

depth_at : (a : At) → fold-Index ℕ ℕ node_depth of_index (index_at a) ≡ depth a.1
depth_at a = folds.fold-index ℕ ℕ node_depth of_index a.0.0 a.0.1 a.1

index_is : (d : Design) (a : At) → is_index d (index_at a) ≡ (nat_lt a.0.0 (2 ^ 32) && is_typed d a.1)
index_is d a = folds.para-index Bool Bool (node_typed d) index_typed a.0.0 a.0.1 a.1

pub stands : (d : Design) (a : At) → may_be_at d a ≡ true → Stands d a
stands d a h =
    let p = four (is_number a.0.0) (is_typed d a.1) (nat_le (depth a.1) (most limit.Depth)) (nat_le (nodes a.1) (most limit.Nodes)) h in
    let deep = le_of (depth a.1) (most limit.Depth) p.1.1.0 in
    let few = le_of (nodes a.1) (most limit.Nodes) p.1.1.1 in
    let depth_is = depth_at a in
    let nodes_are = nodes_at a in
    record {
      index = index_is d a ∙ both _ _ p.0 p.1.0;
      deep = omega arith;
      few = omega arith;
    }

pub stands_back : (d : Design) (a : At) → Stands d a → may_be_at d a ≡ true
stands_back d a s =
    let i = sym (index_is d a) ∙ s.index in
    let deep = s.deep in
    let few = s.few in
    let depth_is = depth_at a in
    let nodes_are = nodes_at a in
    both (is_number a.0.0) _ (left_of (nat_lt a.0.0 (2 ^ 32)) (is_typed d a.1) i)
    (both (is_typed d a.1 && nat_le (depth a.1) (most limit.Depth)) _
    (both (is_typed d a.1) _ (right_of (nat_lt a.0.0 (2 ^ 32)) (is_typed d a.1) i) (test_le (depth a.1) (most limit.Depth) (omega arith)))
    (test_le (nodes a.1) (most limit.Nodes) (omega arith)))

-- a number that 32 bits don't hold is no variable's
pub too_far : (v n : ℕ) → nat_lt v (2 ^ 32) ≡ false → n ≤ 2 ^ 32 → nat_lt v n ≡ false
too_far v n h k = grind (arith, nat_tests)
