-- The sizes of expressions and their parts.
use Rattle.std.proofs.Common.{
  ◌≡◌,
  ◌∙◌,
  sym,
  ap,
  ap₂,
  subst,
  refl,
  ℕ,
  suc,
  ◌+◌,
  ◌*◌,
  ◌≤◌,
  max,
  Bool,
  true,
  false,
  ◌&&◌,
  List,
  [],
  ◌∷◌,
  map,
  Some,
  is_some,
  arith,
  pos,
}
use Rattle.std.specs.Prelude.{nat_le, slice_get, ◌+ℤ◌, ◌-ℤ◌}
use Rattle.std.specs.List.{list_all}
use Rattle.std.proofs.lemmas.Grind.{common_steps}
use Rattle.vlog_tree.specs.declared.operator.UnaryOp.{UnaryOp}
use Rattle.vlog_tree.specs.declared.operator.UnaryOp.TheVariants as unary
use Rattle.vlog_tree.specs.declared.operator.BinaryOp.{BinaryOp}
use Rattle.vlog_tree.specs.declared.operator.BinaryOp.TheVariants as binary
use Rattle.vlog_tree.specs.declared.operator.SystemCall.{SystemCall}
use Rattle.elab_types.specs.declared.flat_source.FlatVar.{FlatVar}
use Rattle.elab_types.specs.declared.flat_expression.FlatExpr.{FlatExpr}
use Rattle.elab_types.specs.declared.flat_expression.FlatExpr.TheVariants as e
use Rattle.elab_types.specs.declared.flat_expression.FlatExpr.TheOpen as x
use Rattle.elab_types.specs.declared.flat_expression.FlatSelect.{FlatSelect}
use Rattle.elab_types.specs.declared.flat_expression.FlatSelect.TheVariants as select
use Rattle.design_tree.specs.declared.typed.Index.{Index}
use Rattle.source_meaning.specs.Meaning as m
use Rattle.source_meaning.specs.Meaning.{Meaning, whole, at_least_0, fixed_integer, total_size}
use Rattle.source_meaning.specs.Operators.{unary_of, binary_of}
use Rattle.source_meaning.specs.Selects as sel
use Rattle.source_meaning.specs.Selects.{less, selected, select_variable, object_or_none, meaning_of_object}
use Rattle.source_meaning.specs.Environment.{named}
use Rattle.flat_meaning.specs.Expressions.{expression, meaning, variable_of, found}
use Rattle.flat_meaning.specs.Faults.{Checked, checked, check, meanings, all_sizes, all_selects}
use Rattle.flat_meaning.proofs.Meanings as of
use Rattle.flat_meaning.proofs.Meanings.{selection_of}
use Rattle.design_meaning.proofs.ListLaws.{left_true, right_true, all_map}
use Rattle.typed_form.specs.Nodes.{reduction, arithmetic, shift, comparison, logical}
use Rattle.typed_form.specs.TypedExpressions.{IsVariable, IsPosition, size}
use Rattle.typed_form.specs.TypedExpressions as typed
use Rattle.lower_meaning.proofs.CheckFolds as folds
use Rattle.lower_meaning.proofs.CheckFolds.{check_select}
use Rattle.lower_meaning.proofs.CheckMeans.{check_means}
use Rattle.lower_meaning.proofs.FlatInduction.{alone, flat_induction}
use Rattle.typed_valid_laws.proofs.Nodes.{not_none}

-- ---- sizes of operators

pub reduction_size : (op : UnaryOp) (a : Meaning) → is_some (reduction op) ≡ true → (unary_of op a).size ≡ 1
reduction_size unary.Plus a h = not_none h
reduction_size unary.Minus a h = not_none h
reduction_size unary.Complement a h = not_none h
reduction_size _ a h = refl

pub arithmetic_size : (op : BinaryOp) (by_sign : Bool) (a b : Meaning) → is_some (arithmetic op by_sign) ≡ true → (binary_of op a b).size ≡ max a.size b.size
arithmetic_size binary.Add by_sign a b h = refl
arithmetic_size binary.Subtract by_sign a b h = refl
arithmetic_size binary.Multiply by_sign a b h = refl
arithmetic_size binary.Divide by_sign a b h = refl
arithmetic_size binary.Remainder by_sign a b h = refl
arithmetic_size binary.And by_sign a b h = refl
arithmetic_size binary.Or by_sign a b h = refl
arithmetic_size binary.Xor by_sign a b h = refl
arithmetic_size binary.TildeCaret by_sign a b h = refl
arithmetic_size binary.CaretTilde by_sign a b h = refl
arithmetic_size op by_sign a b h = not_none h

pub shift_size : (op : BinaryOp) (by_sign : Bool) (a b : Meaning) → is_some (shift op by_sign) ≡ true → (binary_of op a b).size ≡ a.size
shift_size binary.ShiftLeft by_sign a b h = refl
shift_size binary.ArithmeticShiftLeft by_sign a b h = refl
shift_size binary.ShiftRight by_sign a b h = refl
shift_size binary.ArithmeticShiftRight by_sign a b h = refl
shift_size op by_sign a b h = not_none h

pub comparison_size : (op : BinaryOp) (by_sign : Bool) (a b : Meaning) → is_some (comparison op by_sign) ≡ true → (binary_of op a b).size ≡ 1
comparison_size binary.Equal by_sign a b h = refl
comparison_size binary.CaseEqual by_sign a b h = refl
comparison_size binary.NotEqual by_sign a b h = refl
comparison_size binary.CaseNotEqual by_sign a b h = refl
comparison_size binary.Less by_sign a b h = refl
comparison_size binary.LessOrEqual by_sign a b h = refl
comparison_size binary.Greater by_sign a b h = refl
comparison_size binary.GreaterOrEqual by_sign a b h = refl
comparison_size op by_sign a b h = not_none h

pub logical_size : (op : BinaryOp) (a b : Meaning) → is_some (logical op) ≡ true → (binary_of op a b).size ≡ 1
logical_size binary.LogicalAnd a b h = refl
logical_size binary.LogicalOr a b h = refl
logical_size op a b h = not_none h

-- ---- what is checked

checked_small : (c : Checked) (m : Meaning) (selects sizes : Bool) → c ≡ checked m selects sizes → c.sizes ≡ true → nat_le c.meaning.size 128 ≡ true
checked_small c m selects sizes e h =
    subst (λ (c : Checked). c.sizes ≡ true → nat_le c.meaning.size 128 ≡ true) (sym e) (right_true sizes (nat_le m.size 128)) h

joined_small : (c : Checked) (m : Meaning) (selects sizes all : Bool) → c ≡ record (checked m selects sizes) { selects = all } → c.sizes ≡ true
    → nat_le c.meaning.size 128 ≡ true
joined_small c m selects sizes all e h =
    subst (λ (c : Checked). c.sizes ≡ true → nat_le c.meaning.size 128 ≡ true) (sym e) (right_true sizes (nat_le m.size 128)) h

module _ (vars : List FlatVar) where
  abbrev pub sizes_of : FlatExpr → Bool
  sizes_of a = (check vars a).sizes

  abbrev pub part_sizes : FlatSelect → Bool
  part_sizes s = (check_select vars s).sizes

  abbrev IsSmall : FlatExpr → Type 0
  IsSmall a = sizes_of a ≡ true → nat_le (check vars a).meaning.size 128 ≡ true

  all_small : (a : FlatExpr) → IsSmall a
  all_small = flat_induction IsSmall (λ s. Unit {0})
      (λ w signed n free. checked_small (check vars (e.Number w signed n free)) (expression vars (x.Number w signed n free)) true true
      (folds.checked-Number vars w signed n free))
      (λ k. checked_small (check vars (e.Var k)) (expression vars (x.Var k)) true true (folds.checked-Var vars k))
      (λ base s p q. checked_small _ _ _ _ (folds.checked-Select vars base s))
      (λ op a p. checked_small _ _ _ _ (folds.checked-Unary vars op a))
      (λ op a b p q. checked_small _ _ _ _ (folds.checked-Binary vars op a b))
      (λ test a b p q r. checked_small _ _ _ _ (folds.checked-Choose vars test a b))
      (λ parts. let cs = map (check vars) (alone parts) in
      joined_small (check vars (e.Join (alone parts))) (expression vars (x.Join (meanings cs))) true (all_sizes cs) (all_selects cs)
      (folds.checked-Join vars (alone parts)))
      (λ count parts p. checked_small _ _ _ _ (folds.checked-Repeat vars count (alone parts)))
      (λ f a p. checked_small _ _ _ _ (folds.checked-Call vars f a))
      (λ i p. tt) (λ high low p q. tt) (λ i count p q. tt) (λ i count p q. tt)

  -- an expression has at most 128 bits where all sizes inside are that small
  pub small : (a : FlatExpr) → sizes_of a ≡ true → size vars a ≤ 128
  small a h = grind (arith, common_steps, ap (λ (m : Meaning). nat_le m.size 128) (sym (check_means vars a)) ∙ all_small a h)

  -- those of the parts
  pub sizes_select : (base : FlatExpr) (s : FlatSelect) → sizes_of (e.Select base s) ≡ true → (sizes_of base && part_sizes s) ≡ true
  sizes_select base s h = left_true (sizes_of base && part_sizes s) _ (sym (ap (λ c. c.sizes) (folds.checked-Select vars base s)) ∙ h)

  pub sizes_unary : (op : UnaryOp) (a : FlatExpr) → sizes_of (e.Unary op a) ≡ true → sizes_of a ≡ true
  sizes_unary op a h = left_true (sizes_of a) _ (sym (ap (λ c. c.sizes) (folds.checked-Unary vars op a)) ∙ h)

  pub sizes_binary : (op : BinaryOp) (a b : FlatExpr) → sizes_of (e.Binary op a b) ≡ true → (sizes_of a && sizes_of b) ≡ true
  sizes_binary op a b h = left_true (sizes_of a && sizes_of b) _ (sym (ap (λ c. c.sizes) (folds.checked-Binary vars op a b)) ∙ h)

  pub sizes_choose : (test a b : FlatExpr) → sizes_of (e.Choose test a b) ≡ true → (sizes_of test && sizes_of a && sizes_of b) ≡ true
  sizes_choose test a b h =
      left_true (sizes_of test && sizes_of a && sizes_of b) _ (sym (ap (λ c. c.sizes) (folds.checked-Choose vars test a b)) ∙ h)

  all_sizes_are : (parts : List FlatExpr) → list_all (λ (c : Checked). c.sizes) (map (check vars) parts) ≡ list_all sizes_of parts
  all_sizes_are parts = all_map (λ (c : Checked). c.sizes) (check vars) parts

  pub sizes_join : (parts : List FlatExpr) → sizes_of (e.Join parts) ≡ true → list_all sizes_of parts ≡ true
  sizes_join parts h =
      sym (all_sizes_are parts)
      ∙ left_true (list_all (λ (c : Checked). c.sizes) (map (check vars) parts)) _ (sym (ap (λ c. c.sizes) (folds.checked-Join vars parts)) ∙ h)

  pub sizes_repeat : (count : FlatExpr) (parts : List FlatExpr) → sizes_of (e.Repeat count parts) ≡ true → list_all sizes_of parts ≡ true
  sizes_repeat count parts h =
      sym (all_sizes_are parts)
      ∙ right_true (sizes_of count) (list_all (λ (c : Checked). c.sizes) (map (check vars) parts))
      (left_true (sizes_of count && list_all (λ (c : Checked). c.sizes) (map (check vars) parts)) _
      (sym (ap (λ c. c.sizes) (folds.checked-Repeat vars count parts)) ∙ h))

  pub sizes_call : (f : SystemCall) (a : FlatExpr) → sizes_of (e.Call f a) ≡ true → sizes_of a ≡ true
  sizes_call f a h = left_true (sizes_of a) _ (sym (ap (λ c. c.sizes) (folds.checked-Call vars f a)) ∙ h)

  pub part_sizes_at : (i : FlatExpr) → part_sizes (select.At i) ≡ true → sizes_of i ≡ true
  part_sizes_at i h = sym (ap (λ c. c.sizes) (folds.checked-At vars i)) ∙ h

  pub part_sizes_between : (high low : FlatExpr) → part_sizes (select.Between high low) ≡ true → (sizes_of high && sizes_of low) ≡ true
  part_sizes_between high low h = sym (ap (λ c. c.sizes) (folds.checked-Between vars high low)) ∙ h

  pub part_sizes_up : (i count : FlatExpr) → part_sizes (select.Up i count) ≡ true → (sizes_of i && sizes_of count) ≡ true
  part_sizes_up i count h = sym (ap (λ c. c.sizes) (folds.checked-Up vars i count)) ∙ h

  pub part_sizes_down : (i count : FlatExpr) → part_sizes (select.Down i count) ≡ true → (sizes_of i && sizes_of count) ≡ true
  part_sizes_down i count h = sym (ap (λ c. c.sizes) (folds.checked-Down vars i count)) ∙ h

  -- ---- variables and selects

  pub var_means : (k : ℕ) (v : FlatVar) → slice_get vars k ≡ Some v → meaning vars (e.Var k) ≡ meaning_of_object (whole (variable_of k v))
  var_means k v p = of.of-Var vars k ∙ ap (λ x. named (found k x)) p

  pub var_size : (k : ℕ) (v : FlatVar) → slice_get vars k ≡ Some v → size vars (e.Var k) ≡ v.width
  var_size k v p = ap (λ x. x.size) (var_means k v p)

  pub word_means : (k : ℕ) (v : FlatVar) (i : FlatExpr) → IsVariable vars k true v
      → meaning vars (e.Select (e.Var k) (select.At i)) ≡ meaning_of_object (m.word (variable_of k v) (less (meaning vars i) (pos v.word_low)))
  word_means k v i p =
      of.of-Select vars (e.Var k) (select.At i)
      ∙ ap₂ selected (var_means k v p.0) (of.of-At vars i)
      ∙ ap (λ c. object_or_none (select_variable (variable_of k v) c (sel.at (meaning vars i)))) p.1

  pub word_size : (k : ℕ) (v : FlatVar) (i : FlatExpr) → IsVariable vars k true v → size vars (e.Select (e.Var k) (select.At i)) ≡ v.width
  word_size k v i p = ap (λ x. x.size) (word_means k v i p)

  pub part_means : (k : ℕ) (v : FlatVar) (s : FlatSelect) → IsVariable vars k false v
      → meaning vars (e.Select (e.Var k) s)
      ≡ meaning_of_object (m.part (variable_of k v) (sel.position v.low (selection_of vars s)) (sel.width_of (selection_of vars s)))
  part_means k v s p =
      of.of-Select vars (e.Var k) s
      ∙ ap (λ x. selected x (selection_of vars s)) (var_means k v p.0)
      ∙ ap (λ c. object_or_none (select_variable (variable_of k v) c (selection_of vars s))) p.1

  pub part_size : (k : ℕ) (v : FlatVar) (s : FlatSelect) → IsVariable vars k false v
      → size vars (e.Select (e.Var k) s) ≡ sel.width_of (selection_of vars s)
  part_size k v s p = ap (λ x. x.size) (part_means k v s p)

  pub word_part_means : (k : ℕ) (v : FlatVar) (i : FlatExpr) (s : FlatSelect) → IsVariable vars k true v
      → meaning vars (e.Select (e.Select (e.Var k) (select.At i)) s)
      ≡ meaning_of_object (m.word_part (variable_of k v) (less (meaning vars i) (pos v.word_low)) (sel.position v.low (selection_of vars s))
      (sel.width_of (selection_of vars s)))
  word_part_means k v i s p =
      of.of-Select vars (e.Select (e.Var k) (select.At i)) s ∙ ap (λ x. selected x (selection_of vars s)) (word_means k v i p)

  pub word_part_size : (k : ℕ) (v : FlatVar) (i : FlatExpr) (s : FlatSelect) → IsVariable vars k true v
      → size vars (e.Select (e.Select (e.Var k) (select.At i)) s) ≡ sel.width_of (selection_of vars s)
  word_part_size k v i s p = ap (λ x. x.size) (word_part_means k v i s p)

  -- the width of a position
  pub position_width : {low w : ℕ} {s : FlatSelect} {at : Index} → IsPosition vars low s w at → sel.width_of (selection_of vars s) ≡ w
  position_width (typed.at {i = i} d) = ap sel.width_of (of.of-At vars i)
  position_width (typed.between high l p) = ap sel.width_of (of.of-Between vars high l) ∙ ap at_least_0 p
  position_width (typed.up {i = i} count p d) = ap sel.width_of (of.of-Up vars i count) ∙ ap at_least_0 p
  position_width (typed.down {i = i} count p d) = ap sel.width_of (of.of-Down vars i count) ∙ ap at_least_0 p
