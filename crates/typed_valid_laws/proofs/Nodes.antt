-- Nodes that agree in their widths.
use Rattle.std.proofs.Common.{◌≡◌, ◌∙◌, sym, ap, ap₂, subst, refl, ℕ, zero, suc, ◌+◌, ◌*◌, ◌^◌, ◌<◌, ◌≤◌, Bool, true, false, ◌&&◌, ◌||◌, nat_lt, if◌then◌else◌}
use Rattle.std.proofs.Common.{List, [], ◌∷◌, map, length, Option, Some, None, is_some, arith, le_trans, le_antisymm, ltb-false, true≢false}
use Rattle.std.specs.Prelude.{nat_le, ◌==◌, slice_get}
use Rattle.std.proofs.lemmas.Grind.{common_steps}
use Rattle.vlog_tree.specs.declared.operator.UnaryOp.{UnaryOp}
use Rattle.vlog_tree.specs.declared.operator.UnaryOp.TheVariants as unary
use Rattle.vlog_tree.specs.declared.operator.BinaryOp.{BinaryOp}
use Rattle.vlog_tree.specs.declared.operator.BinaryOp.TheVariants as binary
use Rattle.cov_types.specs.declared.var.Var.{Var}
use Rattle.elab_types.specs.declared.flat_source.FlatVar.{FlatVar}
use Rattle.design_tree.specs.declared.operator.TypedUnary.{TypedUnary}
use Rattle.design_tree.specs.declared.operator.TypedUnary.TheVariants as one
use Rattle.design_tree.specs.declared.operator.TypedBinary.{TypedBinary}
use Rattle.design_tree.specs.declared.operator.TypedBinary.TheVariants as two
use Rattle.design_tree.specs.declared.design.Design.{Design}
use Rattle.design_tree.specs.declared.typed.Index.{Index}
use Rattle.design_tree.specs.declared.typed.Typed.{Typed}
use Rattle.design_tree.specs.declared.typed.Typed.TheVariants as t
use Rattle.circuit_run.specs.States as circuit
use Rattle.flat_meaning.specs.Circuit.{var_of}
use Rattle.design_meaning.specs.States as design
use Rattle.design_meaning.specs.WellTyped.{is_typed, is_index, node_typed, index_typed, is_width, is_var, is_plain_var, is_shift}
use Rattle.design_meaning.specs.Widths.{width_of, node_width, index_width, unary_width, binary_width}
use Rattle.design_meaning.proofs.ListLaws.{right_true, and_from}
use Rattle.design_meaning.proofs.TypedFolds as typed
use Rattle.typed_form.specs.Nodes.{widened, inverted, test, reduction, arithmetic, shift, comparison, logical}
use Rattle.typed_form.specs.TypedExpressions.{index}

pub is_wide : (w : ℕ) → 1 ≤ w → w ≤ 128 → is_width w ≡ true
is_wide w p q = and_from (nat_le 1 w) (nat_le w 128) (grind (arith, common_steps, p)) (grind (arith, common_steps, q))

pub not_none : {A : Type 0} → false ≡ true → A
not_none h = absurd (true≢false (sym h))

-- what an operator's node is, where it has one
abbrev pub use_one : Option (Typed → Typed) → Typed → Typed
use_one (Some f) a = f a
use_one None a = a

abbrev pub use_two : Option (Typed → Typed → Typed) → Typed → Typed → Typed
use_two (Some f) a b = f a b
use_two None a b = a

-- a variable of the source is that of the design
pub var_there : (vars : List FlatVar) (k : ℕ) (v : FlatVar) → slice_get vars k ≡ Some v
    → (nat_lt k (length (map var_of vars)) ≡ true) × (circuit.var_of (map var_of vars) k ≡ var_of v)
var_there [] k v p = not_none (ap is_some p)
var_there (x ∷ vars) zero v p = (grind (arith, common_steps), ap found p)
  where
    found : Option FlatVar → Var
    found (Some v) = var_of v
    found None = circuit.no_var
var_there (x ∷ vars) (suc k) v p = let h = var_there vars k v p in (grind (arith, common_steps, h.0), h.1)

module _ (d : Design) where
  -- an expression is well typed and has a width
  pub record Has (n : ℕ) (a : Typed) : Type 0 where
    pub agrees : is_typed d a ≡ true
    pub wide : width_of d a ≡ n

  pub number_has : (w n : ℕ) → is_width w ≡ true → nat_lt n (2 ^ w) ≡ true → Has w (t.Number w n)
  number_has w n p q = record {
    agrees = typed.para-Number Bool Bool (node_typed d) index_typed w n ∙ and_from (is_width w) (nat_lt n (2 ^ w)) p q;
    wide = typed.fold-Number ℕ ℕ (node_width d) index_width w n;
  }

  pub variable_has : (k w : ℕ) → is_var d k ≡ true → (design.var_of d k).words ≡ 1 → (design.var_of d k).width ≡ w → Has w (t.Var k)
  variable_has k w p q r = record {
    agrees = typed.para-Var Bool Bool (node_typed d) index_typed k ∙ and_from (is_var d k) ((design.var_of d k).words == 1) p (ap (λ n. n == 1) q);
    wide = typed.fold-Var ℕ ℕ (node_width d) index_width k ∙ r;
  }

  pub index_has : (low w : ℕ) (signed : Bool) (a : Typed) → low < 2 ^ 32 → Has w a → is_index d (index low signed a) ≡ true
  index_has low w signed a p h =
      typed.para-index Bool Bool (node_typed d) index_typed low signed a
      ∙ and_from (nat_lt low (2 ^ 32)) (is_typed d a) (grind (arith, common_steps, p)) h.agrees

  pub word_has : (k w : ℕ) (at : Index) → is_var d k ≡ true → (design.var_of d k).width ≡ w → is_index d at ≡ true → Has w (t.Word k at)
  word_has k w at p q r = record {
    agrees = typed.para-Word Bool Bool (node_typed d) index_typed k at ∙ and_from (is_var d k) (is_index d at) p r;
    wide = typed.fold-Word ℕ ℕ (node_width d) index_width k at ∙ q;
  }

  pub part_has : (w v : ℕ) (a : Typed) (at : Index) → is_width w ≡ true → Has v a → is_index d at ≡ true → Has w (t.Part w a at)
  part_has w v a at p h q = record {
    agrees = typed.para-Part Bool Bool (node_typed d) index_typed w a at
        ∙ and_from (is_width w && is_typed d a) (is_index d at) (and_from (is_width w) (is_typed d a) p h.agrees) q;
    wide = typed.fold-Part ℕ ℕ (node_width d) index_width w a at;
  }

  -- ---- extension

  room : (w n : ℕ) (a : Typed) → is_width n ≡ true → Has w a → w ≤ n → (is_width n && is_typed d a && nat_le (width_of d a) n) ≡ true
  room w n a p h le =
      and_from (is_width n && is_typed d a) (nat_le (width_of d a) n) (and_from (is_width n) (is_typed d a) p h.agrees)
      (ap (λ v. nat_le v n) h.wide ∙ grind (arith, common_steps, le))

  if_has : (c : Bool) (n : ℕ) (a b : Typed) → Has n a → (c ≡ false → Has n b) → Has n (if c then a else b)
  if_has true n a b h k = h
  if_has false n a b h k = k refl

  no_wider : (w n : ℕ) (a : Typed) → Has w a → w ≤ n → nat_lt w n ≡ false → Has n a
  no_wider w n a h le p = subst (λ v. Has v a) (le_antisymm le (ltb-false w n p)) h

  pub widened_has : (w n : ℕ) (by_sign : Bool) (a : Typed) → Has w a → 1 ≤ w → w ≤ n → n ≤ 128 → Has n (widened w n by_sign a)
  widened_has w n true a h some le few =
      if_has (nat_lt w n) n (t.SignExtend n a) a
      (record {
        agrees = typed.para-SignExtend Bool Bool (node_typed d) index_typed n a ∙ room w n a (is_wide n (le_trans some le) few) h le;
        wide = typed.fold-SignExtend ℕ ℕ (node_width d) index_width n a;
      })
      (no_wider w n a h le)
  widened_has w n false a h some le few =
      if_has (nat_lt w n) n (t.ZeroExtend n a) a
      (record {
        agrees = typed.para-ZeroExtend Bool Bool (node_typed d) index_typed n a ∙ room w n a (is_wide n (le_trans some le) few) h le;
        wide = typed.fold-ZeroExtend ℕ ℕ (node_width d) index_width n a;
      })
      (no_wider w n a h le)

  -- ---- operators

  pub unary_has : (op : TypedUnary) (w : ℕ) (a : Typed) → Has w a → Has (unary_width op w) (t.Unary op a)
  unary_has op w a h = record {
    agrees = typed.para-Unary Bool Bool (node_typed d) index_typed op a ∙ h.agrees;
    wide = typed.fold-Unary ℕ ℕ (node_width d) index_width op a ∙ ap (unary_width op) h.wide;
  }

  binary_has : (op : TypedBinary) (w v : ℕ) (a b : Typed) → Has w a → Has v b → (is_shift op || w == v) ≡ true → Has (binary_width op w) (t.Binary op a b)
  binary_has op w v a b h k p = record {
    agrees = typed.para-Binary Bool Bool (node_typed d) index_typed op a b
        ∙ and_from (is_typed d a && is_typed d b) (is_shift op || width_of d a == width_of d b) (and_from (is_typed d a) (is_typed d b) h.agrees k.agrees)
        (ap₂ (λ x y. is_shift op || x == y) h.wide k.wide ∙ p);
    wide = typed.fold-Binary ℕ ℕ (node_width d) index_width op a b ∙ ap (binary_width op) h.wide;
  }

  same : (w : ℕ) → (w == w) ≡ true
  same w = grind (arith, common_steps)

  -- of two operands of one width, which is no shift
  plain_has : (op : TypedBinary) (w : ℕ) (a b : Typed) → is_shift op ≡ false → Has w a → Has w b → Has (binary_width op w) (t.Binary op a b)
  plain_has op w a b p h k = binary_has op w w a b h k (ap (λ c. c || w == w) p ∙ same w)

  pub reduction_has : (op : UnaryOp) (w : ℕ) (a : Typed) → is_some (reduction op) ≡ true → Has w a → Has 1 (use_one (reduction op) a)
  reduction_has unary.LogicalNot w a p h = unary_has one.Not 1 (t.Unary one.ReduceOr a) (unary_has one.ReduceOr w a h)
  reduction_has unary.ReduceAnd w a p h = unary_has one.ReduceAnd w a h
  reduction_has unary.ReduceNand w a p h = unary_has one.Not 1 (t.Unary one.ReduceAnd a) (unary_has one.ReduceAnd w a h)
  reduction_has unary.ReduceOr w a p h = unary_has one.ReduceOr w a h
  reduction_has unary.ReduceNor w a p h = unary_has one.Not 1 (t.Unary one.ReduceOr a) (unary_has one.ReduceOr w a h)
  reduction_has unary.ReduceXor w a p h = unary_has one.ReduceXor w a h
  reduction_has unary.ReduceTildeCaret w a p h = unary_has one.Not 1 (t.Unary one.ReduceXor a) (unary_has one.ReduceXor w a h)
  reduction_has unary.ReduceCaretTilde w a p h = unary_has one.Not 1 (t.Unary one.ReduceXor a) (unary_has one.ReduceXor w a h)
  reduction_has op w a p h = not_none p

  pub arithmetic_has : (op : BinaryOp) (by_sign : Bool) (w : ℕ) (a b : Typed) → is_some (arithmetic op by_sign) ≡ true → Has w a → Has w b
      → Has w (use_two (arithmetic op by_sign) a b)
  arithmetic_has binary.Add by_sign w a b p h k = plain_has two.Add w a b refl h k
  arithmetic_has binary.Subtract by_sign w a b p h k = plain_has two.Sub w a b refl h k
  arithmetic_has binary.Multiply by_sign w a b p h k = plain_has two.Mul w a b refl h k
  arithmetic_has binary.Divide true w a b p h k = plain_has two.DivideSigned w a b refl h k
  arithmetic_has binary.Divide false w a b p h k = plain_has two.DivideUnsigned w a b refl h k
  arithmetic_has binary.Remainder true w a b p h k = plain_has two.RemainderSigned w a b refl h k
  arithmetic_has binary.Remainder false w a b p h k = plain_has two.RemainderUnsigned w a b refl h k
  arithmetic_has binary.And by_sign w a b p h k = plain_has two.And w a b refl h k
  arithmetic_has binary.Or by_sign w a b p h k = plain_has two.Or w a b refl h k
  arithmetic_has binary.Xor by_sign w a b p h k = plain_has two.Xor w a b refl h k
  arithmetic_has binary.TildeCaret by_sign w a b p h k = unary_has one.Not w (t.Binary two.Xor a b) (plain_has two.Xor w a b refl h k)
  arithmetic_has binary.CaretTilde by_sign w a b p h k = unary_has one.Not w (t.Binary two.Xor a b) (plain_has two.Xor w a b refl h k)
  arithmetic_has op by_sign w a b p h k = not_none p

  pub shift_has : (op : BinaryOp) (by_sign : Bool) (w v : ℕ) (a b : Typed) → is_some (shift op by_sign) ≡ true → Has w a → Has v b
      → Has w (use_two (shift op by_sign) a b)
  shift_has binary.ShiftLeft by_sign w v a b p h k = binary_has two.ShiftLeft w v a b h k refl
  shift_has binary.ArithmeticShiftLeft by_sign w v a b p h k = binary_has two.ShiftLeft w v a b h k refl
  shift_has binary.ShiftRight by_sign w v a b p h k = binary_has two.ShiftRight w v a b h k refl
  shift_has binary.ArithmeticShiftRight true w v a b p h k = binary_has two.ShiftRightSigned w v a b h k refl
  shift_has binary.ArithmeticShiftRight false w v a b p h k = binary_has two.ShiftRight w v a b h k refl
  shift_has op by_sign w v a b p h k = not_none p

  pub comparison_has : (op : BinaryOp) (by_sign : Bool) (w : ℕ) (a b : Typed) → is_some (comparison op by_sign) ≡ true → Has w a → Has w b
      → Has 1 (use_two (comparison op by_sign) a b)
  comparison_has binary.Equal by_sign w a b p h k = plain_has two.Equal w a b refl h k
  comparison_has binary.CaseEqual by_sign w a b p h k = plain_has two.Equal w a b refl h k
  comparison_has binary.NotEqual by_sign w a b p h k = unary_has one.Not 1 (t.Binary two.Equal a b) (plain_has two.Equal w a b refl h k)
  comparison_has binary.CaseNotEqual by_sign w a b p h k = unary_has one.Not 1 (t.Binary two.Equal a b) (plain_has two.Equal w a b refl h k)
  comparison_has binary.Less true w a b p h k = plain_has two.BelowSigned w a b refl h k
  comparison_has binary.Less false w a b p h k = plain_has two.BelowUnsigned w a b refl h k
  comparison_has binary.LessOrEqual true w a b p h k = plain_has two.AtMostSigned w a b refl h k
  comparison_has binary.LessOrEqual false w a b p h k = plain_has two.AtMostUnsigned w a b refl h k
  comparison_has binary.Greater true w a b p h k = plain_has two.BelowSigned w b a refl k h
  comparison_has binary.Greater false w a b p h k = plain_has two.BelowUnsigned w b a refl k h
  comparison_has binary.GreaterOrEqual true w a b p h k = plain_has two.AtMostSigned w b a refl k h
  comparison_has binary.GreaterOrEqual false w a b p h k = plain_has two.AtMostUnsigned w b a refl k h
  comparison_has op by_sign w a b p h k = not_none p

  pub test_has : (w : ℕ) (a : Typed) → Has w a → Has 1 (test a)
  test_has w a h = unary_has one.ReduceOr w a h

  pub logical_has : (op : BinaryOp) (w v : ℕ) (a b : Typed) → is_some (logical op) ≡ true → Has w a → Has v b → Has 1 (use_two (logical op) a b)
  logical_has binary.LogicalAnd w v a b p h k = plain_has two.And 1 (test a) (test b) refl (test_has w a h) (test_has v b k)
  logical_has binary.LogicalOr w v a b p h k = plain_has two.Or 1 (test a) (test b) refl (test_has w a h) (test_has v b k)
  logical_has op w v a b p h k = not_none p

  pub choice_has : (v w : ℕ) (c a b : Typed) → Has v c → Has w a → Has w b → Has w (t.Choose (test c) a b)
  choice_has v w c a b g h k =
      let one_bit = test_has v c g in
      let both = is_typed d (test c) && width_of d (test c) == 1 in
      record {
        agrees = typed.para-Choose Bool Bool (node_typed d) index_typed (test c) a b
            ∙ and_from (both && is_typed d a && is_typed d b) (width_of d a == width_of d b)
            (and_from (both && is_typed d a) (is_typed d b)
            (and_from both (is_typed d a) (and_from (is_typed d (test c)) (width_of d (test c) == 1) one_bit.agrees (ap (λ x. x == 1) one_bit.wide)) h.agrees)
            k.agrees)
            (ap₂ (λ x y. x == y) h.wide k.wide ∙ same w);
        wide = typed.fold-Choose ℕ ℕ (node_width d) index_width (test c) a b ∙ h.wide;
      }

  -- ---- joins

  pub join_has : (v w : ℕ) (a b : Typed) → Has v a → Has w b → is_width (v + w) ≡ true → Has (v + w) (t.Join a b)
  join_has v w a b h k p = record {
    agrees = typed.para-Join Bool Bool (node_typed d) index_typed a b
        ∙ and_from (is_typed d a && is_typed d b) (is_width (width_of d a + width_of d b)) (and_from (is_typed d a) (is_typed d b) h.agrees k.agrees)
        (ap₂ (λ x y. is_width (x + y)) h.wide k.wide ∙ p);
    wide = typed.fold-Join ℕ ℕ (node_width d) index_width a b ∙ ap₂ (λ x y. x + y) h.wide k.wide;
  }

  pub repeat_has : (count w : ℕ) (a : Typed) → Has w a → is_width (count * w) ≡ true → Has (count * w) (t.Repeat count a)
  repeat_has count w a h p = record {
    agrees = typed.para-Repeat Bool Bool (node_typed d) index_typed count a
        ∙ and_from (is_typed d a) (is_width (count * width_of d a)) h.agrees (ap (λ x. is_width (count * x)) h.wide ∙ p);
    wide = typed.fold-Repeat ℕ ℕ (node_width d) index_width count a ∙ ap (λ x. count * x) h.wide;
  }
