-- The value of a well typed expression has its width and is below 2 ^ width.
use Rattle.std.proofs.Common.{◌≡◌, ◌∙◌, sym, ap, subst, refl, ℕ, zero, suc, ◌+◌, ◌*◌, ◌-◌, ◌/◌, ◌%◌, ◌<◌, ◌≤◌, ◌^◌, ◌==◌, pow_pos, arith, Bool, true, false}
use Rattle.std.proofs.Common.{◌&&◌, ◌||◌, IsTrue, List, cond}
use Rattle.std.specs.Prelude.{ℤ, pos, negsuc, slice_index, bit_and, bit_or, bit_xor, if◌then◌else◌, nat_lt, nat_le}
use Rattle.std.proofs.lemmas.Grind.{common_steps}
use Rattle.std.proofs.lemmas.Nat.{or_lt, xor_lt, mod_below}
use Rattle.std.specs.Int.Bits.{and_lt}
use Rattle.std.proofs.Math.Pow.{ones_sub-lt}
use Rattle.bit_values.specs.Values as value
use Rattle.bit_values.proofs.SizeLaws.{modulo_fits, extend_fits, concat_fit}
use Rattle.design_tree.specs.declared.operator.TypedUnary.{TypedUnary}
use Rattle.design_tree.specs.declared.operator.TypedUnary.TheVariants as unary
use Rattle.design_tree.specs.declared.operator.TypedBinary.{TypedBinary}
use Rattle.design_tree.specs.declared.operator.TypedBinary.TheVariants as binary
use Rattle.design_tree.specs.declared.design.Design.{Design}
use Rattle.design_tree.specs.declared.typed.Index.{Index}
use Rattle.design_tree.specs.declared.typed.Typed.{Typed}
use Rattle.design_tree.specs.declared.typed.Typed.TheVariants as e
use Rattle.design_tree.specs.declared.typed.Typed.TheOpen as t
use Rattle.circuit_run.specs.States.{State, held, word_at}
use Rattle.design_meaning.specs.States.{IsStateOf, var_of}
use Rattle.design_meaning.specs.Values.{Value, value_in, position_in, node_value, index_position, unary_value, binary_value, repeated}
use Rattle.design_meaning.specs.Widths.{width_of, node_width, index_width, unary_width, binary_width}
use Rattle.design_meaning.specs.WellTyped.{is_typed, is_index, node_typed, index_typed, is_shift, same_width, is_width}
use Rattle.design_meaning.specs.RunLaws.{ValuesFit}
use Rattle.design_meaning.proofs.TypedFolds as typed
use Rattle.design_meaning.proofs.TypedInduction.{IndexHas, typed_induction}
use Rattle.design_meaning.proofs.ListLaws.{left_true, right_true}
use Rattle.design_meaning.proofs.StateKeeps.{width_of_state, any_fits}

-- a value has a width, and is a number of so many bits
abbrev HasWidth : ℕ → Value → Type 0
HasWidth w a = (a.width ≡ w) × (a.number < 2 ^ w)

flag_fits : (b : Bool) → value.flag b < 2 ^ 1
flag_fits true = omega arith
flag_fits false = omega arith

below : (a b w : ℕ) → a ≤ b → b < 2 ^ w → a < 2 ^ w
below a b w le lt = omega (arith, le, lt)

quotient_fits : (a b w : ℕ) → a < 2 ^ w → a / b < 2 ^ w
quotient_fits a b w h = below (a / b) a w (grind (arith, common_steps)) h

remainder_fits : (a b w : ℕ) → a < 2 ^ w → a % b < 2 ^ w
remainder_fits a b w h = below (a % b) a w (grind (arith, common_steps)) h

equal_widths : (v w : ℕ) → (v == w) ≡ true → w ≡ v
equal_widths v w h = grind (arith, common_steps)

or_zero : (c : Bool) (n w : ℕ) → n < 2 ^ w → (if c then 0 else n) < 2 ^ w
or_zero true n w h = pow_pos w
or_zero false n w h = h

pub repeated_fits : (w n k : ℕ) → n < 2 ^ w → repeated w n k < 2 ^ (k * w)
unfolding repeated
repeated_fits w n zero h = pow_pos (0 * w)
repeated_fits w n (suc k) h = subst (λ m. value.concat w (repeated w n k) n < 2 ^ m) (grind (arith, common_steps))
    (concat_fit (k * w) w (repeated w n k) n (repeated_fits w n k h) h)

unary_fits : (op : TypedUnary) (a : Value) (w : ℕ) → HasWidth w a → HasWidth (unary_width op w) (unary_value op a)
unary_fits unary.Not a w h = (h.0, rw (← h.0) (ones_sub-lt a.width a.number))
unary_fits unary.Neg a w h = (h.0, rw (← h.0) (modulo_fits a.width _))
unary_fits unary.ReduceAnd a w h = (refl, flag_fits (a.number == 2 ^ a.width - 1))
unary_fits unary.ReduceOr a w h = (refl, flag_fits (nat_lt 0 a.number))
unary_fits unary.ReduceXor a w h = (refl, mod_below _ (2 ^ 1) (pow_pos 1))

-- all but the shifts have operands of equal widths
binary_fits : (op : TypedBinary) (a b : Value) (v w : ℕ) → HasWidth w a → HasWidth v b → (is_shift op || w == v) ≡ true
    → HasWidth (binary_width op w) (binary_value op a b)
binary_fits binary.Add a b v w h k same = (h.0, rw (← h.0) (mod_below _ (2 ^ a.width) (pow_pos a.width)))
binary_fits binary.Sub a b v w h k same = (h.0, rw (← h.0) (modulo_fits a.width _))
binary_fits binary.Mul a b v w h k same = (h.0, rw (← h.0) (mod_below _ (2 ^ a.width) (pow_pos a.width)))
binary_fits binary.DivideUnsigned a b v w h k same = (h.0, or_zero (b.number == 0) (a.number / b.number) w (quotient_fits a.number b.number w h.1))
binary_fits binary.DivideSigned a b v w h k same = (h.0, rw (← h.0) (or_zero (b.number == 0) _ a.width (modulo_fits a.width _)))
binary_fits binary.RemainderUnsigned a b v w h k same = (h.0, or_zero (b.number == 0) (a.number % b.number) w (remainder_fits a.number b.number w h.1))
binary_fits binary.RemainderSigned a b v w h k same = (h.0, rw (← h.0) (or_zero (b.number == 0) _ a.width (modulo_fits a.width _)))
binary_fits binary.And a b v w h k same = (h.0, and_lt w a.number b.number h.1 (rw (← equal_widths w v same) k.1))
binary_fits binary.Or a b v w h k same = (h.0, or_lt w a.number b.number h.1 (rw (← equal_widths w v same) k.1))
binary_fits binary.Xor a b v w h k same = (h.0, xor_lt w a.number b.number h.1 (rw (← equal_widths w v same) k.1))
binary_fits binary.Equal a b v w h k same = (refl, flag_fits (a.number == b.number))
binary_fits binary.BelowUnsigned a b v w h k same = (refl, flag_fits (nat_lt a.number b.number))
binary_fits binary.AtMostUnsigned a b v w h k same = (refl, flag_fits (nat_le a.number b.number))
binary_fits binary.BelowSigned a b v w h k same = (refl, flag_fits _)
binary_fits binary.AtMostSigned a b v w h k same = (refl, flag_fits _)
binary_fits binary.ShiftLeft a b v w h k same = (h.0, rw (← h.0) (mod_below _ (2 ^ a.width) (pow_pos a.width)))
binary_fits binary.ShiftRight a b v w h k same = (h.0, quotient_fits a.number (2 ^ b.number) w h.1)
binary_fits binary.ShiftRightSigned a b v w h k same = (h.0, rw (← h.0) (modulo_fits a.width _))

module _ (d : Design) (s : State) (h : IsStateOf d s) where
  abbrev Fits : Typed → Type 0
  Fits e = IsTrue (is_typed d e) → HasWidth (width_of d e) (value_in s e)

  -- from what the value, the width and the typing of a node are
  at_node : (e : Typed) (a : Value) (w : ℕ) (c : Bool) → value_in s e ≡ a → width_of d e ≡ w → is_typed d e ≡ c → (c ≡ true → HasWidth w a) → Fits e
  at_node e a w c ea ew ec k ok = rw (ea, ew) (k (sym ec ∙ ok))

  number : (w n : ℕ) → Fits (e.Number w n)
  number w n = at_node (e.Number w n) _ _ _ (typed.fold-Number Value ℤ (node_value s) index_position w n)
      (typed.fold-Number ℕ ℕ (node_width d) index_width w n) (typed.para-Number Bool Bool (node_typed d) index_typed w n)
      (λ ok. (refl, grind (arith, common_steps, right_true (is_width w) (nat_lt n (2 ^ w)) ok)))

  word_fits : (v : ℕ) (z : ℤ) → word_at (held s v) z < 2 ^ (var_of d v).width
  word_fits v (pos n) = any_fits d s v n h
  word_fits v (negsuc n) = pow_pos (var_of d v).width

  variable : (v : ℕ) → Fits (e.Var v)
  variable v = at_node (e.Var v) _ _ _ (typed.fold-Var Value ℤ (node_value s) index_position v) (typed.fold-Var ℕ ℕ (node_width d) index_width v)
      (typed.para-Var Bool Bool (node_typed d) index_typed v)
      (λ ok. (width_of_state d s v h, word_fits v (pos 0)))

  word : (v : ℕ) (at : Index) → IndexHas Fits at → Fits (e.Word v at)
  word v at k = at_node (e.Word v at) _ _ _ (typed.fold-Word Value ℤ (node_value s) index_position v at)
      (typed.fold-Word ℕ ℕ (node_width d) index_width v at) (typed.para-Word Bool Bool (node_typed d) index_typed v at)
      (λ ok. (width_of_state d s v h, word_fits v (position_in s at)))

  part : (w : ℕ) (of : Typed) (at : Index) → Fits of → IndexHas Fits at → Fits (e.Part w of at)
  part w of at k1 k2 = at_node (e.Part w of at) _ _ _ (typed.fold-Part Value ℤ (node_value s) index_position w of at)
      (typed.fold-Part ℕ ℕ (node_width d) index_width w of at) (typed.para-Part Bool Bool (node_typed d) index_typed w of at)
      (λ ok. (refl, mod_below _ (2 ^ w) (pow_pos w)))

  extended : (w : ℕ) (of : Typed) (sign : Bool) → Fits of → (is_width w && is_typed d of && nat_le (width_of d of) w) ≡ true
      → value.extend (value_in s of).width w sign (value_in s of).number < 2 ^ w
  extended w of sign k ok =
      let fits : HasWidth (width_of d of) (value_in s of) =
      k (right_true (is_width w) (is_typed d of) (left_true (is_width w && is_typed d of) (nat_le (width_of d of) w) ok)) in
      let le : width_of d of ≤ w = grind (arith, common_steps, right_true (is_width w && is_typed d of) (nat_le (width_of d of) w) ok) in
      rw fits.0 (extend_fits (width_of d of) w (value_in s of).number sign le fits.1)

  zero_extend : (w : ℕ) (of : Typed) → Fits of → Fits (e.ZeroExtend w of)
  zero_extend w of k = at_node (e.ZeroExtend w of) _ _ _ (typed.fold-ZeroExtend Value ℤ (node_value s) index_position w of)
      (typed.fold-ZeroExtend ℕ ℕ (node_width d) index_width w of) (typed.para-ZeroExtend Bool Bool (node_typed d) index_typed w of)
      (λ ok. (refl, extended w of false k ok))

  sign_extend : (w : ℕ) (of : Typed) → Fits of → Fits (e.SignExtend w of)
  sign_extend w of k = at_node (e.SignExtend w of) _ _ _ (typed.fold-SignExtend Value ℤ (node_value s) index_position w of)
      (typed.fold-SignExtend ℕ ℕ (node_width d) index_width w of) (typed.para-SignExtend Bool Bool (node_typed d) index_typed w of)
      (λ ok. (refl, extended w of true k ok))

  truncate : (w : ℕ) (of : Typed) → Fits of → Fits (e.Truncate w of)
  truncate w of k = at_node (e.Truncate w of) _ _ _ (typed.fold-Truncate Value ℤ (node_value s) index_position w of)
      (typed.fold-Truncate ℕ ℕ (node_width d) index_width w of) (typed.para-Truncate Bool Bool (node_typed d) index_typed w of)
      (λ ok. (refl, mod_below _ (2 ^ w) (pow_pos w)))

  unary_case : (op : TypedUnary) (of : Typed) → Fits of → Fits (e.Unary op of)
  unary_case op of k = at_node (e.Unary op of) _ _ _ (typed.fold-Unary Value ℤ (node_value s) index_position op of)
      (typed.fold-Unary ℕ ℕ (node_width d) index_width op of) (typed.para-Unary Bool Bool (node_typed d) index_typed op of)
      (λ ok. unary_fits op (value_in s of) (width_of d of) (k ok))

  binary_case : (op : TypedBinary) (left right : Typed) → Fits left → Fits right → Fits (e.Binary op left right)
  binary_case op left right k1 k2 = at_node (e.Binary op left right) _ _ _ (typed.fold-Binary Value ℤ (node_value s) index_position op left right)
      (typed.fold-Binary ℕ ℕ (node_width d) index_width op left right) (typed.para-Binary Bool Bool (node_typed d) index_typed op left right)
      (λ ok.
      let both : (is_typed d left && is_typed d right) ≡ true = left_true (is_typed d left && is_typed d right) (is_shift op || same_width d left right) ok in
      binary_fits op (value_in s left) (value_in s right) (width_of d right) (width_of d left)
      (k1 (left_true (is_typed d left) (is_typed d right) both)) (k2 (right_true (is_typed d left) (is_typed d right) both))
      (right_true (is_typed d left && is_typed d right) (is_shift op || same_width d left right) ok))

  join : (high low : Typed) → Fits high → Fits low → Fits (e.Join high low)
  join high low k1 k2 = at_node (e.Join high low) _ _ _ (typed.fold-Join Value ℤ (node_value s) index_position high low)
      (typed.fold-Join ℕ ℕ (node_width d) index_width high low) (typed.para-Join Bool Bool (node_typed d) index_typed high low)
      (λ ok.
      let both : (is_typed d high && is_typed d low) ≡ true = left_true (is_typed d high && is_typed d low) _ ok in
      let a : HasWidth (width_of d high) (value_in s high) = k1 (left_true (is_typed d high) (is_typed d low) both) in
      let b : HasWidth (width_of d low) (value_in s low) = k2 (right_true (is_typed d high) (is_typed d low) both) in
      (rw (a.0, b.0) refl, rw b.0 (concat_fit (width_of d high) (width_of d low) (value_in s high).number (value_in s low).number a.1 b.1)))

  repeats : (count : ℕ) (of : Typed) → Fits of → Fits (e.Repeat count of)
  repeats count of k = at_node (e.Repeat count of) _ _ _ (typed.fold-Repeat Value ℤ (node_value s) index_position count of)
      (typed.fold-Repeat ℕ ℕ (node_width d) index_width count of) (typed.para-Repeat Bool Bool (node_typed d) index_typed count of)
      (λ ok.
      let a : HasWidth (width_of d of) (value_in s of) = k (left_true (is_typed d of) _ ok) in
      (ap (λ m. count * m) a.0, rw a.0 (repeated_fits (width_of d of) (value_in s of).number count a.1)))

  pick : (c : Bool) (x y : Value) (w : ℕ) → HasWidth w x → HasWidth w y → HasWidth w (if c then x else y)
  pick true x y w p q = p
  pick false x y w p q = q

  choose : (test left right : Typed) → Fits test → Fits left → Fits right → Fits (e.Choose test left right)
  choose test left right k0 k1 k2 = at_node (e.Choose test left right) _ _ _ (typed.fold-Choose Value ℤ (node_value s) index_position test left right)
      (typed.fold-Choose ℕ ℕ (node_width d) index_width test left right) (typed.para-Choose Bool Bool (node_typed d) index_typed test left right)
      (λ ok.
      let front : Bool = is_typed d test && width_of d test == 1 in
      let three : (front && is_typed d left && is_typed d right)
      ≡ true = left_true (front && is_typed d left && is_typed d right) (same_width d left right) ok in
      let two : (front && is_typed d left) ≡ true = left_true (front && is_typed d left) (is_typed d right) three in
      let same : width_of d right ≡ width_of d left =
      equal_widths (width_of d left) (width_of d right) (right_true (front && is_typed d left && is_typed d right) (same_width d left right) ok) in
      pick ((value_in s test).number == 0) (value_in s right) (value_in s left) (width_of d left)
      (subst (λ w. HasWidth w (value_in s right)) same (k2 (right_true (front && is_typed d left) (is_typed d right) three)))
      (k1 (right_true front (is_typed d left) two)))

  pub fits : (e : Typed) → Fits e
  fits = typed_induction Fits number variable word part zero_extend sign_extend truncate unary_case binary_case join repeats choose

pub values_fit : ValuesFit
values_fit d s e h ok = fits d s h e ok
