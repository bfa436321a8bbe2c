-- What is known of the operands of a well typed expression, and of their widths.
use Rattle.std.proofs.Common.{◌≡◌, ◌∙◌, sym, ap, subst, refl, ℕ, ◌+◌, ◌*◌, ◌<◌, ◌≤◌, ◌^◌, ◌==◌, inl, inr, arith, Bool, true, false, ◌&&◌, ◌||◌, IsTrue, length}
use Rattle.std.specs.Prelude.{◌⊎◌, nat_lt, nat_le}
use Rattle.std.proofs.lemmas.Grind.{common_steps}
use Rattle.design_tree.specs.declared.operator.TypedUnary.{TypedUnary}
use Rattle.design_tree.specs.declared.operator.TypedBinary.{TypedBinary}
use Rattle.design_tree.specs.declared.design.Design.{Design}
use Rattle.design_tree.specs.declared.typed.Index.{Index}
use Rattle.design_tree.specs.declared.typed.Typed.{Typed}
use Rattle.design_tree.specs.declared.typed.Typed.TheVariants as e
use Rattle.circuit_run.specs.States.{State}
use Rattle.design_meaning.specs.States.{IsStateOf}
use Rattle.design_meaning.specs.Values.{of_width, value_in}
use Rattle.design_meaning.specs.Widths.{width_of}
use Rattle.design_meaning.specs.WellTyped.{is_typed, is_index, node_typed, index_typed, is_shift, same_width, is_width, is_plain_var, is_var}
use Rattle.design_meaning.proofs.TypedFolds as typed
use Rattle.design_meaning.proofs.ListLaws.{left_true, right_true}
use Rattle.design_meaning.proofs.ValuesFit.{fits}
use Rattle.design_state.specs.InDesign.{InDesign, IsTypedIn, IsIndexIn}

-- one test for another
pub with_test : (s : State) (f g : Design → Bool) → InDesign s f → ((d : Design) → f d ≡ true → g d ≡ true) → InDesign s g
with_test s f g h k = record { design = h.design; of = h.of; holds = k h.design h.holds }

module _ (s : State) where
  pub of_index : (at : Index) → IsIndexIn s at → IsTypedIn s at.value
  of_index at h = with_test s (λ d. is_index d at) (λ d. is_typed d at.value) h
      (λ d ok. right_true (nat_lt at.low (2 ^ 32)) (is_typed d at.value)
      (sym (typed.para-index Bool Bool (node_typed d) index_typed at.low at.signed at.value) ∙ ok))

  pub number_width : (w n : ℕ) → IsTypedIn s (e.Number w n) → (1 ≤ w) × (w ≤ 128) × (n < 2 ^ w)
  number_width w n h =
      let ok : (is_width w && nat_lt n (2 ^ w)) ≡ true = sym (typed.para-Number Bool Bool (node_typed h.design) index_typed w n) ∙ h.holds in
      grind (arith, common_steps)

  pub var_within : (v : ℕ) → IsTypedIn s (e.Var v) → v < length s
  var_within v h =
      let ok : is_plain_var h.design v ≡ true = sym (typed.para-Var Bool Bool (node_typed h.design) index_typed v) ∙ h.holds in
      let lt : nat_lt v (length h.design.vars) ≡ true = left_true (is_var h.design v) _ ok in
      let many : length s ≡ length h.design.vars = h.of.as_many in
      grind (arith, common_steps)

  pub word_within : (v : ℕ) (at : Index) → IsTypedIn s (e.Word v at) → v < length s
  word_within v at h =
      let ok : (is_var h.design v && is_index h.design at) ≡ true = sym (typed.para-Word Bool Bool (node_typed h.design) index_typed v at) ∙ h.holds in
      let lt : nat_lt v (length h.design.vars) ≡ true = left_true (is_var h.design v) (is_index h.design at) ok in
      let many : length s ≡ length h.design.vars = h.of.as_many in
      grind (arith, common_steps)

  pub word_index : (v : ℕ) (at : Index) → IsTypedIn s (e.Word v at) → IsIndexIn s at
  word_index v at h = with_test s (λ d. is_typed d (e.Word v at)) (λ d. is_index d at) h
      (λ d ok. right_true (is_var d v) (is_index d at) (sym (typed.para-Word Bool Bool (node_typed d) index_typed v at) ∙ ok))

  pub part_width : (w : ℕ) (of : Typed) (at : Index) → IsTypedIn s (e.Part w of at) → (1 ≤ w) × (w ≤ 128)
  part_width w of at h =
      let ok : (is_width w && is_typed h.design of && is_index h.design at)
      ≡ true = sym (typed.para-Part Bool Bool (node_typed h.design) index_typed w of at) ∙ h.holds in
      let wide : is_width w ≡ true = left_true (is_width w) (is_typed h.design of) (left_true (is_width w && is_typed h.design of) (is_index h.design at) ok) in
      grind (arith, common_steps)

  pub part_of : (w : ℕ) (of : Typed) (at : Index) → IsTypedIn s (e.Part w of at) → IsTypedIn s of
  part_of w of at h = with_test s (λ d. is_typed d (e.Part w of at)) (λ d. is_typed d of) h
      (λ d ok. right_true (is_width w) (is_typed d of)
      (left_true (is_width w && is_typed d of) (is_index d at) (sym (typed.para-Part Bool Bool (node_typed d) index_typed w of at) ∙ ok)))

  pub part_index : (w : ℕ) (of : Typed) (at : Index) → IsTypedIn s (e.Part w of at) → IsIndexIn s at
  part_index w of at h = with_test s (λ d. is_typed d (e.Part w of at)) (λ d. is_index d at) h
      (λ d ok. right_true (is_width w && is_typed d of) (is_index d at) (sym (typed.para-Part Bool Bool (node_typed d) index_typed w of at) ∙ ok))

  -- the width of an operand is that of its value
  operand_width : (d : Design) (of : Typed) (w n : ℕ) → IsStateOf d s → is_typed d of ≡ true → value_in s of ≡ of_width w n → width_of d of ≡ w
  operand_width d of w n h ok v = sym (fits d s h of ok).0 ∙ ap (λ a. a.width) v

  extended : (d : Design) (w : ℕ) (of : Typed) (v n : ℕ) → IsStateOf d s → (is_width w && is_typed d of && nat_le (width_of d of) w) ≡ true
      → value_in s of ≡ of_width v n → (v ≤ w) × (w ≤ 128)
  extended d w of v n h ok is =
      let both : (is_width w && is_typed d of) ≡ true = left_true (is_width w && is_typed d of) (nat_le (width_of d of) w) ok in
      let wide : is_width w ≡ true = left_true (is_width w) (is_typed d of) both in
      let e : width_of d of ≡ v = operand_width d of v n h (right_true (is_width w) (is_typed d of) both) is in
      let le : nat_le (width_of d of) w ≡ true = right_true (is_width w && is_typed d of) (nat_le (width_of d of) w) ok in
      grind (arith, common_steps)

  pub zero_of : (w : ℕ) (of : Typed) → IsTypedIn s (e.ZeroExtend w of) → IsTypedIn s of
  zero_of w of h = with_test s (λ d. is_typed d (e.ZeroExtend w of)) (λ d. is_typed d of) h
      (λ d ok. right_true (is_width w) (is_typed d of)
      (left_true (is_width w && is_typed d of) (nat_le (width_of d of) w) (sym (typed.para-ZeroExtend Bool Bool (node_typed d) index_typed w of) ∙ ok)))

  pub zero_width : (w : ℕ) (of : Typed) (v n : ℕ) → IsTypedIn s (e.ZeroExtend w of) → value_in s of ≡ of_width v n → (v ≤ w) × (w ≤ 128)
  zero_width w of v n h = extended h.design w of v n h.of (sym (typed.para-ZeroExtend Bool Bool (node_typed h.design) index_typed w of) ∙ h.holds)

  pub sign_of : (w : ℕ) (of : Typed) → IsTypedIn s (e.SignExtend w of) → IsTypedIn s of
  sign_of w of h = with_test s (λ d. is_typed d (e.SignExtend w of)) (λ d. is_typed d of) h
      (λ d ok. right_true (is_width w) (is_typed d of)
      (left_true (is_width w && is_typed d of) (nat_le (width_of d of) w) (sym (typed.para-SignExtend Bool Bool (node_typed d) index_typed w of) ∙ ok)))

  pub sign_width : (w : ℕ) (of : Typed) (v n : ℕ) → IsTypedIn s (e.SignExtend w of) → value_in s of ≡ of_width v n → (v ≤ w) × (w ≤ 128)
  sign_width w of v n h = extended h.design w of v n h.of (sym (typed.para-SignExtend Bool Bool (node_typed h.design) index_typed w of) ∙ h.holds)

  pub truncate_of : (w : ℕ) (of : Typed) → IsTypedIn s (e.Truncate w of) → IsTypedIn s of
  truncate_of w of h = with_test s (λ d. is_typed d (e.Truncate w of)) (λ d. is_typed d of) h
      (λ d ok. right_true (is_width w) (is_typed d of)
      (left_true (is_width w && is_typed d of) (nat_le w (width_of d of)) (sym (typed.para-Truncate Bool Bool (node_typed d) index_typed w of) ∙ ok)))

  pub truncate_width : (w : ℕ) (of : Typed) (v n : ℕ) → IsTypedIn s (e.Truncate w of) → value_in s of ≡ of_width v n → (1 ≤ w) × (w ≤ v)
  truncate_width w of v n h is =
      let d : Design = h.design in
      let ok : (is_width w && is_typed d of && nat_le w (width_of d of)) ≡ true = sym (typed.para-Truncate Bool Bool (node_typed d) index_typed w of)
      ∙ h.holds in
      let both : (is_width w && is_typed d of) ≡ true = left_true (is_width w && is_typed d of) (nat_le w (width_of d of)) ok in
      let wide : is_width w ≡ true = left_true (is_width w) (is_typed d of) both in
      let e : width_of d of ≡ v = operand_width d of v n h.of (right_true (is_width w) (is_typed d of) both) is in
      let le : nat_le w (width_of d of) ≡ true = right_true (is_width w && is_typed d of) (nat_le w (width_of d of)) ok in
      grind (arith, common_steps)

  pub unary_of : (op : TypedUnary) (of : Typed) → IsTypedIn s (e.Unary op of) → IsTypedIn s of
  unary_of op of h = with_test s (λ d. is_typed d (e.Unary op of)) (λ d. is_typed d of) h
      (λ d ok. sym (typed.para-Unary Bool Bool (node_typed d) index_typed op of) ∙ ok)

  abbrev OneWidth : Design → TypedBinary → Typed → Typed → Bool
  OneWidth d op left right = is_shift op || same_width d left right

  binary_ok : (d : Design) (op : TypedBinary) (left right : Typed) → is_typed d (e.Binary op left right) ≡ true
      → (is_typed d left && is_typed d right && OneWidth d op left right) ≡ true
  binary_ok d op left right ok = sym (typed.para-Binary Bool Bool (node_typed d) index_typed op left right) ∙ ok

  pub binary_left : (op : TypedBinary) (left right : Typed) → IsTypedIn s (e.Binary op left right) → IsTypedIn s left
  binary_left op left right h = with_test s (λ d. is_typed d (e.Binary op left right)) (λ d. is_typed d left) h
      (λ d ok. left_true (is_typed d left) (is_typed d right)
      (left_true (is_typed d left && is_typed d right) (OneWidth d op left right) (binary_ok d op left right ok)))

  pub binary_right : (op : TypedBinary) (left right : Typed) → IsTypedIn s (e.Binary op left right) → IsTypedIn s right
  binary_right op left right h = with_test s (λ d. is_typed d (e.Binary op left right)) (λ d. is_typed d right) h
      (λ d ok. right_true (is_typed d left) (is_typed d right)
      (left_true (is_typed d left && is_typed d right) (OneWidth d op left right) (binary_ok d op left right ok)))

  shifts_or : (c : Bool) (v w : ℕ) → (c || v == w) ≡ true → IsTrue c ⊎ (v ≡ w)
  shifts_or true v w h = inl refl
  shifts_or false v w h = inr (grind (arith, common_steps))

  pub binary_widths : (op : TypedBinary) (left right : Typed) (v n w m : ℕ) → IsTypedIn s (e.Binary op left right)
      → value_in s left ≡ of_width v n → value_in s right ≡ of_width w m → IsTrue (is_shift op) ⊎ (v ≡ w)
  binary_widths op left right v n w m h a b =
      let d : Design = h.design in
      let ok : (is_typed d left && is_typed d right && OneWidth d op left right) ≡ true = binary_ok d op left right h.holds in
      let both : (is_typed d left && is_typed d right) ≡ true = left_true (is_typed d left && is_typed d right) (OneWidth d op left right) ok in
      let x : width_of d left ≡ v = operand_width d left v n h.of (left_true (is_typed d left) (is_typed d right) both) a in
      let y : width_of d right ≡ w = operand_width d right w m h.of (right_true (is_typed d left) (is_typed d right) both) b in
      shifts_or (is_shift op) v w (subst (λ k. (is_shift op || k == w) ≡ true) x
      (subst (λ k. (is_shift op || width_of d left == k) ≡ true) y (right_true (is_typed d left && is_typed d right) (OneWidth d op left right) ok)))

  join_ok : (d : Design) (high low : Typed) → is_typed d (e.Join high low) ≡ true
      → (is_typed d high && is_typed d low && is_width (width_of d high + width_of d low)) ≡ true
  join_ok d high low ok = sym (typed.para-Join Bool Bool (node_typed d) index_typed high low) ∙ ok

  pub join_high : (high low : Typed) → IsTypedIn s (e.Join high low) → IsTypedIn s high
  join_high high low h = with_test s (λ d. is_typed d (e.Join high low)) (λ d. is_typed d high) h
      (λ d ok. left_true (is_typed d high) (is_typed d low)
      (left_true (is_typed d high && is_typed d low) (is_width (width_of d high + width_of d low)) (join_ok d high low ok)))

  pub join_low : (high low : Typed) → IsTypedIn s (e.Join high low) → IsTypedIn s low
  join_low high low h = with_test s (λ d. is_typed d (e.Join high low)) (λ d. is_typed d low) h
      (λ d ok. right_true (is_typed d high) (is_typed d low)
      (left_true (is_typed d high && is_typed d low) (is_width (width_of d high + width_of d low)) (join_ok d high low ok)))

  pub join_width : (high low : Typed) (v n w m : ℕ) → IsTypedIn s (e.Join high low)
      → value_in s high ≡ of_width v n → value_in s low ≡ of_width w m → v + w ≤ 128
  join_width high low v n w m h a b =
      let d : Design = h.design in
      let ok : (is_typed d high && is_typed d low && is_width (width_of d high + width_of d low)) ≡ true = join_ok d high low h.holds in
      let both : (is_typed d high && is_typed d low) ≡ true = left_true (is_typed d high && is_typed d low) (is_width (width_of d high + width_of d low)) ok in
      let x : width_of d high ≡ v = operand_width d high v n h.of (left_true (is_typed d high) (is_typed d low) both) a in
      let y : width_of d low ≡ w = operand_width d low w m h.of (right_true (is_typed d high) (is_typed d low) both) b in
      let wide : is_width (width_of d high + width_of d low)
      ≡ true = right_true (is_typed d high && is_typed d low) (is_width (width_of d high + width_of d low)) ok in
      grind (arith, common_steps)

  repeat_ok : (d : Design) (count : ℕ) (of : Typed) → is_typed d (e.Repeat count of) ≡ true → (is_typed d of && is_width (count * width_of d of)) ≡ true
  repeat_ok d count of ok = sym (typed.para-Repeat Bool Bool (node_typed d) index_typed count of) ∙ ok

  pub repeat_of : (count : ℕ) (of : Typed) → IsTypedIn s (e.Repeat count of) → IsTypedIn s of
  repeat_of count of h = with_test s (λ d. is_typed d (e.Repeat count of)) (λ d. is_typed d of) h
      (λ d ok. left_true (is_typed d of) (is_width (count * width_of d of)) (repeat_ok d count of ok))

  wide_bounds : (w : ℕ) → is_width w ≡ true → (1 ≤ w) × (w ≤ 128)
  wide_bounds w h = grind (arith, common_steps)

  pub repeat_width : (count : ℕ) (of : Typed) (v n : ℕ) → IsTypedIn s (e.Repeat count of) → value_in s of ≡ of_width v n → (1 ≤ count * v) × (count * v ≤ 128)
  repeat_width count of v n h is =
      let d : Design = h.design in
      let ok : (is_typed d of && is_width (count * width_of d of)) ≡ true = repeat_ok d count of h.holds in
      let x : width_of d of ≡ v = operand_width d of v n h.of (left_true (is_typed d of) (is_width (count * width_of d of)) ok) is in
      wide_bounds (count * v) (subst (λ k. is_width (count * k) ≡ true) x (right_true (is_typed d of) (is_width (count * width_of d of)) ok))

  choose_ok : (d : Design) (test left right : Typed) → is_typed d (e.Choose test left right) ≡ true
      → (is_typed d test && width_of d test == 1 && is_typed d left && is_typed d right && same_width d left right) ≡ true
  choose_ok d test left right ok = sym (typed.para-Choose Bool Bool (node_typed d) index_typed test left right) ∙ ok

  pub choose_test : (test left right : Typed) → IsTypedIn s (e.Choose test left right) → IsTypedIn s test
  choose_test test left right h = with_test s (λ d. is_typed d (e.Choose test left right)) (λ d. is_typed d test) h (λ d ok.
      let front : Bool = is_typed d test && width_of d test == 1 in
      left_true (is_typed d test) (width_of d test == 1) (left_true front (is_typed d left) (left_true (front && is_typed d left) (is_typed d right)
      (left_true (front && is_typed d left && is_typed d right) (same_width d left right) (choose_ok d test left right ok)))))

  pub choose_left : (test left right : Typed) → IsTypedIn s (e.Choose test left right) → IsTypedIn s left
  choose_left test left right h = with_test s (λ d. is_typed d (e.Choose test left right)) (λ d. is_typed d left) h (λ d ok.
      let front : Bool = is_typed d test && width_of d test == 1 in
      right_true front (is_typed d left) (left_true (front && is_typed d left) (is_typed d right)
      (left_true (front && is_typed d left && is_typed d right) (same_width d left right) (choose_ok d test left right ok))))

  pub choose_right : (test left right : Typed) → IsTypedIn s (e.Choose test left right) → IsTypedIn s right
  choose_right test left right h = with_test s (λ d. is_typed d (e.Choose test left right)) (λ d. is_typed d right) h (λ d ok.
      let front : Bool = is_typed d test && width_of d test == 1 in
      right_true (front && is_typed d left) (is_typed d right)
      (left_true (front && is_typed d left && is_typed d right) (same_width d left right) (choose_ok d test left right ok)))
