-- Typing, width and depth of a node from those of its operands.
use Rattle.std.proofs.Common.{◌≡◌, ℕ, ◌+◌, ◌*◌, ◌^◌, ◌<◌, Bool, true, false, List, length, Some, None, refl, sym, ◌∙◌, ap, arith}
use Rattle.std.specs.Prelude.{◌&&◌, ◌||◌, ◌==◌, max, nat_le, nat_lt, IfOk, Result, Ok, Err}
use Rattle.std.specs.List.{slice_get, slice_index_or}
use Rattle.std.proofs.lemmas.Option.{slice_get_within, get_or_from_slice_get, slice_get-get_or}
use Rattle.std.proofs.lemmas.Bool.{cases_Bool}
use mathlib.Core.Logic.{inl, inr}
use Rattle.std.proofs.lemmas.Bool.Decides.{nat_tests}
use Rattle.cov_types.specs.Limits.{most}
use Rattle.cov_types.specs.declared.limit.LimitName.TheVariants as limit
use Rattle.cov_types.specs.declared.var.Var.{Var}
use Rattle.design_tree.specs.declared.design.Design.{Design}
use Rattle.design_tree.specs.declared.operator.TypedUnary.{TypedUnary}
use Rattle.design_tree.specs.declared.operator.TypedBinary.{TypedBinary}
use Rattle.design_tree.specs.declared.typed.Index.{fold-Index}
use Rattle.design_tree.specs.declared.typed.Typed.{Typed}
use Rattle.design_tree.specs.declared.typed.Typed.TheVariants as e
use Rattle.design_meaning.specs.Sizes.{depth, node_depth, of_index}
use Rattle.design_meaning.specs.States.{var_of}
use Rattle.design_meaning.specs.Widths.{width_of, node_width, index_width, unary_width, binary_width}
use Rattle.design_meaning.specs.WellTyped.{is_typed, is_index, is_width, is_var, is_shift, same_width, node_typed, index_typed}
use Rattle.design_meaning.proofs.TypedFolds as folds
use Rattle.cvd_text.specs.Targets.{is_expression}
use Rattle.cvd_nodes.specs.Trees.{index}
use Rattle.cvd_expressions.specs.Builds.{IsBuilt}
use Rattle.cvd_expressions.specs.declared.built.Built.{Built}

-- what is known of a value tells of it what follows
pub tells : {X E : Type 0} (r : Result X E) (P Q : X → Type 0) → ((x : X) → P x → Q x) → IfOk r P → IfOk r Q
tells (Ok x) P Q f h = f x h
tells (Err e) P Q f h = h

-- an operand, with its width and its depth
pub record Operand (d : Design) (x : Typed) (w n : ℕ) : Type 0 where
  pub typed : is_typed d x ≡ true
  pub width : w ≡ width_of d x
  pub deep : n ≡ depth x

pub operand : (d : Design) (b : Built) → IsBuilt d b → (x : Typed) → x ≡ b.tree → Operand d x b.width b.depth
operand d b h x same = record {
  typed = ap (is_typed d) same ∙ h.typed;
  width = h.width ∙ sym (ap (width_of d) same);
  deep = h.deep ∙ sym (ap depth same);
}

and_true : (b : Bool) → (b && true) ≡ b
and_true true = refl
and_true false = refl

pub none_of : (d : Design) (x : Typed) → is_typed d x ≡ false → is_expression d x ≡ false
none_of d x h = ap (λ b. b && nat_le (depth x) (most limit.Depth)) h

pub small : (low : ℕ) → low < 2 ^ 32 → nat_lt low (2 ^ 32) ≡ true
small low h = grind (arith, nat_tests)

module _ (d : Design) where
  -- ---- no operand

  pub typed_number : (w n : ℕ) → is_typed d (e.Number w n) ≡ (is_width w && nat_lt n (2 ^ w))
  typed_number w n = folds.para-Number Bool Bool (node_typed d) index_typed w n

  pub width_number : (w n : ℕ) → w ≡ width_of d (e.Number w n)
  width_number w n = sym (folds.fold-Number ℕ ℕ (node_width d) index_width w n)

  pub depth_number : (w n : ℕ) → 1 ≡ depth (e.Number w n)
  depth_number w n = sym (folds.fold-Number ℕ ℕ node_depth of_index w n)

  pub typed_var : (v : ℕ) → is_typed d (e.Var v) ≡ (nat_lt v (length d.vars) && (var_of d v).words == 1)
  typed_var v = folds.para-Var Bool Bool (node_typed d) index_typed v

  pub width_var : (v : ℕ) → (var_of d v).width ≡ width_of d (e.Var v)
  width_var v = sym (folds.fold-Var ℕ ℕ (node_width d) index_width v)

  pub depth_var : (v : ℕ) → 1 ≡ depth (e.Var v)
  depth_var v = sym (folds.fold-Var ℕ ℕ node_depth of_index v)

  -- ---- one operand

  index_is : (low : ℕ) (signed : Bool) (x : Typed) (w n : ℕ) → Operand d x w n → low < 2 ^ 32 → is_index d (index low signed x) ≡ true
  index_is low signed x w n o less =
      folds.para-index Bool Bool (node_typed d) index_typed low signed x ∙ ap (λ b. b && is_typed d x) (small low less) ∙ o.typed

  index_deep : (low : ℕ) (signed : Bool) (x : Typed) → fold-Index ℕ ℕ node_depth of_index (index low signed x) ≡ depth x
  index_deep low signed x = folds.fold-index ℕ ℕ node_depth of_index low signed x

  pub typed_word : (v low : ℕ) (signed : Bool) (x : Typed) (w n : ℕ) → Operand d x w n → low < 2 ^ 32
      → is_typed d (e.Word v (index low signed x)) ≡ nat_lt v (length d.vars)
  typed_word v low signed x w n o less =
      folds.para-Word Bool Bool (node_typed d) index_typed v (index low signed x)
      ∙ ap (λ b. is_var d v && b) (index_is low signed x w n o less) ∙ and_true (is_var d v)

  pub width_word : (v low : ℕ) (signed : Bool) (x : Typed) → (var_of d v).width ≡ width_of d (e.Word v (index low signed x))
  width_word v low signed x = sym (folds.fold-Word ℕ ℕ (node_width d) index_width v (index low signed x))

  pub depth_word : (v low : ℕ) (signed : Bool) (x : Typed) (w n : ℕ) → Operand d x w n → n + 1 ≡ depth (e.Word v (index low signed x))
  depth_word v low signed x w n o =
      let whole = folds.fold-Word ℕ ℕ node_depth of_index v (index low signed x) in
      let at = index_deep low signed x in
      let deep = o.deep in
      omega arith

  pub typed_zeros : (v : ℕ) (x : Typed) (w n : ℕ) → Operand d x w n → is_typed d (e.ZeroExtend v x) ≡ (is_width v && nat_le w v)
  typed_zeros v x w n o =
      folds.para-ZeroExtend Bool Bool (node_typed d) index_typed v x ∙ ap (λ b. is_width v && b && nat_le (width_of d x) v) o.typed
      ∙ ap (λ b. b && nat_le (width_of d x) v) (and_true (is_width v)) ∙ ap (λ u. is_width v && nat_le u v) (sym o.width)

  pub width_zeros : (v : ℕ) (x : Typed) → v ≡ width_of d (e.ZeroExtend v x)
  width_zeros v x = sym (folds.fold-ZeroExtend ℕ ℕ (node_width d) index_width v x)

  pub depth_zeros : (v : ℕ) (x : Typed) (w n : ℕ) → Operand d x w n → n + 1 ≡ depth (e.ZeroExtend v x)
  depth_zeros v x w n o = let whole = folds.fold-ZeroExtend ℕ ℕ node_depth of_index v x in let deep = o.deep in omega arith

  pub typed_signs : (v : ℕ) (x : Typed) (w n : ℕ) → Operand d x w n → is_typed d (e.SignExtend v x) ≡ (is_width v && nat_le w v)
  typed_signs v x w n o =
      folds.para-SignExtend Bool Bool (node_typed d) index_typed v x ∙ ap (λ b. is_width v && b && nat_le (width_of d x) v) o.typed
      ∙ ap (λ b. b && nat_le (width_of d x) v) (and_true (is_width v)) ∙ ap (λ u. is_width v && nat_le u v) (sym o.width)

  pub width_signs : (v : ℕ) (x : Typed) → v ≡ width_of d (e.SignExtend v x)
  width_signs v x = sym (folds.fold-SignExtend ℕ ℕ (node_width d) index_width v x)

  pub depth_signs : (v : ℕ) (x : Typed) (w n : ℕ) → Operand d x w n → n + 1 ≡ depth (e.SignExtend v x)
  depth_signs v x w n o = let whole = folds.fold-SignExtend ℕ ℕ node_depth of_index v x in let deep = o.deep in omega arith

  pub typed_cut : (v : ℕ) (x : Typed) (w n : ℕ) → Operand d x w n → is_typed d (e.Truncate v x) ≡ (is_width v && nat_le v w)
  typed_cut v x w n o =
      folds.para-Truncate Bool Bool (node_typed d) index_typed v x ∙ ap (λ b. is_width v && b && nat_le v (width_of d x)) o.typed
      ∙ ap (λ b. b && nat_le v (width_of d x)) (and_true (is_width v)) ∙ ap (λ u. is_width v && nat_le v u) (sym o.width)

  pub width_cut : (v : ℕ) (x : Typed) → v ≡ width_of d (e.Truncate v x)
  width_cut v x = sym (folds.fold-Truncate ℕ ℕ (node_width d) index_width v x)

  pub depth_cut : (v : ℕ) (x : Typed) (w n : ℕ) → Operand d x w n → n + 1 ≡ depth (e.Truncate v x)
  depth_cut v x w n o = let whole = folds.fold-Truncate ℕ ℕ node_depth of_index v x in let deep = o.deep in omega arith

  pub typed_unary : (op : TypedUnary) (x : Typed) (w n : ℕ) → Operand d x w n → is_typed d (e.Unary op x) ≡ true
  typed_unary op x w n o = folds.para-Unary Bool Bool (node_typed d) index_typed op x ∙ o.typed

  pub width_unary : (op : TypedUnary) (x : Typed) (w n : ℕ) → Operand d x w n → unary_width op w ≡ width_of d (e.Unary op x)
  width_unary op x w n o = ap (unary_width op) o.width ∙ sym (folds.fold-Unary ℕ ℕ (node_width d) index_width op x)

  pub depth_unary : (op : TypedUnary) (x : Typed) (w n : ℕ) → Operand d x w n → n + 1 ≡ depth (e.Unary op x)
  depth_unary op x w n o = let whole = folds.fold-Unary ℕ ℕ node_depth of_index op x in let deep = o.deep in omega arith

  pub typed_repeat : (c : ℕ) (x : Typed) (w n : ℕ) → Operand d x w n → is_typed d (e.Repeat c x) ≡ is_width (c * w)
  typed_repeat c x w n o =
      folds.para-Repeat Bool Bool (node_typed d) index_typed c x ∙ ap (λ b. b && is_width (c * width_of d x)) o.typed ∙ ap (λ u. is_width (c * u)) (sym o.width)

  pub width_repeat : (c : ℕ) (x : Typed) (w n : ℕ) → Operand d x w n → c * w ≡ width_of d (e.Repeat c x)
  width_repeat c x w n o = ap (λ u. c * u) o.width ∙ sym (folds.fold-Repeat ℕ ℕ (node_width d) index_width c x)

  pub depth_repeat : (c : ℕ) (x : Typed) (w n : ℕ) → Operand d x w n → n + 1 ≡ depth (e.Repeat c x)
  depth_repeat c x w n o = let whole = folds.fold-Repeat ℕ ℕ node_depth of_index c x in let deep = o.deep in omega arith

  -- ---- two operands and three

  pub typed_part : (v low : ℕ) (signed : Bool) (x y : Typed) (w n u m : ℕ) → Operand d x w n → Operand d y u m → low < 2 ^ 32
      → is_typed d (e.Part v x (index low signed y)) ≡ is_width v
  typed_part v low signed x y w n u m o p less =
      folds.para-Part Bool Bool (node_typed d) index_typed v x (index low signed y)
      ∙ ap (λ b. is_width v && b && is_index d (index low signed y)) o.typed ∙ ap (λ b. (is_width v && true) && b) (index_is low signed y u m p less)
      ∙ and_true (is_width v && true) ∙ and_true (is_width v)

  pub width_part : (v low : ℕ) (signed : Bool) (x y : Typed) → v ≡ width_of d (e.Part v x (index low signed y))
  width_part v low signed x y = sym (folds.fold-Part ℕ ℕ (node_width d) index_width v x (index low signed y))

  pub depth_part : (v low : ℕ) (signed : Bool) (x y : Typed) (w n u m : ℕ) → Operand d x w n → Operand d y u m
      → max n m + 1 ≡ depth (e.Part v x (index low signed y))
  depth_part v low signed x y w n u m o p =
      let whole = folds.fold-Part ℕ ℕ node_depth of_index v x (index low signed y) in
      let at = index_deep low signed y in
      let deep = o.deep in
      let other = p.deep in
      omega arith

  pub typed_binary : (op : TypedBinary) (x y : Typed) (w n u m : ℕ) → Operand d x w n → Operand d y u m
      → is_typed d (e.Binary op x y) ≡ (is_shift op || w == u)
  typed_binary op x y w n u m o p =
      folds.para-Binary Bool Bool (node_typed d) index_typed op x y
      ∙ ap (λ b. b && is_typed d y && (is_shift op || same_width d x y)) o.typed ∙ ap (λ b. b && (is_shift op || same_width d x y)) p.typed
      ∙ ap (λ k. is_shift op || k == width_of d y) (sym o.width) ∙ ap (λ k. is_shift op || w == k) (sym p.width)

  pub width_binary : (op : TypedBinary) (x y : Typed) (w n : ℕ) → Operand d x w n → binary_width op w ≡ width_of d (e.Binary op x y)
  width_binary op x y w n o = ap (binary_width op) o.width ∙ sym (folds.fold-Binary ℕ ℕ (node_width d) index_width op x y)

  pub depth_binary : (op : TypedBinary) (x y : Typed) (w n u m : ℕ) → Operand d x w n → Operand d y u m → max n m + 1 ≡ depth (e.Binary op x y)
  depth_binary op x y w n u m o p =
      let whole = folds.fold-Binary ℕ ℕ node_depth of_index op x y in let deep = o.deep in let other = p.deep in omega arith

  pub typed_join : (x y : Typed) (w n u m : ℕ) → Operand d x w n → Operand d y u m → is_typed d (e.Join x y) ≡ is_width (w + u)
  typed_join x y w n u m o p =
      folds.para-Join Bool Bool (node_typed d) index_typed x y
      ∙ ap (λ b. b && is_typed d y && is_width (width_of d x + width_of d y)) o.typed ∙ ap (λ b. b && is_width (width_of d x + width_of d y)) p.typed
      ∙ ap (λ k. is_width (k + width_of d y)) (sym o.width) ∙ ap (λ k. is_width (w + k)) (sym p.width)

  pub width_join : (x y : Typed) (w n u m : ℕ) → Operand d x w n → Operand d y u m → w + u ≡ width_of d (e.Join x y)
  width_join x y w n u m o p =
      ap (λ k. k + u) o.width ∙ ap (λ k. width_of d x + k) p.width ∙ sym (folds.fold-Join ℕ ℕ (node_width d) index_width x y)

  pub depth_join : (x y : Typed) (w n u m : ℕ) → Operand d x w n → Operand d y u m → max n m + 1 ≡ depth (e.Join x y)
  depth_join x y w n u m o p =
      let whole = folds.fold-Join ℕ ℕ node_depth of_index x y in let deep = o.deep in let other = p.deep in omega arith

  pub typed_choice : (x y z : Typed) (w n u m v k : ℕ) → Operand d x w n → Operand d y u m → Operand d z v k
      → is_typed d (e.Choose x y z) ≡ (w == 1 && u == v)
  typed_choice x y z w n u m v k o p q =
      folds.para-Choose Bool Bool (node_typed d) index_typed x y z
      ∙ ap (λ b. b && width_of d x == 1 && is_typed d y && is_typed d z && same_width d y z) o.typed
      ∙ ap (λ b. (width_of d x == 1) && b && is_typed d z && same_width d y z) p.typed
      ∙ ap (λ b. ((width_of d x == 1) && true) && b && same_width d y z) q.typed
      ∙ ap (λ b. b && same_width d y z) (and_true ((width_of d x == 1) && true) ∙ and_true (width_of d x == 1))
      ∙ ap (λ i. (i == 1) && same_width d y z) (sym o.width)
      ∙ ap (λ i. (w == 1) && i == width_of d z) (sym p.width) ∙ ap (λ i. (w == 1) && u == i) (sym q.width)

  pub width_choice : (x y z : Typed) (u m : ℕ) → Operand d y u m → u ≡ width_of d (e.Choose x y z)
  width_choice x y z u m p = p.width ∙ sym (folds.fold-Choose ℕ ℕ (node_width d) index_width x y z)

  pub depth_choice : (x y z : Typed) (w n u m v k : ℕ) → Operand d x w n → Operand d y u m → Operand d z v k
      → max n (max m k) + 1 ≡ depth (e.Choose x y z)
  depth_choice x y z w n u m v k o p q =
      let whole = folds.fold-Choose ℕ ℕ node_depth of_index x y z in
      let first = o.deep in
      let second = p.deep in
      let third = q.deep in
      omega arith

-- ---- the variable of a number

pub variable_found : (vars : List Var) (v : ℕ) (x other : Var) → slice_get vars v ≡ Some x → (nat_lt v (length vars) ≡ true) × (slice_index_or vars v other ≡ x)
variable_found vars v x other h = (within v (length vars) (slice_get_within vars v x h), get_or_from_slice_get vars v x other h)
  where
    within : (a b : ℕ) → a < b → nat_lt a b ≡ true
    within a b h = grind (arith, nat_tests)

pub variable_none : (vars : List Var) (v : ℕ) (other : Var) → slice_get vars v ≡ None → nat_lt v (length vars) ≡ false
variable_none vars v other h = elim (cases_Bool (nat_lt v (length vars))) [
  | inl less ↦ absurd (clash (sym h ∙ slice_get-get_or vars v other (within v (length vars) less)))
  | inr more ↦ more
]
  where
    clash : {x : Var} → None ≡ Some x → ⊥
    clash p = cc

    within : (a b : ℕ) → nat_lt a b ≡ true → a < b
    within a b h = grind (arith, nat_tests)
