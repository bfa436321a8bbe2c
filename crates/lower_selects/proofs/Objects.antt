-- Variables and their selects.
use Rattle.std.proofs.Common.{◌≡◌, ◌∙◌, sym, ap, ap₂, refl, subst, ℕ, ◌≤◌, Bool, true, false, not, ◌&&◌, ◌||◌, if◌then◌else◌, List, Result, Ok, Err, Some, arith, pos}
use Rattle.std.specs.Prelude.{nat_le, slice_get, IfOk}
use Rattle.std.specs.declared.alloc.AllocError.{AllocError}
use Rattle.elab_types.specs.declared.flat_source.FlatVar.{FlatVar}
use Rattle.elab_types.specs.declared.flat_expression.FlatExpr.{FlatExpr}
use Rattle.elab_types.specs.declared.flat_expression.FlatExpr.TheVariants as e
use Rattle.elab_types.specs.declared.flat_expression.FlatExpr.TheOpen as x
use Rattle.elab_types.specs.declared.flat_expression.FlatSelect.{FlatSelect}
use Rattle.elab_types.specs.declared.flat_expression.FlatSelect.TheVariants as select
use Rattle.design_tree.specs.declared.typed.Typed.{Typed}
use Rattle.design_tree.specs.declared.typed.Typed.TheVariants as t
use Rattle.source_meaning.specs.Meaning.{Meaning, whole, word, part}
use Rattle.source_meaning.specs.Environment.{named}
use Rattle.source_meaning.specs.Selects.{Selection, at, between, up, down, width_of, position, select_variable, selected, meaning_of_object, object_or_none, less}
use Rattle.flat_meaning.specs.Expressions.{meaning, found, variable_of}
use Rattle.flat_meaning.specs.Faults.{Checked, CheckedSelection, checked, checked_node, check, stands, can_select, has_bits, is_plain, base_selects}
use Rattle.flat_meaning.proofs.Meanings as of
use Rattle.flat_meaning.proofs.Meanings.{selection_of}
use Rattle.typed_form.specs.Nodes.{widened}
use Rattle.typed_form.specs.TypedExpressions.{IsVariable, IsTyped, IsSelect, size, signed, index}
use Rattle.typed_form.specs.TypedExpressions as typed
use Rattle.lower_forms.specs.declared.form.Form.TheVariants as f
use Rattle.lower_forms.specs.declared.sized.SizedForm.{SizedForm}
use Rattle.lower_meaning.specs.SoundSources.{IsSoundVariable}
use Rattle.lower_meaning.proofs.CheckFolds as folds
use Rattle.lower_meaning.proofs.CheckFolds.{check_select}
use Rattle.lower_nodes.specs.declared.fault.ExpressionFault.{ExpressionFault}
use Rattle.lower_nodes.specs.declared.fault.ExpressionFault.TheVariants.{BadSelect}
use Rattle.lower_nodes.specs.Faults.{both, kept}
use Rattle.lower_nodes.specs.Operators.{own, Is}
use Rattle.lower_nodes.specs.Reads.{Gives, IsForm, Lowers}
use Rattle.lower_nodes.proofs.Flags.{and_true, at_flags, gives_both, made_gives, other_fault}
use Rattle.lower_nodes.proofs.Forms.{alone_is, own_typed}
use Rattle.lower_selects.specs.declared.width.Width.{Width}
use Rattle.lower_selects.specs.declared.position.Position.{Position}
use Rattle.lower_selects.specs.Objects as spec
use Rattle.lower_selects.specs.Objects.{is_vector, IsPart}
use Rattle.lower_selects.specs.Places.{IsPlace, Places}
use Rattle.lower_selects.specs.Widths.{IsWidth}

abbrev pub Reading : Type 0
Reading = Result SizedForm ExpressionFault

abbrev pub Placing : Type 0
Placing = Result Position ExpressionFault

abbrev pub Made : Type 0
Made = Result SizedForm AllocError

fits : (n : ℕ) → n ≤ 128 → nat_le n 128 ≡ true
fits n h = grind (arith)

module _ (vars : List FlatVar) where
  -- ---- variables

  -- what a variable is as a meaning
  abbrev pub Whole : ℕ → FlatVar → Meaning
  Whole k v = meaning_of_object (whole (variable_of k v))

  pub var_means : (k : ℕ) (v : FlatVar) → slice_get vars k ≡ Some v → meaning vars (e.Var k) ≡ Whole k v
  var_means k v h = of.of-Var vars k ∙ ap (λ o. named (found k o)) h

  pub var_checked : (k : ℕ) (v : FlatVar) → slice_get vars k ≡ Some v → check vars (e.Var k) ≡ checked (Whole k v) true true
  var_checked k v h = folds.checked-Var vars k ∙ ap (λ o. checked (named (found k o)) true true) h

  pub memory_alone : (k : ℕ) (v : FlatVar) → slice_get vars k ≡ Some v → v.memory ≡ true → Lowers vars (e.Var k) (Err BadSelect)
  memory_alone k v h m = ap (λ c. c.selects) (var_checked k v h) ∙ ap not m

  pub wide_variable : (k : ℕ) (v : FlatVar) (r : Result Width ExpressionFault) (g : ExpressionFault) → IsSoundVariable v → r ≡ Err g → IsWidth v.width r
      → Lowers vars (e.Var k) (Err g)
  wide_variable k v r g s i h =
      let P : Result Width ExpressionFault → Type 0 = IsWidth v.width in
      absurd (subst P i h s.some_bits s.few_bits)

  var_form : (k : ℕ) (v : FlatVar) (y : SizedForm) → IsVariable vars k false v → Is v.width v.signed (f.Alone v.width (t.Var k)) y → IsForm vars (e.Var k) y
  var_form k v y h is =
      alone_is vars (e.Var k) v.width v.signed (t.Var k) y is (sym (ap (λ m. m.size) (var_means k v h.0)))
      (sym (ap (λ m. m.signed) (var_means k v h.0))) (λ n b. typed.var h)

  pub variable_reads : (k : ℕ) (v : FlatVar) (r : Result Width ExpressionFault) (w : Width) (y : SizedForm) → slice_get vars k ≡ Some v → v.memory ≡ false
      → IsSoundVariable v → r ≡ Ok w → IsWidth v.width r → Is w.bits v.signed (f.Alone w.bits (t.Var k)) y → Lowers vars (e.Var k) (Ok y)
  variable_reads k v r w y h m s i g is =
      let P : Result Width ExpressionFault → Type 0 = IsWidth v.width in
      let width : w.bits ≡ v.width = subst P i g in
      let Q : ℕ → Type 0 = λ n. Is n v.signed (f.Alone n (t.Var k)) y in (
        ap (λ c. c.selects) (var_checked k v h) ∙ ap not m,
        ap (λ c. c.sizes) (var_checked k v h) ∙ fits v.width s.few_bits,
        var_form k v y (h, m) (subst Q width is),
      )

  -- ---- selects of a variable

  -- a select of a variable that is a memory or not, whose size is small or not
  abbrev node : ℕ → FlatVar → Bool → Bool → CheckedSelection → Checked
  node k v memory small c =
      checked (object_or_none (select_variable (variable_of k v) memory c.selection))
      ((not memory || not (not memory)) && c.selects && (if memory then is_plain c.selection else (is_vector v && has_bits c.selection)))
      (small && c.sizes)

  var_select : (k : ℕ) (v : FlatVar) (s : FlatSelect) (memory : Bool) → slice_get vars k ≡ Some v → IsSoundVariable v → v.memory ≡ memory
      → check vars (e.Select (e.Var k) s) ≡ node k v memory true (check_select vars s)
  var_select k v s memory h sound m =
      folds.checked-Select vars (e.Var k) s
      ∙ ap (λ a. checked_node vars (x.Select a (check_select vars s))) (var_checked k v h)
      ∙ ap₂ (λ b z. node k v b z (check_select vars s)) m (fits v.width sound.few_bits)

  select_means : (k : ℕ) (v : FlatVar) (s : FlatSelect) (memory : Bool) → slice_get vars k ≡ Some v → v.memory ≡ memory
      → meaning vars (e.Select (e.Var k) s) ≡ object_or_none (select_variable (variable_of k v) memory (selection_of vars s))
  select_means k v s memory h m =
      of.of-Select vars (e.Var k) s ∙ ap (λ a. selected a (selection_of vars s)) (var_means k v h)
      ∙ ap (λ b. object_or_none (select_variable (variable_of k v) b (selection_of vars s))) m

  -- the form of a select
  selected_form : (a : FlatExpr) (s : FlatSelect) (n : ℕ) (g : Bool) (z : Typed) (y : SizedForm) → Is n g (f.Alone n z) y → n ≡ size vars (e.Select a s)
      → g ≡ signed vars (e.Select a s) → IsSelect vars a s z → IsForm vars (e.Select a s) y
  selected_form a s n g z y is wide q h =
      alone_is vars (e.Select a s) n g z y is wide q
      (λ m b. subst (λ w. IsTyped vars (e.Select a s) m b (widened w m b z)) (sym wide) (typed.selected h))

  -- ---- bits of a variable

  pub part_means : (k : ℕ) (v : FlatVar) (s : FlatSelect) → IsVariable vars k false v → meaning vars (e.Select (e.Var k) s)
      ≡ meaning_of_object (part (variable_of k v) (position v.low (selection_of vars s)) (width_of (selection_of vars s)))
  part_means k v s h = select_means k v s false h.0 h.1

  part_flags : (a v h : Bool) → v ≡ true → ((a && (v && h)) && true) ≡ (a && h)
  part_flags a v h e = and_true (a && (v && h)) ∙ ap (λ z. a && (z && h)) e

  part_form : (k : ℕ) (v : FlatVar) (s : FlatSelect) (p : Position) (m : Made) → IsVariable vars k false v → IsPlace vars v.low s p
      → IfOk m (λ y. IsPart (t.Var k) p y) → IfOk m (IsForm vars (e.Select (e.Var k) s))
  part_form k v s p (Ok y) h l is =
      selected_form (e.Var k) s p.width.bits false (t.Part p.width.bits (t.Var k) p.at) y is (l.width ∙ sym (ap (λ m. m.size) (part_means k v s h)))
      (sym (ap (λ m. m.signed) (part_means k v s h))) (typed.part h l.place)
  part_form k v s p (Err g) h l is = tt

  -- what is refused of bits of a vector is what is refused of their place
  pub part_gives : {A : Type 0} (P : A → Type 0) (k : ℕ) (v : FlatVar) (s : FlatSelect) (r : Result A ExpressionFault) → IsVariable vars k false v
      → IsSoundVariable v → is_vector v ≡ true
      → Gives ((check_select vars s).selects && has_bits (check_select vars s).selection)
      ((check_select vars s).sizes && nat_le (width_of (check_select vars s).selection) 128) P r
      → Gives (check vars (e.Select (e.Var k) s)).selects (check vars (e.Select (e.Var k) s)).sizes P r
  part_gives P k v s r h sound vector g =
      let c = check_select vars s in
      let whole = var_select k v s false h.0 sound h.1 in
      at_flags P (c.selects && has_bits c.selection) (c.sizes && nat_le (width_of c.selection) 128)
      (check vars (e.Select (e.Var k) s)).selects (check vars (e.Select (e.Var k) s)).sizes r
      (sym (ap (λ q. q.selects) whole ∙ part_flags c.selects (is_vector v) (has_bits c.selection) vector)) (sym (ap (λ q. q.sizes) whole)) g

  pub part_reads : (k : ℕ) (v : FlatVar) (s : FlatSelect) (place : Placing) (p : Position) (m : Made) (r : Reading) → IsVariable vars k false v
      → IsSoundVariable v → is_vector v ≡ true → place ≡ Ok p → Places vars v.low s place → IfOk m (λ y. IsPart (t.Var k) p y) → r ≡ kept m
      → Lowers vars (e.Select (e.Var k) s) r
  part_reads k v s place p m r h sound vector i g b l =
      let c = check_select vars s in
      let Q : Placing → Type 0 = Places vars v.low s in
      part_gives (IsForm vars (e.Select (e.Var k) s)) k v s r h sound vector
      (made_gives (IsPlace vars v.low s) (IsForm vars (e.Select (e.Var k) s)) (c.selects && has_bits c.selection)
      (c.sizes && nat_le (width_of c.selection) 128) p m r (subst Q i g) (λ q. part_form k v s p m h q b) l)

  pub part_fails : (k : ℕ) (v : FlatVar) (s : FlatSelect) (place : Placing) (q : ExpressionFault) → IsVariable vars k false v
      → IsSoundVariable v → is_vector v ≡ true → place ≡ Err q → Places vars v.low s place → Lowers vars (e.Select (e.Var k) s) (Err q)
  part_fails k v s place q h sound vector i g =
      let c = check_select vars s in
      let Q : Placing → Type 0 = Places vars v.low s in
      part_gives (IsForm vars (e.Select (e.Var k) s)) k v s (Err q) h sound vector
      (other_fault (IsPlace vars v.low s) (IsForm vars (e.Select (e.Var k) s)) (c.selects && has_bits c.selection)
      (c.sizes && nat_le (width_of c.selection) 128) q (subst Q i g))

  -- ---- words of memories

  abbrev pub Word : ℕ → FlatVar → Meaning → Meaning
  Word k v i = meaning_of_object (word (variable_of k v) (less i (pos v.word_low)))

  pub word_means : (k : ℕ) (v : FlatVar) (i : FlatExpr) → IsVariable vars k true v → meaning vars (e.Select (e.Var k) (select.At i)) ≡ Word k v (meaning vars i)
  word_means k v i h =
      select_means k v (select.At i) true h.0 h.1
      ∙ ap (λ c. object_or_none (select_variable (variable_of k v) true c)) (of.of-At vars i)

  word_checked : (k : ℕ) (v : FlatVar) (i : FlatExpr) → IsVariable vars k true v → IsSoundVariable v → check vars (e.Select (e.Var k) (select.At i))
      ≡ checked (Word k v (check vars i).meaning) ((check vars i).selects && true) (check vars i).sizes
  word_checked k v i h sound = var_select k v (select.At i) true h.0 sound h.1 ∙ ap (node k v true true) (folds.checked-At vars i)

  word_typed : (k : ℕ) (v : FlatVar) (i : FlatExpr) (z : SizedForm) → IsVariable vars k true v → IsForm vars i z
      → IsSelect vars (e.Var k) (select.At i) (spec.word k v.word_low z)
  word_typed k v i z h l =
      subst (λ b. IsSelect vars (e.Var k) (select.At i) (t.Word k (index v.word_low b (own z)))) (sym l.signed) (typed.word h (own_typed vars i z l))

  abbrev pub HasWidth : FlatVar → Width → Type 0
  HasWidth v w = w.bits ≡ v.width

  width_gives : (v : FlatVar) (r : Result Width ExpressionFault) → IsSoundVariable v → IsWidth v.width r → Gives true true (HasWidth v) r
  width_gives v (Ok w) s h = (refl, refl, h)
  width_gives v (Err g) s h = absurd (h s.some_bits s.few_bits)

  abbrev pub Indexed : Type 0
  Indexed = SizedForm × Width

  abbrev pub AreIndexed : FlatExpr → FlatVar → Indexed → Type 0
  AreIndexed i v q = IsForm vars i q.0 × HasWidth v q.1

  pub indexed : (k : ℕ) (v : FlatVar) (i : FlatExpr) (a : Reading) (w : Result Width ExpressionFault) (all y : Result Indexed ExpressionFault)
      → IsVariable vars k true v → IsSoundVariable v → all ≡ both a w → all ≡ y → Lowers vars i a → IsWidth v.width w
      → Gives (check vars (e.Select (e.Var k) (select.At i))).selects (check vars (e.Select (e.Var k) (select.At i))).sizes (AreIndexed i v) y
  indexed k v i a w all y h sound both_is l g j =
      let c = check vars i in
      let whole = word_checked k v i h sound in
      at_flags (AreIndexed i v) (c.selects && true) (c.sizes && true) (check vars (e.Select (e.Var k) (select.At i))).selects
      (check vars (e.Select (e.Var k) (select.At i))).sizes y (sym (ap (λ q. q.selects) whole ∙ and_true (c.selects && true)))
      (sym (ap (λ q. q.sizes) whole ∙ ap (λ z. c.sizes && z) (fits v.width sound.few_bits)))
      (subst (Gives (c.selects && true) (c.sizes && true) (AreIndexed i v)) (sym both_is ∙ l)
      (gives_both (IsForm vars i) (HasWidth v) c.selects c.sizes true true a w g (width_gives v w sound j)))

  abbrev pub IsWordForm : ℕ → FlatVar → Indexed → SizedForm → Type 0
  IsWordForm k v q y = Is q.1.bits v.signed (f.Alone q.1.bits (spec.word k v.word_low q.0)) y

  word_form : (k : ℕ) (v : FlatVar) (i : FlatExpr) (q : Indexed) (m : Made) → IsVariable vars k true v → AreIndexed i v q → IfOk m (λ y. IsWordForm k v q y)
      → IfOk m (IsForm vars (e.Select (e.Var k) (select.At i)))
  word_form k v i q (Ok y) h l is =
      selected_form (e.Var k) (select.At i) q.1.bits v.signed (spec.word k v.word_low q.0) y is (l.1 ∙ sym (ap (λ m. m.size) (word_means k v i h)))
      (sym (ap (λ m. m.signed) (word_means k v i h))) (word_typed k v i q.0 h l.0)
  word_form k v i q (Err g) h l is = tt

  pub word_reads : (k : ℕ) (v : FlatVar) (i : FlatExpr) (a : Reading) (w : Result Width ExpressionFault) (all : Result Indexed ExpressionFault) (q : Indexed)
      (m : Made) (r : Reading) → IsVariable vars k true v → IsSoundVariable v → all ≡ both a w → all ≡ Ok q → Lowers vars i a → IsWidth v.width w
      → IfOk m (λ y. IsWordForm k v q y) → r ≡ kept m → Lowers vars (e.Select (e.Var k) (select.At i)) r
  word_reads k v i a w all q m r h sound j l g b is n =
      made_gives (AreIndexed i v) (IsForm vars (e.Select (e.Var k) (select.At i))) (check vars (e.Select (e.Var k) (select.At i))).selects
      (check vars (e.Select (e.Var k) (select.At i))).sizes q m r (indexed k v i a w all (Ok q) h sound j l g b) (λ z. word_form k v i q m h z is) n

  pub word_fails : (k : ℕ) (v : FlatVar) (i : FlatExpr) (a : Reading) (w : Result Width ExpressionFault) (all : Result Indexed ExpressionFault)
      (q : ExpressionFault) → IsVariable vars k true v → IsSoundVariable v → all ≡ both a w → all ≡ Err q → Lowers vars i a → IsWidth v.width w
      → Lowers vars (e.Select (e.Var k) (select.At i)) (Err q)
  word_fails k v i a w all q h sound j l g b =
      other_fault (AreIndexed i v) (IsForm vars (e.Select (e.Var k) (select.At i))) (check vars (e.Select (e.Var k) (select.At i))).selects
      (check vars (e.Select (e.Var k) (select.At i))).sizes q (indexed k v i a w all (Err q) h sound j l g b)

  -- ---- bits of words

  abbrev pub Inner : ℕ → FlatExpr → FlatExpr
  Inner k i = e.Select (e.Var k) (select.At i)

  pub inner_means : (k : ℕ) (v : FlatVar) (i : FlatExpr) (s : FlatSelect) → IsVariable vars k true v → meaning vars (e.Select (Inner k i) s)
      ≡ selected (Word k v (meaning vars i)) (selection_of vars s)
  inner_means k v i s h = of.of-Select vars (Inner k i) s ∙ ap (λ m. selected m (selection_of vars s)) (word_means k v i h)

  inner_checked : (k : ℕ) (v : FlatVar) (i : FlatExpr) (s : FlatSelect) → IsVariable vars k true v → IsSoundVariable v
      → check vars (e.Select (Inner k i) s)
      ≡ checked_node vars (x.Select (checked (Word k v (check vars i).meaning) ((check vars i).selects && true) (check vars i).sizes) (check_select vars s))
  inner_checked k v i s h sound =
      folds.checked-Select vars (Inner k i) s ∙ ap (λ a. checked_node vars (x.Select a (check_select vars s))) (word_checked k v i h sound)

  inner_selects : (a s v h : Bool) → v ≡ true → ((((((a && true) && true) || false) && s) && (v && h)) && true) ≡ (a && (s && h))
  inner_selects true true v h e = and_true (v && h) ∙ ap (λ z. z && h) e
  inner_selects true false v h e = refl
  inner_selects false s v h e = refl

  inner_sizes : (a z s n : Bool) → z ≡ true → (((a && z) && s) && n) ≡ (a && (s && n))
  inner_sizes true z true n e = ap (λ x. (x && true) && n) e
  inner_sizes true z false n e = ap (λ x. (x && false) && n) e
  inner_sizes false z s n e = refl

  abbrev pub Placed : Type 0
  Placed = SizedForm × Position

  abbrev pub ArePlaced : FlatExpr → FlatVar → FlatSelect → Placed → Type 0
  ArePlaced i v s q = IsForm vars i q.0 × IsPlace vars v.low s q.1

  pub placed : (k : ℕ) (v : FlatVar) (i : FlatExpr) (s : FlatSelect) (a : Reading) (b : Placing) (all y : Result Placed ExpressionFault)
      → IsVariable vars k true v → IsSoundVariable v → is_vector v ≡ true → all ≡ both a b → all ≡ y → Lowers vars i a → Places vars v.low s b
      → Gives (check vars (e.Select (Inner k i) s)).selects (check vars (e.Select (Inner k i) s)).sizes (ArePlaced i v s) y
  placed k v i s a b all y h sound vector j l g o =
      let c = check vars i in
      let d = check_select vars s in
      let whole = inner_checked k v i s h sound in
      let selects = c.selects && (d.selects && has_bits d.selection) in
      let sizes = c.sizes && (d.sizes && nat_le (width_of d.selection) 128) in
      at_flags (ArePlaced i v s) selects sizes (check vars (e.Select (Inner k i) s)).selects (check vars (e.Select (Inner k i) s)).sizes y
      (sym (ap (λ q. q.selects) whole ∙ inner_selects c.selects d.selects (is_vector v) (has_bits d.selection) vector))
      (sym (ap (λ q. q.sizes) whole ∙ inner_sizes c.sizes (nat_le v.width 128) d.sizes (nat_le (width_of d.selection) 128) (fits v.width sound.few_bits)))
      (subst (Gives selects sizes (ArePlaced i v s)) (sym j ∙ l)
      (gives_both (IsForm vars i) (IsPlace vars v.low s) c.selects c.sizes (d.selects && has_bits d.selection)
      (d.sizes && nat_le (width_of d.selection) 128) a b g o))

  word_part_typed : (k : ℕ) (v : FlatVar) (i : FlatExpr) (s : FlatSelect) (q : Placed) → IsVariable vars k true v → ArePlaced i v s q
      → IsSelect vars (Inner k i) s (t.Part q.1.width.bits (spec.word k v.word_low q.0) q.1.at)
  word_part_typed k v i s q h l =
      subst (λ b. IsSelect vars (Inner k i) s (t.Part q.1.width.bits (t.Word k (index v.word_low b (own q.0))) q.1.at)) (sym l.0.signed)
      (typed.word_part k i h (own_typed vars i q.0 l.0) l.1.place)

  word_part_form : (k : ℕ) (v : FlatVar) (i : FlatExpr) (s : FlatSelect) (q : Placed) (m : Made) → IsVariable vars k true v → ArePlaced i v s q
      → IfOk m (λ y. IsPart (spec.word k v.word_low q.0) q.1 y) → IfOk m (IsForm vars (e.Select (Inner k i) s))
  word_part_form k v i s q (Ok y) h l is =
      selected_form (Inner k i) s q.1.width.bits false (t.Part q.1.width.bits (spec.word k v.word_low q.0) q.1.at) y is
      (l.1.width ∙ sym (ap (λ m. m.size) (inner_means k v i s h))) (sym (ap (λ m. m.signed) (inner_means k v i s h))) (word_part_typed k v i s q h l)
  word_part_form k v i s q (Err g) h l is = tt

  pub word_part_reads : (k : ℕ) (v : FlatVar) (i : FlatExpr) (s : FlatSelect) (a : Reading) (b : Placing) (all : Result Placed ExpressionFault) (q : Placed)
      (m : Made) (r : Reading) → IsVariable vars k true v → IsSoundVariable v → is_vector v ≡ true → all ≡ both a b → all ≡ Ok q → Lowers vars i a
      → Places vars v.low s b → IfOk m (λ y. IsPart (spec.word k v.word_low q.0) q.1 y) → r ≡ kept m → Lowers vars (e.Select (Inner k i) s) r
  word_part_reads k v i s a b all q m r h sound vector j l g o is n =
      made_gives (ArePlaced i v s) (IsForm vars (e.Select (Inner k i) s)) (check vars (e.Select (Inner k i) s)).selects
      (check vars (e.Select (Inner k i) s)).sizes q m r (placed k v i s a b all (Ok q) h sound vector j l g o) (λ z. word_part_form k v i s q m h z is) n

  pub word_part_fails : (k : ℕ) (v : FlatVar) (i : FlatExpr) (s : FlatSelect) (a : Reading) (b : Placing) (all : Result Placed ExpressionFault)
      (q : ExpressionFault) → IsVariable vars k true v → IsSoundVariable v → is_vector v ≡ true → all ≡ both a b → all ≡ Err q → Lowers vars i a
      → Places vars v.low s b → Lowers vars (e.Select (Inner k i) s) (Err q)
  word_part_fails k v i s a b all q h sound vector j l g o =
      other_fault (ArePlaced i v s) (IsForm vars (e.Select (Inner k i) s)) (check vars (e.Select (Inner k i) s)).selects
      (check vars (e.Select (Inner k i) s)).sizes q (placed k v i s a b all (Err q) h sound vector j l g o)

  -- ---- what can't be selected

  not_first : (a b d : Bool) → b ≡ false → ((a && b) && d) ≡ false
  not_first true b d h = ap (λ z. z && d) h
  not_first false b d h = refl

  and_not : (b h : Bool) → b ≡ false → (b && h) ≡ false
  and_not b h i = ap (λ z. z && h) i

  -- a part of a memory
  pub no_index : (k : ℕ) (v : FlatVar) (s : FlatSelect) → IsVariable vars k true v → IsSoundVariable v → is_plain (check_select vars s).selection ≡ false
      → Lowers vars (e.Select (e.Var k) s) (Err BadSelect)
  no_index k v s h sound p =
      let c = check_select vars s in
      ap (λ q. q.selects) (var_select k v s true h.0 sound h.1)
      ∙ not_first c.selects (is_plain c.selection) (stands (object_or_none (select_variable (variable_of k v) true c.selection)).objects) p

  -- bits of a scalar
  pub no_bits : (k : ℕ) (v : FlatVar) (s : FlatSelect) → IsVariable vars k false v → IsSoundVariable v → is_vector v ≡ false
      → Lowers vars (e.Select (e.Var k) s) (Err BadSelect)
  no_bits k v s h sound n =
      let c = check_select vars s in
      ap (λ q. q.selects) (var_select k v s false h.0 sound h.1)
      ∙ not_first c.selects (is_vector v && has_bits c.selection) true (and_not (is_vector v) (has_bits c.selection) n)

  -- a select of what has no select
  refused : (a : FlatExpr) (s : FlatSelect) → can_select (check vars a).meaning.objects (check_select vars s).selection ≡ false
      → Lowers vars (e.Select a s) (Err BadSelect)
  refused a s h =
      let b = check vars a in
      let c = check_select vars s in
      ap (λ q. q.selects) (folds.checked-Select vars a s)
      ∙ not_first (base_selects b && c.selects) (can_select b.meaning.objects c.selection) (stands (selected b.meaning c.selection).objects) h

  -- bits of bits
  pub no_more_bits : (k : ℕ) (v : FlatVar) (first s : FlatSelect) → IsVariable vars k false v → IsSoundVariable v
      → Lowers vars (e.Select (e.Select (e.Var k) first) s) (Err BadSelect)
  no_more_bits k v first s h sound =
      refused (e.Select (e.Var k) first) s
      (ap (λ q. can_select q.meaning.objects (check_select vars s).selection) (var_select k v first false h.0 sound h.1))

  no_part : (k : ℕ) (v : FlatVar) (c s : Selection) → is_plain c ≡ false
      → can_select (object_or_none (select_variable (variable_of k v) true c)).objects s ≡ false
  no_part k v (at i) s h = cc
  no_part k v (between a b) s h = refl
  no_part k v (up a b) s h = refl
  no_part k v (down a b) s h = refl

  -- bits of a part of a memory
  pub no_word : (k : ℕ) (v : FlatVar) (first s : FlatSelect) → IsVariable vars k true v → IsSoundVariable v
      → is_plain (check_select vars first).selection ≡ false → Lowers vars (e.Select (e.Select (e.Var k) first) s) (Err BadSelect)
  no_word k v first s h sound p =
      refused (e.Select (e.Var k) first) s
      (ap (λ q. can_select q.meaning.objects (check_select vars s).selection) (var_select k v first true h.0 sound h.1)
      ∙ no_part k v (check_select vars first).selection (check_select vars s).selection p)

  -- bits of a word of scalars
  pub no_word_bits : (k : ℕ) (v : FlatVar) (i : FlatExpr) (s : FlatSelect) → IsVariable vars k true v → IsSoundVariable v → is_vector v ≡ false
      → Lowers vars (e.Select (Inner k i) s) (Err BadSelect)
  no_word_bits k v i s h sound n =
      refused (Inner k i) s
      (ap (λ q. can_select q.meaning.objects (check_select vars s).selection) (word_checked k v i h sound)
      ∙ and_not (is_vector v) (has_bits (check_select vars s).selection) n)

  -- selects that are no index
  pub between_part : (h l : FlatExpr) → is_plain (check_select vars (select.Between h l)).selection ≡ false
  between_part h l = ap (λ c. is_plain c.selection) (folds.checked-Between vars h l)

  pub up_part : (i n : FlatExpr) → is_plain (check_select vars (select.Up i n)).selection ≡ false
  up_part i n = ap (λ c. is_plain c.selection) (folds.checked-Up vars i n)

  pub down_part : (i n : FlatExpr) → is_plain (check_select vars (select.Down i n)).selection ≡ false
  down_part i n = ap (λ c. is_plain c.selection) (folds.checked-Down vars i n)
