-- The places of selects.
use Rattle.std.proofs.Common.{◌≡◌, ◌∙◌, sym, ap, ap₂, subst, ℕ, zero, suc, ◌+◌, ◌-◌, ◌≤◌, Bool, true, false, ◌&&◌, List, Result, Ok, Err, arith, pos, int_le}
use Rattle.std.specs.Prelude.{nat_le, IfOk}
use Rattle.std.specs.declared.alloc.AllocError.{AllocError}
use Rattle.elab_types.specs.declared.flat_source.FlatVar.{FlatVar}
use Rattle.elab_types.specs.declared.flat_expression.FlatExpr.{FlatExpr}
use Rattle.elab_types.specs.declared.flat_expression.FlatSelect.{FlatSelect}
use Rattle.elab_types.specs.declared.flat_expression.FlatSelect.TheVariants as select
use Rattle.design_tree.specs.declared.typed.Index.{Index}
use Rattle.design_tree.specs.declared.typed.Typed.{Typed}
use Rattle.design_tree.specs.declared.typed.Typed.TheVariants as t
use Rattle.source_meaning.specs.Meaning.{Meaning, fixed_value, fixed_integer, at_least_0}
use Rattle.source_meaning.specs.Selects.{width_of}
use Rattle.scope_meaning.specs.Constants.{is_wrong}
use Rattle.flat_meaning.specs.Expressions.{meaning}
use Rattle.flat_meaning.specs.Faults.{Checked, check, has_bits}
use Rattle.flat_meaning.proofs.Meanings as of
use Rattle.flat_meaning.proofs.Meanings.{selection_of}
use Rattle.flat_constants.specs.declared.value.FixedValue.{FixedValue}
use Rattle.flat_constants.specs.Values.{IsValue}
use Rattle.typed_form.specs.TypedExpressions.{IsPosition, IsTypedAlone, index, size, signed}
use Rattle.typed_form.specs.TypedExpressions as typed
use Rattle.lower_forms.specs.declared.sized.SizedForm.{SizedForm}
use Rattle.lower_meaning.specs.Constants.{said, is_right}
use Rattle.lower_meaning.proofs.CheckFolds as folds
use Rattle.lower_meaning.proofs.CheckFolds.{check_select}
use Rattle.lower_meaning.proofs.CheckMeans.{check_means}
use Rattle.lower_meaning.proofs.RightLaws.{right}
use Rattle.lower_nodes.specs.declared.fault.ExpressionFault.{ExpressionFault}
use Rattle.lower_nodes.specs.Faults.{both, kept}
use Rattle.lower_nodes.specs.Operators.{own}
use Rattle.lower_nodes.specs.Reads.{Gives, IsForm, Lowers}
use Rattle.lower_nodes.proofs.Flags.{and_true, at_flags, gives_both, made_gives, other_fault}
use Rattle.lower_nodes.proofs.Forms.{own_typed}
use Rattle.lower_nodes.proofs.Others.{not_wrong}
use Rattle.lower_selects.specs.declared.width.Width.{Width}
use Rattle.lower_selects.specs.declared.position.Position.{Position}
use Rattle.lower_selects.specs.Places.{GivesWidth, GivesRange, IsRange, numbers, Begins, BeginsAt, IsPlace, Places}
use Rattle.lower_selects.proofs.Widths.{order_is}

abbrev pub Made : Type 0
Made = Result Position AllocError

abbrev pub Placing : Type 0
Placing = Result Position ExpressionFault

abbrev pub Reading : Type 0
Reading = Result SizedForm ExpressionFault

module _ (vars : List FlatVar) (low : ℕ) where
  -- a place by its width and its position
  place_is : (s : FlatSelect) (k : ℕ) (a : Index) (p : Position) → p.width.bits ≡ k → p.at ≡ a → k ≡ width_of (selection_of vars s)
      → IsPosition vars low s k a → IsPlace vars low s p
  place_is s k a p w e l h = record {
    width = w ∙ l;
    place = subst (λ n. IsPosition vars low s n p.at) (sym w) (subst (IsPosition vars low s k) (sym e) h);
  }

  -- what reads the place of a select, where what is refused of it is known
  abbrev Flagged : FlatSelect → Bool → Bool → Type 0
  Flagged s selects sizes =
      (selects ≡ ((check_select vars s).selects && has_bits (check_select vars s).selection))
      × (sizes ≡ ((check_select vars s).sizes && nat_le (width_of (check_select vars s).selection) 128))

  reads : {A : Type 0} (P : A → Type 0) (s : FlatSelect) (b z : Bool) (x : A) (m : Made) (r : Placing) → Flagged s b z → Gives b z P (Ok x)
      → (P x → IfOk m (IsPlace vars low s)) → r ≡ kept m → Places vars low s r
  reads P s b z x m r f g k i =
      at_flags (IsPlace vars low s) b z ((check_select vars s).selects && has_bits (check_select vars s).selection)
      ((check_select vars s).sizes && nat_le (width_of (check_select vars s).selection) 128) r f.0 f.1
      (made_gives P (IsPlace vars low s) b z x m r g k i)

  fails : {A : Type 0} (P : A → Type 0) (s : FlatSelect) (b z : Bool) (g : ExpressionFault) → Flagged s b z → Gives b z P (Err g)
      → Places vars low s (Err g)
  fails P s b z g f h =
      at_flags (IsPlace vars low s) b z ((check_select vars s).selects && has_bits (check_select vars s).selection)
      ((check_select vars s).sizes && nat_le (width_of (check_select vars s).selection) 128) (Err g) f.0 f.1
      (other_fault P (IsPlace vars low s) b z g h)

  -- the position of a form
  index_is : (i : FlatExpr) (x : SizedForm) (l : ℕ) → IsForm vars i x → index l x.signed (own x) ≡ index l (signed vars i) (own x)
  index_is i x l k = ap (λ b. index l b (own x)) k.signed

  -- ---- `[i]`

  at_flagged : (i : FlatExpr) → Flagged (select.At i) (check vars i).selects (check vars i).sizes
  at_flagged i = (
    sym (ap (λ c. c.selects && has_bits c.selection) (folds.checked-At vars i) ∙ and_true (check vars i).selects),
    sym (ap (λ c. c.sizes && nat_le (width_of c.selection) 128) (folds.checked-At vars i) ∙ and_true (check vars i).sizes),
  )

  at_place : (i : FlatExpr) (x : SizedForm) (m : Made) → IsForm vars i x → IfOk m (λ p. Begins low 1 x p) → IfOk m (IsPlace vars low (select.At i))
  at_place i x (Ok p) k b =
      place_is (select.At i) 1 (index low (signed vars i) (own x)) p b.width (b.at ∙ index_is i x low k) (sym (ap width_of (of.of-At vars i)))
      (typed.at (own_typed vars i x k))
  at_place i x (Err f) k b = tt

  pub at_reads : (i : FlatExpr) (y : Reading) (x : SizedForm) (m : Made) (r : Placing) → y ≡ Ok x → Lowers vars i y → IfOk m (λ p. Begins low 1 x p)
      → r ≡ kept m → Places vars low (select.At i) r
  at_reads i y x m r e h b l =
      let Q : Reading → Type 0 = Lowers vars i in
      reads (IsForm vars i) (select.At i) (check vars i).selects (check vars i).sizes x m r (at_flagged i) (subst Q e h) (λ k. at_place i x m k b) l

  pub at_fails : (i : FlatExpr) (y : Reading) (g : ExpressionFault) → y ≡ Err g → Lowers vars i y → Places vars low (select.At i) (Err g)
  at_fails i y g e h =
      let Q : Reading → Type 0 = Lowers vars i in
      fails (IsForm vars i) (select.At i) (check vars i).selects (check vars i).sizes g (at_flagged i) (subst Q e h)

  -- ---- `[high : low]`

  calm : (a : FlatExpr) → is_right a ≡ true → is_wrong (said a).wrong ≡ false
  calm a h = not_wrong (is_wrong (said a).wrong) h

  between_flagged : (h l : FlatExpr) → is_right h ≡ true → is_right l ≡ true
      → Flagged (select.Between h l) (int_le (pos 1) (numbers (meaning vars h) (meaning vars l)))
      (nat_le (at_least_0 (numbers (meaning vars h) (meaning vars l))) 128)
  between_flagged h l g k =
      let a = right vars h (calm h g) in
      let b = right vars l (calm l k) in
      let c = check vars h in
      let d = check vars l in (
        sym (ap (λ q. q.selects && has_bits q.selection) (folds.checked-Between vars h l)
            ∙ ap₂ (λ x y. (x && y) && int_le (fixed_integer d.meaning) (fixed_integer c.meaning)) a.selects b.selects
            ∙ ap₂ (λ m n. int_le (fixed_integer n) (fixed_integer m)) (check_means vars h) (check_means vars l)
            ∙ order_is (fixed_integer (meaning vars h)) (fixed_integer (meaning vars l))),
        sym (ap (λ q. q.sizes && nat_le (width_of q.selection) 128) (folds.checked-Between vars h l)
            ∙ ap₂ (λ x y. (x && y) && nat_le (at_least_0 (numbers c.meaning d.meaning)) 128) a.sizes b.sizes
            ∙ ap₂ (λ m n. nat_le (at_least_0 (numbers m n)) 128) (check_means vars h) (check_means vars l)),
      )

  between_typed : (h l : FlatExpr) (k : ℕ) → numbers (meaning vars h) (meaning vars l) ≡ pos k → 1 ≤ k
      → IsPosition vars low (select.Between h l) k (index low (signed vars l) (t.Number (size vars l) (fixed_value (meaning vars l))))
  between_typed h l zero e some = absurd (none some)
    where
      none : 1 ≤ 0 → ⊥
      none q = omega arith
  between_typed h l (suc k) e some = typed.between h l e

  number_is : (l : FlatExpr) (v : FixedValue) → IsValue (meaning vars l) v
      → index low v.signed (t.Number v.value.width v.value.bits) ≡ index low (signed vars l) (t.Number (size vars l) (fixed_value (meaning vars l)))
  number_is l v h =
      ap (λ b. index low b (t.Number v.value.width v.value.bits)) h.signed
      ∙ ap₂ (λ w n. index low (signed vars l) (t.Number w n)) h.width h.number

  between_place : (h l : FlatExpr) (x : Width × FixedValue) (m : Made) → IsRange (meaning vars h) (meaning vars l) x
      → IfOk m (λ p. BeginsAt low x.0.bits x.1 p) → IfOk m (IsPlace vars low (select.Between h l))
  between_place h l x (Ok p) g b =
      place_is (select.Between h l) x.0.bits (index low (signed vars l) (t.Number (size vars l) (fixed_value (meaning vars l)))) p b.width
      (b.at ∙ number_is l x.1 g.value) (sym (ap width_of (of.of-Between vars h l) ∙ ap at_least_0 g.width)) (between_typed h l x.0.bits g.width x.0.some)
  between_place h l x (Err f) g b = tt

  pub between_reads : (h l : FlatExpr) (y : Result (Width × FixedValue) ExpressionFault) (x : Width × FixedValue) (m : Made) (r : Placing)
      → is_right h ≡ true → is_right l ≡ true → y ≡ Ok x → GivesRange (meaning vars h) (meaning vars l) y → IfOk m (λ p. BeginsAt low x.0.bits x.1 p)
      → r ≡ kept m → Places vars low (select.Between h l) r
  between_reads h l y x m r a b e g k i =
      let n = numbers (meaning vars h) (meaning vars l) in
      let Q : Result (Width × FixedValue) ExpressionFault → Type 0 = GivesRange (meaning vars h) (meaning vars l) in
      reads (IsRange (meaning vars h) (meaning vars l)) (select.Between h l) (int_le (pos 1) n) (nat_le (at_least_0 n) 128) x m r (between_flagged h l a b)
      (subst Q e g) (λ w. between_place h l x m w k) i

  pub between_fails : (h l : FlatExpr) (y : Result (Width × FixedValue) ExpressionFault) (g : ExpressionFault) → is_right h ≡ true → is_right l ≡ true
      → y ≡ Err g → GivesRange (meaning vars h) (meaning vars l) y → Places vars low (select.Between h l) (Err g)
  between_fails h l y g a b e k =
      let n = numbers (meaning vars h) (meaning vars l) in
      let Q : Result (Width × FixedValue) ExpressionFault → Type 0 = GivesRange (meaning vars h) (meaning vars l) in
      fails (IsRange (meaning vars h) (meaning vars l)) (select.Between h l) (int_le (pos 1) n) (nat_le (at_least_0 n) 128) g (between_flagged h l a b)
      (subst Q e k)

  -- ---- `[i +: width]` and `[i -: width]`

  abbrev Selects : FlatExpr → FlatExpr → Bool
  Selects i n = (check vars i).selects && int_le (pos 1) (fixed_integer (meaning vars n))

  abbrev Sizes : FlatExpr → FlatExpr → Bool
  Sizes i n = (check vars i).sizes && nat_le (at_least_0 (fixed_integer (meaning vars n))) 128

  abbrev IsWide : FlatExpr → FlatExpr → SizedForm × Width → Type 0
  IsWide i n x = IsForm vars i x.0 × (fixed_integer (meaning vars n) ≡ pos x.1.bits)

  abbrev GiveWide : FlatExpr → FlatExpr → Result (SizedForm × Width) ExpressionFault → Type 0
  GiveWide i n = Gives (Selects i n) (Sizes i n) (IsWide i n)

  wide : (i n : FlatExpr) (a : Reading) (b : Result Width ExpressionFault) (all y : Result (SizedForm × Width) ExpressionFault) → all ≡ both a b → all ≡ y
      → Lowers vars i a → GivesWidth (fixed_integer (meaning vars n)) b → GiveWide i n y
  wide i n a b all y e f h k =
      let z = fixed_integer (meaning vars n) in
      subst (GiveWide i n) (sym e ∙ f)
      (gives_both (IsForm vars i) (λ (w : Width). z ≡ pos w.bits) (check vars i).selects (check vars i).sizes (int_le (pos 1) z) (nat_le (at_least_0 z) 128)
      a b h k)

  -- a count that is a constant has nothing refused
  counted : (a b t : Bool) → b ≡ true → ((a && b) && t) ≡ (a && t)
  counted a b t e = ap (λ x. (a && x) && t) e ∙ ap (λ x. x && t) (and_true a)

  up_flagged : (i n : FlatExpr) → is_right n ≡ true → Flagged (select.Up i n) (Selects i n) (Sizes i n)
  up_flagged i n g =
      let r = right vars n (calm n g) in
      let c = check vars i in
      let d = check vars n in (
        sym (ap (λ q. q.selects && has_bits q.selection) (folds.checked-Up vars i n)
            ∙ counted c.selects d.selects (int_le (pos 1) (fixed_integer d.meaning)) r.selects
            ∙ ap (λ m. c.selects && int_le (pos 1) (fixed_integer m)) (check_means vars n)),
        sym (ap (λ q. q.sizes && nat_le (width_of q.selection) 128) (folds.checked-Up vars i n)
            ∙ counted c.sizes d.sizes (nat_le (at_least_0 (fixed_integer d.meaning)) 128) r.sizes
            ∙ ap (λ m. c.sizes && nat_le (at_least_0 (fixed_integer m)) 128) (check_means vars n)),
      )

  down_flagged : (i n : FlatExpr) → is_right n ≡ true → Flagged (select.Down i n) (Selects i n) (Sizes i n)
  down_flagged i n g =
      let r = right vars n (calm n g) in
      let c = check vars i in
      let d = check vars n in (
        sym (ap (λ q. q.selects && has_bits q.selection) (folds.checked-Down vars i n)
            ∙ counted c.selects d.selects (int_le (pos 1) (fixed_integer d.meaning)) r.selects
            ∙ ap (λ m. c.selects && int_le (pos 1) (fixed_integer m)) (check_means vars n)),
        sym (ap (λ q. q.sizes && nat_le (width_of q.selection) 128) (folds.checked-Down vars i n)
            ∙ counted c.sizes d.sizes (nat_le (at_least_0 (fixed_integer d.meaning)) 128) r.sizes
            ∙ ap (λ m. c.sizes && nat_le (at_least_0 (fixed_integer m)) 128) (check_means vars n)),
      )

  up_typed : (i n : FlatExpr) (k : ℕ) (a : Typed) → fixed_integer (meaning vars n) ≡ pos k → 1 ≤ k → IsTypedAlone vars i a
      → IsPosition vars low (select.Up i n) k (index low (signed vars i) a)
  up_typed i n zero a e some h = absurd (none some)
    where
      none : 1 ≤ 0 → ⊥
      none q = omega arith
  up_typed i n (suc k) a e some h = typed.up n e h

  down_typed : (i n : FlatExpr) (k : ℕ) (a : Typed) → fixed_integer (meaning vars n) ≡ pos k → 1 ≤ k → IsTypedAlone vars i a
      → IsPosition vars low (select.Down i n) k (index ((low + k) - 1) (signed vars i) a)
  down_typed i n zero a e some h = absurd (none some)
    where
      none : 1 ≤ 0 → ⊥
      none q = omega arith
  down_typed i n (suc k) a e some h = typed.down n e h

  up_place : (i n : FlatExpr) (x : SizedForm × Width) (m : Made) → IsWide i n x → IfOk m (λ p. Begins low x.1.bits x.0 p)
      → IfOk m (IsPlace vars low (select.Up i n))
  up_place i n x (Ok p) k b =
      place_is (select.Up i n) x.1.bits (index low (signed vars i) (own x.0)) p b.width (b.at ∙ index_is i x.0 low k.0)
      (sym (ap width_of (of.of-Up vars i n) ∙ ap at_least_0 k.1)) (up_typed i n x.1.bits (own x.0) k.1 x.1.some (own_typed vars i x.0 k.0))
  up_place i n x (Err f) k b = tt

  last_bit : (k : ℕ) → 1 ≤ k → low + (k - 1) ≡ (low + k) - 1
  last_bit k h = omega arith

  down_place : (i n : FlatExpr) (l : ℕ) (x : SizedForm × Width) (m : Made) → l ≡ low + (x.1.bits - 1) → IsWide i n x
      → IfOk m (λ p. Begins l x.1.bits x.0 p) → IfOk m (IsPlace vars low (select.Down i n))
  down_place i n l x (Ok p) e k b =
      place_is (select.Down i n) x.1.bits (index ((low + x.1.bits) - 1) (signed vars i) (own x.0)) p b.width
      (b.at ∙ index_is i x.0 l k.0 ∙ ap (λ z. index z (signed vars i) (own x.0)) (e ∙ last_bit x.1.bits x.1.some))
      (sym (ap width_of (of.of-Down vars i n) ∙ ap at_least_0 k.1)) (down_typed i n x.1.bits (own x.0) k.1 x.1.some (own_typed vars i x.0 k.0))
  down_place i n l x (Err f) e k b = tt

  pub up_reads : (i n : FlatExpr) (a : Reading) (w : Result Width ExpressionFault) (all : Result (SizedForm × Width) ExpressionFault) (x : SizedForm × Width)
      (m : Made) (r : Placing) → is_right n ≡ true → all ≡ both a w → all ≡ Ok x → Lowers vars i a → GivesWidth (fixed_integer (meaning vars n)) w
      → IfOk m (λ p. Begins low x.1.bits x.0 p) → r ≡ kept m → Places vars low (select.Up i n) r
  up_reads i n a w all x m r g e f h k b l =
      reads (IsWide i n) (select.Up i n) (Selects i n) (Sizes i n) x m r (up_flagged i n g) (wide i n a w all (Ok x) e f h k) (λ q. up_place i n x m q b) l

  pub up_fails : (i n : FlatExpr) (a : Reading) (w : Result Width ExpressionFault) (all : Result (SizedForm × Width) ExpressionFault) (q : ExpressionFault)
      → is_right n ≡ true → all ≡ both a w → all ≡ Err q → Lowers vars i a → GivesWidth (fixed_integer (meaning vars n)) w
      → Places vars low (select.Up i n) (Err q)
  up_fails i n a w all q g e f h k =
      fails (IsWide i n) (select.Up i n) (Selects i n) (Sizes i n) q (up_flagged i n g) (wide i n a w all (Err q) e f h k)

  pub down_reads : (i n : FlatExpr) (a : Reading) (w : Result Width ExpressionFault) (all : Result (SizedForm × Width) ExpressionFault)
      (x : SizedForm × Width) (lowest : ℕ) (m : Made) (r : Placing) → is_right n ≡ true → all ≡ both a w → all ≡ Ok x
      → Lowers vars i a → GivesWidth (fixed_integer (meaning vars n)) w → IfOk m (λ p. Begins lowest x.1.bits x.0 p) → r ≡ kept m
      → lowest ≡ low + (x.1.bits - 1) → Places vars low (select.Down i n) r
  down_reads i n a w all x lowest m r g e f h k b l d =
      reads (IsWide i n) (select.Down i n) (Selects i n) (Sizes i n) x m r (down_flagged i n g) (wide i n a w all (Ok x) e f h k)
      (λ q. down_place i n lowest x m d q b) l

  pub down_fails : (i n : FlatExpr) (a : Reading) (w : Result Width ExpressionFault) (all : Result (SizedForm × Width) ExpressionFault)
      (q : ExpressionFault) → is_right n ≡ true → all ≡ both a w → all ≡ Err q → Lowers vars i a → GivesWidth (fixed_integer (meaning vars n)) w
      → Places vars low (select.Down i n) (Err q)
  down_fails i n a w all q g e f h k =
      fails (IsWide i n) (select.Down i n) (Selects i n) (Sizes i n) q (down_flagged i n g) (wide i n a w all (Err q) e f h k)
