-- The typed form of a target names the bits that the target names.
use Rattle.std.proofs.Common.{◌≡◌, ◌∙◌, sym, ap, ap₂, refl, subst, arith, ℕ, zero, suc, Bool, true, false, ◌&&◌, ◌||◌}
use Rattle.std.proofs.Common.{not, ◌==◌, nat_lt, if◌then◌else◌, List, [], ◌∷◌, map}
use Rattle.std.proofs.Common.{Option, Some, None, slice_get, is_some, true≢false, ℤ, pos, negsuc, ◌+ℤ◌, ◌-ℤ◌, ◌<◌, int_le, int_lt}
use Rattle.std.specs.List.{list_any, list_all}
use Rattle.std.specs.Ordering.{int_eq}
use Rattle.std.proofs.lemmas.Bool.{lt-ltb, eqb-true}
use Rattle.std.proofs.lemmas.Bool.Decides.{nat_tests}
use Rattle.elab_types.specs.declared.flat_source.FlatVar.{FlatVar}
use Rattle.elab_types.specs.declared.flat_expression.FlatExpr.{FlatExpr}
use Rattle.elab_types.specs.declared.flat_expression.FlatExpr.TheVariants as e
use Rattle.elab_types.specs.declared.flat_expression.FlatSelect.{FlatSelect}
use Rattle.elab_types.specs.declared.flat_expression.FlatSelect.TheVariants as select
use Rattle.design_tree.specs.declared.typed.Index.{Index}
use Rattle.design_tree.specs.declared.typed.Typed.{Typed}
use Rattle.design_tree.specs.declared.step.Target.{Target}
use Rattle.design_tree.specs.declared.step.Target.TheVariants as target
use Rattle.circuit_run.specs.States.{Bit, IsBitOf, no_var}
use Rattle.circuit_run.specs.States as circuit
use Rattle.source_meaning.specs.Meaning as m
use Rattle.source_meaning.specs.Meaning.{Meaning, Object, whole}
use Rattle.source_meaning.specs.Selects as sel
use Rattle.source_meaning.specs.Selects.{less}
use Rattle.source_meaning.specs.Joins.{objects_of}
use Rattle.source_meaning.specs.Drives as drives
use Rattle.source_meaning.specs.Drives.{names, names_word, some_names}
use Rattle.flat_meaning.specs.Expressions.{meaning, variable_of}
use Rattle.flat_meaning.specs.Circuit.{var_of}
use Rattle.flat_meaning.proofs.Meanings.{selection_of, of-Join}
use Rattle.design_meaning.specs.Values.{position_in}
use Rattle.design_meaning.specs.Spans.{is_constant, constant_position, places_from, is_word_in, is_place_in}
use Rattle.design_meaning.specs.Targets.{names_bit}
use Rattle.design_meaning.proofs.Constants.{same_position}
use Rattle.design_meaning.proofs.ListLaws.{any_append, left_true, right_true}
use Rattle.typed_form.specs.TypedExpressions.{index, signed, IsTypedAlone, IsPosition}
use Rattle.typed_form.specs.TypedTargets as typed
use Rattle.typed_form.specs.TypedTargets.{AreTargets, AreTargetsOfAll}
use Rattle.typed_form.proofs.KeepsValue.{var_means, word_selects, part_selects, word_part_selects, index_place, keeps_alone, keeps_position}
use Rattle.typed_drive_laws.proofs.Fixed.{fixed, fixed_select, fixed-Select, fixed-Join, fixed-At}
use Rattle.typed_drive_laws.proofs.OneWay.{blank, blank_widths, blank_holds, same_integer}
use Rattle.typed_drive_laws.proofs.Constancy.{index_node, alike_alone, alike_position}

-- ---- one position

-- a position that is the same on both sides, or computed on both
abbrev spot_of : m.Index → Option ℤ
spot_of i = if i.fixed then Some (i.at []) else None

same_spot : (c d : Bool) (z y : ℤ) → c ≡ d → (c ≡ true → z ≡ y) → ◌≡◌ {A = Option ℤ} (if c then Some z else None) (if d then Some y else None)
same_spot true true z y e h = ap (λ x. Some x) (h refl)
same_spot true false z y e h = absurd (true≢false e)
same_spot false true z y e h = absurd (true≢false (sym e))
same_spot false false z y e h = refl

equal_numbers : (x y : ℕ) → int_eq (pos x) (pos y) ≡ (int_le (pos x) (pos y) && int_le (pos y) (pos x))
equal_numbers x y = grind (arith, nat_tests)

equal_is : (z : ℤ) (n : ℕ) → int_eq z (pos n) ≡ (int_le z (pos n) && int_le (pos n) z)
equal_is (pos x) n = equal_numbers x n
equal_is (negsuc x) n = refl

word_is : (c : Bool) (z : ℤ) (n : ℕ) → is_word_in (if c then Some z else None) n ≡ (not c || (int_le z (pos n) && int_le (pos n) z))
word_is true z n = equal_is z n
word_is false z n = refl

place_is : (c : Bool) (z : ℤ) (w n : ℕ)
    → is_place_in (places_from (if c then Some z else None) w) n ≡ (not c || (int_le z (pos n) && int_lt (pos n) (z +ℤ pos w)))
place_is true z w n = refl
place_is false z w n = refl

first_word : (n : ℕ) → is_word_in (Some (pos 0)) n ≡ (n == 0)
first_word n = grind (arith, nat_tests)

-- ---- one bit

names_whole : (c w w' below : Bool) → w ≡ w' → (c ≡ true → below ≡ true) → ((c && w) && true) ≡ ((c && w') && below)
names_whole true w w' below e h = ap₂ ◌&&◌ e (sym (h refl))
names_whole false w w' below e h = refl

names_part : (c w w' below p p' : Bool) → w ≡ w' → (c ≡ true → below ≡ true) → p ≡ p' → ((c && w) && p) ≡ (((c && w') && below) && p')
names_part true w w' below p p' e h k = ap₂ ◌&&◌ (in_all w w' below e (h refl)) k
  where
    in_all : (w w' below : Bool) → w ≡ w' → below ≡ true → w ≡ (w' && below)
    in_all w true below e h = e ∙ sym h
    in_all w false below e h = e
names_part false w w' below p p' e h k = refl

var_at : (vars : List FlatVar) (k : ℕ) (v : FlatVar) → slice_get vars k ≡ Some v → circuit.var_of (map var_of vars) k ≡ var_of v
var_at [] k v p = absurd (true≢false (sym (ap is_some p)))
var_at (x ∷ vars) zero v p = ap (λ y. var_of (or_first y)) p
  where
    or_first : Option FlatVar → FlatVar
    or_first (Some v) = v
    or_first None = x
var_at (x ∷ vars) (suc k) v p = var_at vars k v p

module _ (vars : List FlatVar) where
  abbrev mean : FlatExpr → Meaning
  mean = meaning vars

  -- a bit of a variable lies below its width
  in_width : (k : ℕ) (v : FlatVar) → slice_get vars k ≡ Some v → (b : Bit) → IsBitOf (map var_of vars) b → (k == b.var) ≡ true
      → nat_lt b.place v.width ≡ true
  in_width k v p b here same =
      lt-ltb b.place v.width (subst (λ w. b.place < w)
      (ap (λ n. (circuit.var_of (map var_of vars) n).width) (sym (eqb-true k b.var same)) ∙ ap (λ x. x.width) (var_at vars k v p)) here.in_width)

  -- Targets name the bits that objects name.
  abbrev pub NameAlike : List Object → List Target → Type 0
  NameAlike objects ts = (b : Bit) → IsBitOf (map var_of vars) b → list_any (names_bit b) ts ≡ some_names objects b

  one_target : (object : Object) (t : Target) → ((b : Bit) → IsBitOf (map var_of vars) b → names_bit b t ≡ names object b) → NameAlike (object ∷ []) (t ∷ [])
  one_target object t h b here = ap (λ x. x || false) (h b here)

  -- a constant position is the source's
  spot_is : (at : Index) (i : m.Index) → is_constant at ≡ i.fixed → position_in (blank vars) at ≡ i.at (blank vars) → i.at (blank vars) ≡ i.at []
      → constant_position at ≡ spot_of i
  spot_is at i c p q = same_spot (is_constant at) i.fixed (position_in [] at) (i.at []) c (λ h. same_position at h [] (blank vars) ∙ p ∙ q)

  word_spot : (i : FlatExpr) (low : ℕ) (a : Typed) → IsTypedAlone vars i a → fixed vars i ≡ true
      → constant_position (index low (signed vars i) a) ≡ spot_of (less (mean i) (pos low))
  word_spot i low a d f =
      let x = alike_alone vars (blank vars) [] (blank_widths vars) (blank_holds vars) d f in
      spot_is (index low (signed vars i) a) (less (mean i) (pos low)) (index_node low (signed vars i) a ∙ x.constants)
      (index_place (blank vars) low a (mean i) (keeps_alone vars (blank vars) (blank_widths vars) d))
      (ap (λ z. z -ℤ pos low) (same_integer (blank vars) [] (mean i) x.values))

  place_spot : (low : ℕ) (which : FlatSelect) (w : ℕ) (at : Index) → IsPosition vars low which w at → fixed_select vars which ≡ true
      → constant_position at ≡ spot_of (sel.position low (selection_of vars which))
  place_spot low which w at d f =
      let x = alike_position vars (blank vars) [] (blank_widths vars) (blank_holds vars) d f in
      spot_is at (sel.position low (selection_of vars which)) x.constants
      (keeps_position vars (blank vars) (blank_widths vars) d).place x.place

  -- which words and places a position names
  words_named : (at : Index) (i : m.Index) (n : ℕ) → constant_position at ≡ spot_of i → is_word_in (constant_position at) n ≡ names_word i n
  words_named at i n h = ap (λ x. is_word_in x n) h ∙ word_is i.fixed (i.at []) n

  places_named : (at : Index) (i : m.Index) (w width n : ℕ) → constant_position at ≡ spot_of i → width ≡ w
      → is_place_in (places_from (constant_position at) w) n ≡ drives.names_bit i width n
  places_named at i w width n h e =
      ap (λ x. is_place_in (places_from x w) n) h ∙ place_is i.fixed (i.at []) w n ∙ ap (λ x. drives.names_bit i x n) (sym e)

  mutual
    pub named_targets : {of : FlatExpr} {ts : List Target} → AreTargets vars of ts → fixed vars of ≡ true → NameAlike (mean of).objects ts
    named_targets (typed.whole {k} {v} p) f =
        subst (λ x. NameAlike x.objects (target.Whole k ∷ [])) (sym (var_means vars (blank vars) (blank_widths vars) k v p.0))
        (one_target (whole (variable_of k v)) (target.Whole k)
        (λ b here. names_whole (k == b.var) _ (b.word == 0) (nat_lt b.place v.width) (first_word b.word) (in_width k v p.0 b here)))
    named_targets (typed.word {k} {v} {i} {a} p d) f =
        let the_word = word_selects vars (blank vars) (blank_widths vars) k v i a p (keeps_alone vars (blank vars) (blank_widths vars) d) in
        let at = index v.word_low (signed vars i) a in
        let fi =
        sym (fixed-At vars i) ∙ right_true (fixed vars (e.Var k)) (fixed_select vars (select.At i))
        (sym (fixed-Select vars (e.Var k) (select.At i)) ∙ f) in
        subst (λ x. NameAlike x.objects (target.Word k at ∷ [])) (sym the_word.means)
        (one_target the_word.object (target.Word k at)
        (λ b here. names_whole (k == b.var) _ _ (nat_lt b.place v.width)
        (words_named at (less (mean i) (pos v.word_low)) b.word (word_spot i v.word_low a d fi)) (in_width k v p.0 b here)))
    named_targets (typed.part {k} {w} {v} {s = which} {at} p d) f =
        let q = keeps_position vars (blank vars) (blank_widths vars) d in
        let the_part = part_selects vars (blank vars) (blank_widths vars) k w v which at p q in
        let fs = right_true (fixed vars (e.Var k)) (fixed_select vars which) (sym (fixed-Select vars (e.Var k) which) ∙ f) in
        subst (λ x. NameAlike x.objects (target.Part k w at ∷ [])) (sym the_part.means)
        (one_target the_part.object (target.Part k w at)
        (λ b here. names_part (k == b.var) _ (b.word == 0) (nat_lt b.place v.width) _ _ (first_word b.word) (in_width k v p.0 b here)
        (places_named at (sel.position v.low (selection_of vars which)) w (sel.width_of (selection_of vars which)) b.place
        (place_spot v.low which w at d fs) q.width)))
    named_targets (typed.word_part {w} k {v} i {s = which} {a} {at} p da d) f =
        let q = keeps_position vars (blank vars) (blank_widths vars) d in
        let the_part = word_part_selects vars (blank vars) (blank_widths vars) k w v i which a at p (keeps_alone vars (blank vars) (blank_widths vars) da) q in
        let word = index v.word_low (signed vars i) a in
        let fs = sym (fixed-Select vars (e.Select (e.Var k) (select.At i)) which) ∙ f in
        let base = left_true (fixed vars (e.Select (e.Var k) (select.At i))) (fixed_select vars which) fs in
        let fi = sym (fixed-At vars i)
        ∙ right_true (fixed vars (e.Var k)) (fixed_select vars (select.At i)) (sym (fixed-Select vars (e.Var k) (select.At i)) ∙ base) in
        let fw = right_true (fixed vars (e.Select (e.Var k) (select.At i))) (fixed_select vars which) fs in
        subst (λ x. NameAlike x.objects (target.WordPart k word w at ∷ [])) (sym the_part.means)
        (one_target the_part.object (target.WordPart k word w at)
        (λ b here. names_part (k == b.var) _ _ (nat_lt b.place v.width) _ _
        (words_named word (less (mean i) (pos v.word_low)) b.word (word_spot i v.word_low a da fi)) (in_width k v p.0 b here)
        (places_named at (sel.position v.low (selection_of vars which)) w (sel.width_of (selection_of vars which)) b.place
        (place_spot v.low which w at d fw) q.width)))
    named_targets (typed.join {parts} {ts} d) f =
        subst (λ x. NameAlike x.objects ts) (sym (of-Join vars parts)) (named_of_all d (sym (fixed-Join vars parts) ∙ f))

    named_of_all : {parts : List FlatExpr} {ts : List Target} → AreTargetsOfAll vars parts ts → list_all (fixed vars) parts ≡ true
        → NameAlike (objects_of (map mean parts)) ts
    named_of_all typed.none f b here = refl
    named_of_all (typed.more {of} {rest} {ts} {us} d ds) f b here =
        any_append (names_bit b) ts us
        ∙ ap₂ ◌||◌ (named_targets d (left_true (fixed vars of) (list_all (fixed vars) rest) f) b here)
        (named_of_all ds (right_true (fixed vars of) (list_all (fixed vars) rest) f) b here)
        ∙ sym (any_append (λ o. names o b) (mean of).objects (objects_of (map mean rest)))
