-- Typed targets agree with the variables, and name as many bits as their sources.
use Rattle.std.proofs.Common.{◌≡◌, ◌∙◌, sym, ap, ap₂, subst, refl, ℕ, ◌+◌, ◌≤◌, Bool, true, ◌&&◌, List, [], ◌∷◌, ◌++◌, map, Some, arith, zero-add}
use Rattle.std.specs.Prelude.{slice_get}
use Rattle.std.specs.List.{list_all}
use Rattle.elab_types.specs.declared.flat_source.FlatVar.{FlatVar}
use Rattle.elab_types.specs.declared.flat_expression.FlatExpr.{FlatExpr}
use Rattle.elab_types.specs.declared.flat_expression.FlatExpr.TheVariants as e
use Rattle.elab_types.specs.declared.flat_expression.FlatSelect.{FlatSelect}
use Rattle.elab_types.specs.declared.flat_expression.FlatSelect.TheVariants as select
use Rattle.design_tree.specs.declared.design.Design.{Design}
use Rattle.design_tree.specs.declared.step.Target.{Target}
use Rattle.design_tree.specs.declared.step.Target.TheVariants as target
use Rattle.source_meaning.specs.Meaning.{Meaning, Object, total_size}
use Rattle.source_meaning.specs.Selects.{object_size, meaning_of_object}
use Rattle.source_meaning.specs.Joins.{objects_of}
use Rattle.source_meaning.specs.Assignments.{total_width}
use Rattle.flat_meaning.specs.Circuit.{var_of}
use Rattle.flat_meaning.specs.Expressions.{meaning}
use Rattle.flat_meaning.proofs.Meanings as means
use Rattle.design_meaning.specs.States as design
use Rattle.design_meaning.specs.WellTyped.{is_target, is_width, is_index, is_var, is_plain_var}
use Rattle.design_meaning.specs.Widths.{widths_named, width_named}
use Rattle.design_meaning.proofs.ListLaws.{left_true, right_true, and_from, all_append}
use Rattle.typed_form.specs.TypedExpressions.{IsVariable, index, signed, size}
use Rattle.typed_form.specs.TypedTargets.{AreTargets, AreTargetsOfAll, whole, word, part, word_part, join, none, more}
use Rattle.typed_valid_laws.specs.ValidLaws.{AreRoomy}
use Rattle.typed_valid_laws.proofs.FitFolds as fits
use Rattle.typed_valid_laws.proofs.FitFolds.{fit, part_fits}
use Rattle.typed_valid_laws.proofs.Nodes.{is_wide, index_has}
use Rattle.typed_valid_laws.proofs.Sizes.{
  sizes_of,
  part_sizes,
  small,
  sizes_select,
  sizes_join,
  var_means,
  word_means,
  part_means,
  word_part_means,
  position_width,
}
use Rattle.typed_valid_laws.proofs.Sizes.{part_sizes_at}
use Rattle.typed_valid_laws.proofs.TypedWidths.{there, is_the, plain_there, fine_alone, fine_position}

total_append : (xs ys : List Object) → total_width (xs ++ ys) ≡ total_width xs + total_width ys
total_append [] ys = sym (zero-add (total_width ys))
total_append (x ∷ xs) ys = ap (λ n. object_size x + n) (total_append xs ys) ∙ omega arith

module _ (d : Design) where
  named_append : (ts us : List Target) → widths_named d (ts ++ us) ≡ widths_named d ts + widths_named d us
  named_append [] us = sym (zero-add (widths_named d us))
  named_append (t ∷ ts) us = ap (λ n. width_named d t + n) (named_append ts us) ∙ omega arith

module _ (vars : List FlatVar) (d : Design) (same : d.vars ≡ map var_of vars) (roomy : AreRoomy vars) where
  -- Targets agree, and name the bits of some objects, which are so many.
  pub record Agree (ts : List Target) (objects : List Object) (n : ℕ) : Type 0 where
    pub agree : list_all (is_target d) ts ≡ true
    pub named : widths_named d ts ≡ total_width objects
    pub sized : n ≡ total_width objects

  -- one target, of one object
  one : (t : Target) (o : Object) (m : Meaning) → m ≡ meaning_of_object o → is_target d t ≡ true
      → width_named d t ≡ object_size o → Agree (t ∷ []) m.objects m.size
  one t o m e p q = subst (λ (m : Meaning). Agree (t ∷ []) m.objects m.size) (sym e) (record {
    agree = and_from (is_target d t) true p refl;
    named = ap (λ n. n + 0) q;
    sized = omega arith;
  })

  mutual
    pub agree : {of : FlatExpr} {ts : List Target} → AreTargets vars of ts → fit vars of ≡ true → sizes_of vars of ≡ true
        → Agree ts (meaning vars of).objects (size vars of)
    agree (whole {k} {v} p) f s =
        one (target.Whole k) _ _ (var_means vars k v p.0) (plain_there vars d same roomy k v p) (ap (λ x. x.width) (is_the vars d same roomy k v p.0))
    agree (word {k} {v} {i} {a} p ds) f s =
        let g = right_true (fit vars (e.Var k)) (part_fits vars (select.At i)) (sym (fits.fits-Select vars (e.Var k) (select.At i)) ∙ f) in
        let z = right_true (sizes_of vars (e.Var k)) (part_sizes vars (select.At i)) (sizes_select vars (e.Var k) (select.At i) s) in
        let x = fine_alone vars d same roomy ds (sym (fits.fits-At vars i) ∙ g) (part_sizes_at vars i z) in
        let at = index v.word_low (signed vars i) a in
        one (target.Word k at) _ _ (word_means vars k v i p)
        (and_from (is_var d k) (is_index d at) (there vars d same roomy k v p.0)
        (index_has d v.word_low (size vars i) (signed vars i) a (roomy k v p.0).words x.has))
        (ap (λ x. x.width) (is_the vars d same roomy k v p.0))
    agree (part {k} {w} {v} {s = which} {at} p ds) f s =
        let g = right_true (fit vars (e.Var k)) (part_fits vars which) (sym (fits.fits-Select vars (e.Var k) which) ∙ f) in
        let z = right_true (sizes_of vars (e.Var k)) (part_sizes vars which) (sizes_select vars (e.Var k) which s) in
        let is = ap (λ (m : Meaning). m.size) (part_means vars k v which p) ∙ position_width vars ds in
        let few : w ≤ 128 = subst (λ k. k ≤ 128) is (small vars (e.Select (e.Var k) which) s) in
        let x = fine_position vars d same roomy ds g z (roomy k v p.0).bits few in
        one (target.Part k w at) _ _ (part_means vars k v which p)
        (and_from (is_plain_var d k && is_width w) (is_index d at)
        (and_from (is_plain_var d k) (is_width w) (plain_there vars d same roomy k v p) (is_wide w x.some few)) x.agrees)
        (sym (position_width vars ds))
    agree (word_part {w} k {v} i {s = which} {a} {at} p da ds) f s =
        let h = sym (fits.fits-Select vars (e.Select (e.Var k) (select.At i)) which) ∙ f in
        let y = sizes_select vars (e.Select (e.Var k) (select.At i)) which s in
        let fb = left_true (fit vars (e.Select (e.Var k) (select.At i))) (part_fits vars which) h in
        let sb = left_true (sizes_of vars (e.Select (e.Var k) (select.At i))) (part_sizes vars which) y in
        let g = right_true (fit vars (e.Var k)) (part_fits vars (select.At i)) (sym (fits.fits-Select vars (e.Var k) (select.At i)) ∙ fb) in
        let z = right_true (sizes_of vars (e.Var k)) (part_sizes vars (select.At i)) (sizes_select vars (e.Var k) (select.At i) sb) in
        let is = ap (λ (m : Meaning). m.size) (word_part_means vars k v i which p) ∙ position_width vars ds in
        let few : w ≤ 128 = subst (λ k. k ≤ 128) is (small vars (e.Select (e.Select (e.Var k) (select.At i)) which) s) in
        let x = fine_position vars d same roomy ds (right_true (fit vars (e.Select (e.Var k) (select.At i))) (part_fits vars which) h)
        (right_true (sizes_of vars (e.Select (e.Var k) (select.At i))) (part_sizes vars which) y) (roomy k v p.0).bits few in
        let u = fine_alone vars d same roomy da (sym (fits.fits-At vars i) ∙ g) (part_sizes_at vars i z) in
        let word_at = index v.word_low (signed vars i) a in
        one (target.WordPart k word_at w at) _ _ (word_part_means vars k v i which p)
        (and_from (is_var d k && is_index d word_at && is_width w) (is_index d at)
        (and_from (is_var d k && is_index d word_at) (is_width w)
        (and_from (is_var d k) (is_index d word_at) (there vars d same roomy k v p.0)
        (index_has d v.word_low (size vars i) (signed vars i) a (roomy k v p.0).words u.has)) (is_wide w x.some few)) x.agrees)
        (sym (position_width vars ds))
    agree (join {parts} {ts} ds) f s =
        subst (λ (m : Meaning). Agree ts m.objects m.size) (sym (means.of-Join vars parts))
        (agree_all ds (sym (fits.fits-Join vars parts) ∙ f) (sizes_join vars parts s))

    agree_all : {parts : List FlatExpr} {ts : List Target} → AreTargetsOfAll vars parts ts → list_all (fit vars) parts ≡ true
        → list_all (sizes_of vars) parts ≡ true → Agree ts (objects_of (map (meaning vars) parts)) (total_size (map (meaning vars) parts))
    agree_all none f s = record { agree = refl; named = refl; sized = refl }
    agree_all (more {of} {rest} {ts} {us} ds es) f s =
        let x = agree ds (left_true (fit vars of) (list_all (fit vars) rest) f) (left_true (sizes_of vars of) (list_all (sizes_of vars) rest) s) in
        let y = agree_all es (right_true (fit vars of) (list_all (fit vars) rest) f) (right_true (sizes_of vars of) (list_all (sizes_of vars) rest) s) in
        let objects = (meaning vars of).objects in
        let others = objects_of (map (meaning vars) rest) in
        record {
          agree = all_append (is_target d) ts us ∙ and_from (list_all (is_target d) ts) (list_all (is_target d) us) x.agree y.agree;
          named = named_append d ts us ∙ ap₂ (λ m n. m + n) x.named y.named ∙ sym (total_append objects others);
          sized = ap₂ (λ m n. m + n) x.sized y.sized ∙ sym (total_append objects others);
        }
