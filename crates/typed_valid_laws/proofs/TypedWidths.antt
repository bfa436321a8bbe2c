-- Typed forms agree in their widths: by induction on how they are typed forms.
use Rattle.std.proofs.Common.{
  ◌≡◌,
  ◌∙◌,
  sym,
  ap,
  subst,
  refl,
  ℕ,
  suc,
  ◌+◌,
  ◌*◌,
  ◌-◌,
  ◌^◌,
  ◌<◌,
  ◌≤◌,
  max,
  Bool,
  true,
  false,
  ◌&&◌,
  nat_lt,
  length,
  List,
  [],
  ◌∷◌,
  map,
}
use Rattle.std.proofs.Common.{Some, is_some, arith, le_refl, le_trans, add-zero}
use Rattle.std.specs.Prelude.{nat_le, slice_get, ◌==◌}
use Rattle.std.specs.List.{list_all}
use Rattle.std.proofs.Math.Nat.{le-max_left, le-max_right}
use Rattle.std.proofs.lemmas.Grind.{common_steps}
use Rattle.vlog_tree.specs.declared.operator.UnaryOp.{UnaryOp}
use Rattle.vlog_tree.specs.declared.operator.UnaryOp.TheVariants as unary
use Rattle.vlog_tree.specs.declared.operator.BinaryOp.{BinaryOp}
use Rattle.vlog_tree.specs.declared.operator.SystemCall.TheVariants as call
use Rattle.elab_types.specs.declared.flat_source.FlatVar.{FlatVar}
use Rattle.elab_types.specs.declared.flat_expression.FlatExpr.{FlatExpr}
use Rattle.elab_types.specs.declared.flat_expression.FlatExpr.TheVariants as e
use Rattle.elab_types.specs.declared.flat_expression.FlatSelect.{FlatSelect}
use Rattle.elab_types.specs.declared.flat_expression.FlatSelect.TheVariants as select
use Rattle.design_tree.specs.declared.operator.TypedUnary.TheVariants as one
use Rattle.design_tree.specs.declared.design.Design.{Design}
use Rattle.design_tree.specs.declared.typed.Index.{Index}
use Rattle.design_tree.specs.declared.typed.Typed.{Typed}
use Rattle.design_tree.specs.declared.typed.Typed.TheVariants as t
use Rattle.circuit_run.specs.States as circuit
use Rattle.source_meaning.specs.Meaning.{Meaning, fixed_integer, fixed_value, at_least_0, total_size}
use Rattle.source_meaning.specs.Operators.{unary_of}
use Rattle.source_meaning.specs.Joins.{ceil_log2}
use Rattle.flat_meaning.specs.Circuit.{var_of}
use Rattle.flat_meaning.specs.Expressions.{meaning}
use Rattle.flat_meaning.proofs.Meanings as means
use Rattle.design_meaning.specs.States as design
use Rattle.design_meaning.specs.WellTyped.{is_index, is_var, is_plain_var, is_width}
use Rattle.design_meaning.proofs.ListLaws.{left_true, right_true, and_from}
use Rattle.typed_form.specs.Nodes.{widened, test, reduction, comparison, logical}
use Rattle.typed_form.specs.TypedExpressions.{IsTyped, IsTypedAlone, IsSelect, IsPosition, AreJoined, IsVariable, number, var, plus, minus, complement, reduced}
use Rattle.typed_form.specs.TypedExpressions.{
  computed,
  shifted,
  compared,
  tested,
  chosen,
  join,
  repeat,
  as_signed,
  as_unsigned,
  logarithm,
  alone,
  index,
  size,
  signed,
}
use Rattle.typed_form.specs.TypedExpressions as typed
use Rattle.typed_valid_laws.specs.ValidLaws.{IsRoomy, AreRoomy, TypedFormsAgree}
use Rattle.typed_valid_laws.proofs.FitFolds as fits
use Rattle.typed_valid_laws.proofs.FitFolds.{fit, part_fits}
use Rattle.typed_valid_laws.proofs.FixedFits.{constant_fits, own_fits, log_fits}
use Rattle.typed_valid_laws.proofs.Nodes.{
  Has,
  is_wide,
  var_there,
  number_has,
  variable_has,
  index_has,
  word_has,
  part_has,
  widened_has,
  unary_has,
  reduction_has,
}
use Rattle.typed_valid_laws.proofs.Nodes.{use_one, use_two, arithmetic_has, shift_has, comparison_has, logical_has, choice_has, join_has, repeat_has}
use Rattle.typed_valid_laws.proofs.Sizes.{reduction_size, arithmetic_size, shift_size, comparison_size, logical_size, sizes_of, part_sizes, small, sizes_select}
use Rattle.typed_valid_laws.proofs.Sizes.{sizes_unary, sizes_binary, sizes_choose, sizes_join, sizes_repeat, sizes_call, var_size, word_size, part_size}
use Rattle.typed_valid_laws.proofs.Sizes.{word_part_size, position_width, part_sizes_at, part_sizes_between}
use Rattle.typed_valid_laws.proofs.Sizes.{part_sizes_up, part_sizes_down}

at_least_once : (k n : ℕ) → n ≤ suc k * n
at_least_once k n = grind (arith, common_steps)

some_of_max : (a b : ℕ) → 1 ≤ a → 1 ≤ max a b
some_of_max a b p = le_trans p (le-max_left a b)

max_small : (a b n : ℕ) → a ≤ n → b ≤ n → max a b ≤ n
max_small a b n p q = grind (arith, common_steps, p, q)

module _ (vars : List FlatVar) (d : Design) (same : d.vars ≡ map var_of vars) (roomy : AreRoomy vars) where
  abbrev mean : FlatExpr → Meaning
  mean = meaning vars

  -- a typed form is well typed and has its width; the expression has at least one bit
  pub record Fine (of : FlatExpr) (n : ℕ) (a : Typed) : Type 0 where
    pub has : Has d n a
    pub some : 1 ≤ size vars of

  pub record Placed (w : ℕ) (at : Index) : Type 0 where
    pub agrees : is_index d at ≡ true
    pub some : 1 ≤ w

  pub record FineParts (parts : List FlatExpr) (a : Typed) : Type 0 where
    pub has : Has d (total_size (map mean parts)) a
    pub some : 1 ≤ total_size (map mean parts)

  pub there : (k : ℕ) (v : FlatVar) → slice_get vars k ≡ Some v → is_var d k ≡ true
  there k v p = subst (λ vs. nat_lt k (length vs) ≡ true) (sym same) (var_there vars k v p).0

  pub is_the : (k : ℕ) (v : FlatVar) → slice_get vars k ≡ Some v → design.var_of d k ≡ var_of v
  is_the k v p = subst (λ vs. circuit.var_of vs k ≡ var_of v) (sym same) (var_there vars k v p).1

  var_has : (k : ℕ) (v : FlatVar) → IsVariable vars k false v → Has d v.width (t.Var k)
  var_has k v p = variable_has d k v.width (there k v p.0) (ap (λ x. x.words) (is_the k v p.0) ∙ (roomy k v p.0).one_word p.1)
      (ap (λ x. x.width) (is_the k v p.0))

  pub plain_there : (k : ℕ) (v : FlatVar) → IsVariable vars k false v → is_plain_var d k ≡ true
  plain_there k v p =
      and_from (is_var d k) ((design.var_of d k).words == 1) (there k v p.0)
      (ap (λ n. n == 1) (ap (λ x. x.words) (is_the k v p.0) ∙ (roomy k v p.0).one_word p.1))

  memory_has : (k : ℕ) (v : FlatVar) (at : Index) → IsVariable vars k true v → is_index d at ≡ true → Has d v.width (t.Word k at)
  memory_has k v at p q = word_has d k v.width at (there k v p.0) (ap (λ x. x.width) (is_the k v p.0)) q

  -- an expression of this size, brought to a context's
  brought : {of : FlatExpr} {w n : ℕ} {a : Typed} (by_sign : Bool) → size vars of ≡ w → Has d w a → 1 ≤ w → size vars of ≤ n → n ≤ 128
      → Fine of n (widened w n by_sign a)
  brought {of} {w} {n} {a} by_sign e h some le few = record {
    has = widened_has d w n by_sign a h some (subst (λ k. k ≤ n) e le) few;
    some = subst (λ k. 1 ≤ k) (sym e) some;
  }

  -- one that takes the context's size
  taken : {of : FlatExpr} {w n : ℕ} {a : Typed} → size vars of ≡ w → Has d n a → 1 ≤ w → Fine of n a
  taken {of} {w} {n} {a} e h some = record { has = h; some = subst (λ k. 1 ≤ k) (sym e) some }

  unary_size : (op : UnaryOp) (a : FlatExpr) (w : ℕ) → size vars (e.Unary op a) ≤ w → (unary_of op (mean a)).size ≤ w
  unary_size op a w le = subst (λ k. k ≤ w) (ap (λ m. m.size) (means.of-Unary vars op a)) le

  mutual
    pub fine : {of : FlatExpr} {n : ℕ} {by_sign : Bool} {a : Typed} → IsTyped vars of n by_sign a → fit vars of ≡ true → sizes_of vars of ≡ true
        → size vars of ≤ n → n ≤ 128 → Fine of n a
    fine (number {w} {x} {free} {n} {sg} {by_sign}) f s le few =
        let k = sym (fits.fits-Number vars w sg x free) ∙ f in
        let is = ap (λ (m : Meaning). m.size) (means.of-Number vars w sg x free) in
        let some : 1 ≤ w = grind (arith, common_steps, left_true (nat_le 1 w) (nat_lt x (2 ^ w)) k) in
        let le_w : w ≤ n = subst (λ k. k ≤ n) is le in
        brought by_sign is (number_has d w x (is_wide w some (le_trans le_w few)) (right_true (nat_le 1 w) (nat_lt x (2 ^ w)) k)) some le few
    fine (var {k} {n} {by_sign} {v} p) f s le few = brought by_sign (var_size vars k v p.0) (var_has k v p) (roomy k v p.0).some_bits le few
    fine (typed.selected {n} {by_sign} {base} {s = which} {a} ds) f s le few =
        let k = sym (fits.fits-Select vars base which) ∙ f in
        let z = sizes_select vars base which s in
        let r = fine_select ds (left_true (fit vars base) (part_fits vars which) k) (right_true (fit vars base) (part_fits vars which) k)
        (left_true (sizes_of vars base) (part_sizes vars which) z) (right_true (sizes_of vars base) (part_sizes vars which) z) (small vars _ s) in
        brought by_sign refl r.has r.some le few
    fine (plus {n} {by_sign} {of} {a} ds) f s le few =
        let r = fine ds (sym (fits.fits-Unary vars unary.Plus of) ∙ f) (sizes_unary vars unary.Plus of s) (unary_size unary.Plus of n le) few in
        taken (ap (λ (m : Meaning). m.size) (means.of-Unary vars unary.Plus of)) r.has r.some
    fine (minus {n} {by_sign} {of} {a} ds) f s le few =
        let r = fine ds (sym (fits.fits-Unary vars unary.Minus of) ∙ f) (sizes_unary vars unary.Minus of s) (unary_size unary.Minus of n le) few in
        taken (ap (λ (m : Meaning). m.size) (means.of-Unary vars unary.Minus of)) (unary_has d one.Neg n a r.has) r.some
    fine (complement {n} {by_sign} {of} {a} ds) f s le few =
        let r =
        fine ds (sym (fits.fits-Unary vars unary.Complement of) ∙ f) (sizes_unary vars unary.Complement of s) (unary_size unary.Complement of n le) few
        in
        taken (ap (λ (m : Meaning). m.size) (means.of-Unary vars unary.Complement of)) (unary_has d one.Not n a r.has) r.some
    fine (reduced {op} {f = node} {n} {by_sign} {of} {a} p ds) f s le few =
        let r = fine_alone ds (sym (fits.fits-Unary vars op of) ∙ f) (sizes_unary vars op of s) in
        let is = ap (λ (m : Meaning). m.size) (means.of-Unary vars op of) ∙ reduction_size op (mean of) (ap is_some p) in
        subst (λ g. Fine (e.Unary op of) n (widened 1 n by_sign (use_one g a))) p
        (brought by_sign is (reduction_has d op (size vars of) a (ap is_some p) r.has) (le_refl 1) le few)
    fine (computed {op} {f = node} {n} {by_sign} {left} {right} {a} {b} p da db) f s le few =
        let is = ap (λ (m : Meaning). m.size) (means.of-Binary vars op left right) ∙ arithmetic_size op by_sign (mean left) (mean right) (ap is_some p) in
        let k = sym (fits.fits-Binary vars op left right) ∙ f in
        let z = sizes_binary vars op left right s in
        let both : max (size vars left) (size vars right) ≤ n = subst (λ k. k ≤ n) is le in
        let x = fine da (left_true (fit vars left) (fit vars right) k) (left_true (sizes_of vars left) (sizes_of vars right) z)
        (le_trans (le-max_left (size vars left) (size vars right)) both) few in
        let y = fine db (right_true (fit vars left) (fit vars right) k) (right_true (sizes_of vars left) (sizes_of vars right) z)
        (le_trans (le-max_right (size vars left) (size vars right)) both) few in
        subst (λ g. Fine (e.Binary op left right) n (use_two g a b)) p
        (taken is (arithmetic_has d op by_sign n a b (ap is_some p) x.has y.has) (some_of_max (size vars left) (size vars right) x.some))
    fine (shifted {op} {f = node} {n} {by_sign} {left} {right} {a} {b} p da db) f s le few =
        let is = ap (λ (m : Meaning). m.size) (means.of-Binary vars op left right) ∙ shift_size op by_sign (mean left) (mean right) (ap is_some p) in
        let k = sym (fits.fits-Binary vars op left right) ∙ f in
        let z = sizes_binary vars op left right s in
        let x = fine da (left_true (fit vars left) (fit vars right) k) (left_true (sizes_of vars left) (sizes_of vars right) z)
        (subst (λ k. k ≤ n) is le) few in
        let y = fine_alone db (right_true (fit vars left) (fit vars right) k) (right_true (sizes_of vars left) (sizes_of vars right) z) in
        subst (λ g. Fine (e.Binary op left right) n (use_two g a b)) p
        (taken is (shift_has d op by_sign n (size vars right) a b (ap is_some p) x.has y.has) x.some)
    fine (compared {op} {f = node} {n} {by_sign} {left} {right} {a} {b} p da db) f s le few =
        let sign = (mean left).signed && (mean right).signed in
        let is = ap (λ (m : Meaning). m.size) (means.of-Binary vars op left right) ∙ comparison_size op sign (mean left) (mean right) (ap is_some p) in
        let k = sym (fits.fits-Binary vars op left right) ∙ f in
        let z = sizes_binary vars op left right s in
        let sl = left_true (sizes_of vars left) (sizes_of vars right) z in
        let sr = right_true (sizes_of vars left) (sizes_of vars right) z in
        let w = max (size vars left) (size vars right) in
        let few_w : w ≤ 128 = max_small (size vars left) (size vars right) 128 (small vars left sl) (small vars right sr) in
        let x = fine da (left_true (fit vars left) (fit vars right) k) sl (le-max_left (size vars left) (size vars right)) few_w in
        let y = fine db (right_true (fit vars left) (fit vars right) k) sr (le-max_right (size vars left) (size vars right)) few_w in
        subst (λ g. Fine (e.Binary op left right) n (widened 1 n by_sign (use_two g a b))) p
        (brought by_sign is (comparison_has d op sign w a b (ap is_some p) x.has y.has) (le_refl 1) le few)
    fine (tested {op} {f = node} {n} {by_sign} {left} {right} {a} {b} p da db) f s le few =
        let is = ap (λ (m : Meaning). m.size) (means.of-Binary vars op left right) ∙ logical_size op (mean left) (mean right) (ap is_some p) in
        let k = sym (fits.fits-Binary vars op left right) ∙ f in
        let z = sizes_binary vars op left right s in
        let x = fine_alone da (left_true (fit vars left) (fit vars right) k) (left_true (sizes_of vars left) (sizes_of vars right) z) in
        let y = fine_alone db (right_true (fit vars left) (fit vars right) k) (right_true (sizes_of vars left) (sizes_of vars right) z) in
        subst (λ g. Fine (e.Binary op left right) n (widened 1 n by_sign (use_two g a b))) p
        (brought by_sign is (logical_has d op (size vars left) (size vars right) a b (ap is_some p) x.has y.has) (le_refl 1) le few)
    fine (chosen {n} {by_sign} {on} {left} {right} {c} {a} {b} dc da db) f s le few =
        let is = ap (λ (m : Meaning). m.size) (means.of-Choose vars on left right) in
        let k = sym (fits.fits-Choose vars on left right) ∙ f in
        let z = sizes_choose vars on left right s in
        let two_fit = left_true (fit vars on && fit vars left) (fit vars right) k in
        let two_small = left_true (sizes_of vars on && sizes_of vars left) (sizes_of vars right) z in
        let both : max (size vars left) (size vars right) ≤ n = subst (λ k. k ≤ n) is le in
        let w = fine_alone dc (left_true (fit vars on) (fit vars left) two_fit) (left_true (sizes_of vars on) (sizes_of vars left) two_small) in
        let x = fine da (right_true (fit vars on) (fit vars left) two_fit) (right_true (sizes_of vars on) (sizes_of vars left) two_small)
        (le_trans (le-max_left (size vars left) (size vars right)) both) few in
        let y =
        fine db (right_true (fit vars on && fit vars left) (fit vars right) k)
        (right_true (sizes_of vars on && sizes_of vars left) (sizes_of vars right) z)
        (le_trans (le-max_right (size vars left) (size vars right)) both) few in
        taken is (choice_has d (size vars on) n c a b w.has x.has y.has) (some_of_max (size vars left) (size vars right) x.some)
    fine (join {n} {by_sign} {parts} {a} ds) f s le few =
        let is = ap (λ (m : Meaning). m.size) (means.of-Join vars parts) in
        let total : total_size (map mean parts) ≤ n = subst (λ k. k ≤ n) is le in
        let r = fine_joined ds (sym (fits.fits-Join vars parts) ∙ f) (sizes_join vars parts s) (le_trans total few) in
        subst (λ w. Fine (e.Join parts) n (widened w n by_sign a)) (sym is) (brought by_sign is r.has r.some le few)
    fine (repeat {n} {k} {by_sign} count {parts} {a} p ds) f s le few =
        let is = ap (λ (m : Meaning). m.size) (means.of-Repeat vars count parts) ∙ ap (λ c. c * total_size (map mean parts)) (ap at_least_0 p) in
        let all : suc k * total_size (map mean parts) ≤ n = subst (λ k. k ≤ n) is le in
        let one_of : total_size (map mean parts) ≤ suc k * total_size (map mean parts) = at_least_once k (total_size (map mean parts)) in
        let r = fine_joined ds (right_true (fit vars count) (list_all (fit vars) parts) (sym (fits.fits-Repeat vars count parts) ∙ f))
        (sizes_repeat vars count parts s) (le_trans one_of (le_trans all few)) in
        let some = le_trans r.some one_of in
        subst (λ w. Fine (e.Repeat count parts) n (widened w n by_sign (t.Repeat (suc k) a))) (sym is)
        (brought by_sign is (repeat_has d (suc k) (total_size (map mean parts)) a r.has
        (is_wide (suc k * total_size (map mean parts)) some (le_trans all few))) some
        le few)
    fine (as_signed {n} {by_sign} {of} {a} ds) f s le few =
        let r = fine_alone ds (sym (fits.fits-Call vars call.Signed of) ∙ f) (sizes_call vars call.Signed of s) in
        brought by_sign (ap (λ (m : Meaning). m.size) (means.of-Call vars call.Signed of)) r.has r.some le few
    fine (as_unsigned {n} {by_sign} {of} {a} ds) f s le few =
        let r = fine_alone ds (sym (fits.fits-Call vars call.Unsigned of) ∙ f) (sizes_call vars call.Unsigned of s) in
        brought by_sign (ap (λ (m : Meaning). m.size) (means.of-Call vars call.Unsigned of)) r.has r.some le few
    fine (logarithm {n} {by_sign} of) f s le few =
        brought by_sign (ap (λ (m : Meaning). m.size) (means.of-Call vars call.CeilLog2 of))
        (number_has d 32 (ceil_log2 (fixed_value (mean of))) refl (grind (arith, common_steps, log_fits (mean of)))) (omega arith) le few

    pub fine_alone : {of : FlatExpr} {a : Typed} → IsTypedAlone vars of a → fit vars of ≡ true → sizes_of vars of ≡ true → Fine of (size vars of) a
    fine_alone (alone {of} {a} ds) f s = fine ds f s (le_refl (size vars of)) (small vars of s)

    pub fine_select : {base : FlatExpr} {which : FlatSelect} {a : Typed} → IsSelect vars base which a → fit vars base ≡ true → part_fits vars which ≡ true
        → sizes_of vars base ≡ true → part_sizes vars which ≡ true → size vars (e.Select base which) ≤ 128
        → Fine (e.Select base which) (size vars (e.Select base which)) a
    fine_select (typed.word {k} {v} {i} {a} p ds) fb fs sb ss few =
        let x = fine_alone ds (sym (fits.fits-At vars i) ∙ fs) (part_sizes_at vars i ss) in
        let is = word_size vars k v i p in
        let at = index_has d v.word_low (size vars i) (signed vars i) a (roomy k v p.0).words x.has in
        record {
          has = subst (λ w. Has d w (t.Word k (index v.word_low (signed vars i) a))) (sym is) (memory_has k v (index v.word_low (signed vars i) a) p at);
          some = subst (λ w. 1 ≤ w) (sym is) (roomy k v p.0).some_bits;
        }
    fine_select (typed.part {k} {w} {v} {s = which} {at} p ds) fb fs sb ss few =
        let is = part_size vars k v which p ∙ position_width vars ds in
        let few_w : w ≤ 128 = subst (λ k. k ≤ 128) is few in
        let x = fine_position ds fs ss (roomy k v p.0).bits few_w in
        record {
          has = subst (λ z. Has d z (t.Part w (t.Var k) at)) (sym is) (part_has d w v.width (t.Var k) at (is_wide w x.some few_w) (var_has k v p) x.agrees);
          some = subst (λ z. 1 ≤ z) (sym is) x.some;
        }
    fine_select (typed.word_part {w} k {v} i {s = which} {a} {at} p da ds) fb fs sb ss few =
        let is = word_part_size vars k v i which p ∙ position_width vars ds in
        let few_w : w ≤ 128 = subst (λ k. k ≤ 128) is few in
        let x = fine_position ds fs ss (roomy k v p.0).bits few_w in
        let f = right_true (fit vars (e.Var k)) (part_fits vars (select.At i)) (sym (fits.fits-Select vars (e.Var k) (select.At i)) ∙ fb) in
        let s = right_true (sizes_of vars (e.Var k)) (part_sizes vars (select.At i)) (sizes_select vars (e.Var k) (select.At i) sb) in
        let y = fine_alone da (sym (fits.fits-At vars i) ∙ f) (part_sizes_at vars i s) in
        let word = t.Word k (index v.word_low (signed vars i) a) in
        let held = memory_has k v (index v.word_low (signed vars i) a) p (index_has d v.word_low (size vars i) (signed vars i) a (roomy k v p.0).words y.has) in
        record {
          has = subst (λ z. Has d z (t.Part w word at)) (sym is) (part_has d w v.width word at (is_wide w x.some few_w) held x.agrees);
          some = subst (λ z. 1 ≤ z) (sym is) x.some;
        }

    pub fine_position : {low : ℕ} {which : FlatSelect} {w : ℕ} {at : Index} → IsPosition vars low which w at → part_fits vars which ≡ true
        → part_sizes vars which ≡ true → low + 127 < 2 ^ 32 → w ≤ 128 → Placed w at
    fine_position (typed.at {low} {i} {a} ds) f s room few =
        let x = fine_alone ds (sym (fits.fits-At vars i) ∙ f) (part_sizes_at vars i s) in
        record { agrees = index_has d low (size vars i) (signed vars i) a (omega (arith, room)) x.has; some = le_refl 1 }
    fine_position (typed.between {low} {w} high l p) f s room few =
        let g = sym (fits.fits-Between vars high l) ∙ f in
        let k = right_true (fit vars high) (fit vars l) (left_true (fit vars high && fit vars l) (nat_le 1 (size vars l)) g) in
        let z = right_true (sizes_of vars high) (sizes_of vars l) (part_sizes_between vars high l s) in
        let bits = size vars l in
        record {
          agrees = index_has d low bits (signed vars l) (t.Number bits (fixed_value (mean l))) (omega (arith, room))
              (number_has d bits (fixed_value (mean l))
              (is_wide bits (grind (arith, common_steps, right_true (fit vars high && fit vars l) (nat_le 1 (size vars l)) g)) (small vars l z))
              (grind (arith, common_steps, own_fits (mean l) (constant_fits vars l k))));
          some = omega arith;
        }
    fine_position (typed.up {low} {w} {i} count {a} p ds) f s room few =
        let x = fine_alone ds (left_true (fit vars i) (fit vars count) (sym (fits.fits-Up vars i count) ∙ f))
        (left_true (sizes_of vars i) (sizes_of vars count) (part_sizes_up vars i count s)) in
        record { agrees = index_has d low (size vars i) (signed vars i) a (omega (arith, room)) x.has; some = omega arith }
    fine_position (typed.down {low} {w} {i} count {a} p ds) f s room few =
        let x = fine_alone ds (left_true (fit vars i) (fit vars count) (sym (fits.fits-Down vars i count) ∙ f))
        (left_true (sizes_of vars i) (sizes_of vars count) (part_sizes_down vars i count s)) in
        record { agrees = index_has d ((low + suc w) - 1) (size vars i) (signed vars i) a (omega (arith, room, few)) x.has; some = omega arith }

    pub fine_joined : {parts : List FlatExpr} {a : Typed} → AreJoined vars parts a → list_all (fit vars) parts ≡ true → list_all (sizes_of vars) parts ≡ true
        → total_size (map mean parts) ≤ 128 → FineParts parts a
    fine_joined (typed.last {of} {a} ds) f s few =
        let x = fine_alone ds (left_true (fit vars of) true f) (left_true (sizes_of vars of) true s) in
        record {
          has = subst (λ w. Has d w a) (sym (add-zero (size vars of))) x.has;
          some = subst (λ w. 1 ≤ w) (sym (add-zero (size vars of))) x.some;
        }
    fine_joined (typed.more {of} {next} {rest} {a} {b} ds es) f s few =
        let others = list_all (fit vars) (next ∷ rest) in
        let others_small = list_all (sizes_of vars) (next ∷ rest) in
        let w = total_size (map mean (next ∷ rest)) in
        let x = fine_alone ds (left_true (fit vars of) others f) (left_true (sizes_of vars of) others_small s) in
        let y = fine_joined es (right_true (fit vars of) others f) (right_true (sizes_of vars of) others_small s) (omega (arith, few)) in
        let some : 1 ≤ size vars of + w = omega (arith, x.some) in
        record { has = join_has d (size vars of) w a b x.has y.has (is_wide (size vars of + w) some few); some = some }

-- the law
pub typed_forms_agree : TypedFormsAgree
typed_forms_agree vars d same roomy of n by_sign a ds f s le few = let r = fine vars d same roomy ds f s le few in (r.has.agrees, r.has.wide)
