-- What is known of well typed targets and the parts that they name.
use Rattle.std.proofs.Common.{◌≡◌, ◌∙◌, sym, ap, subst, refl, ℕ, zero, suc, ◌-◌, ◌%◌, ◌^◌, ◌<◌, ◌≤◌, ◌==◌, take, drop, append-nil, slice_index_or, arith, true}
use Rattle.std.proofs.Common.{◌&&◌, List, [], ◌∷◌, ◌++◌, length, map}
use Rattle.std.specs.Prelude.{pos, nat_lt, All}
use Rattle.std.specs.List.{list_all, AllByRecursion}
use Rattle.std.proofs.Math.Nat.{div-one, mod-eq_of_lt}
use Rattle.std.specs.List.{drop-map, take-map}
use Rattle.std.proofs.Math.Seq.{drop-append_seam, take-append_seam}
use Rattle.std.proofs.Math.ListN.{drop_of_length-le}
use Rattle.std.proofs.lemmas.List.{length-map, length-drop, take-append-drop}
use Rattle.std.proofs.lemmas.Grind.{common_steps}
use Rattle.bit_values.specs.Values.{select}
use Rattle.design_tree.specs.declared.design.Design.{Design}
use Rattle.design_tree.specs.declared.typed.Index.{Index}
use Rattle.design_tree.specs.declared.step.Target.{Target}
use Rattle.design_tree.specs.declared.step.Target.TheVariants as target
use Rattle.circuit_run.specs.States.{State}
use Rattle.circuit_run.specs.Writes.{Part}
use Rattle.design_meaning.specs.States.{IsStateOf, var_of}
use Rattle.design_meaning.specs.Widths.{width_named, widths_named}
use Rattle.design_meaning.specs.WellTyped.{is_width, is_var, is_plain_var, is_index, is_target}
use Rattle.design_meaning.specs.Writes.{target_width, target_widths, part_at, parts_at}
use Rattle.design_meaning.proofs.ListLaws.{left_true, right_true}
use Rattle.design_meaning.proofs.StateKeeps.{width_of_state}
use Rattle.design_state.specs.declared.update.Update.{Update}
use Rattle.design_state.specs.Positions.{part_of}
use Rattle.design_state.specs.InDesign.{IsIndexIn}
use Rattle.flat_design.specs.InDesign.{IsTargetIn, AreTargetsIn}
use Rattle.design_state.proofs.Typings.{with_test}

var_in : (d : Design) (s : State) (v : ℕ) → IsStateOf d s → is_var d v ≡ true → v < length s
var_in d s v h ok =
    let lt : nat_lt v (length d.vars) ≡ true = ok in
    let many : length s ≡ length d.vars = h.as_many in
    grind (arith, common_steps)

plain_in : (d : Design) (s : State) (v : ℕ) → IsStateOf d s → is_plain_var d v ≡ true → v < length s
plain_in d s v h ok = var_in d s v h (left_true (is_var d v) ((var_of d v).words == 1) ok)

wide : (w : ℕ) → is_width w ≡ true → (1 ≤ w) × (w ≤ 128)
wide w h = grind (arith, common_steps)

module _ (s : State) where
  pub whole_var : (v : ℕ) → IsTargetIn s (target.Whole v) → v < length s
  whole_var v h = plain_in h.design s v h.of h.holds

  pub word_var : (v : ℕ) (at : Index) → IsTargetIn s (target.Word v at) → v < length s
  word_var v at h = var_in h.design s v h.of (left_true (is_var h.design v) (is_index h.design at) h.holds)

  pub word_at : (v : ℕ) (at : Index) → IsTargetIn s (target.Word v at) → IsIndexIn s at
  word_at v at h = with_test s (λ d. is_target d (target.Word v at)) (λ d. is_index d at) h (λ d ok. right_true (is_var d v) (is_index d at) ok)

  pub part_var : (v w : ℕ) (at : Index) → IsTargetIn s (target.Part v w at) → v < length s
  part_var v w at h = plain_in h.design s v h.of
      (left_true (is_plain_var h.design v) (is_width w) (left_true (is_plain_var h.design v && is_width w) (is_index h.design at) h.holds))

  pub part_width : (v w : ℕ) (at : Index) → IsTargetIn s (target.Part v w at) → (1 ≤ w) × (w ≤ 128)
  part_width v w at h = wide w (right_true (is_plain_var h.design v) (is_width w)
      (left_true (is_plain_var h.design v && is_width w) (is_index h.design at) h.holds))

  pub part_index : (v w : ℕ) (at : Index) → IsTargetIn s (target.Part v w at) → IsIndexIn s at
  part_index v w at h = with_test s (λ d. is_target d (target.Part v w at)) (λ d. is_index d at) h
      (λ d ok. right_true (is_plain_var d v && is_width w) (is_index d at) ok)

  word_part_front : (d : Design) (v : ℕ) (word : Index) (w : ℕ) (at : Index) → is_target d (target.WordPart v word w at) ≡ true
      → (is_var d v && is_index d word && is_width w) ≡ true
  word_part_front d v word w at ok = left_true (is_var d v && is_index d word && is_width w) (is_index d at) ok

  pub word_part_var : (v : ℕ) (word : Index) (w : ℕ) (at : Index) → IsTargetIn s (target.WordPart v word w at) → v < length s
  word_part_var v word w at h = var_in h.design s v h.of
      (left_true (is_var h.design v) (is_index h.design word)
      (left_true (is_var h.design v && is_index h.design word) (is_width w) (word_part_front h.design v word w at h.holds)))

  pub word_part_width : (v : ℕ) (word : Index) (w : ℕ) (at : Index) → IsTargetIn s (target.WordPart v word w at) → (1 ≤ w) × (w ≤ 128)
  word_part_width v word w at h = wide w (right_true (is_var h.design v && is_index h.design word) (is_width w) (word_part_front h.design v word w at h.holds))

  pub word_part_word : (v : ℕ) (word : Index) (w : ℕ) (at : Index) → IsTargetIn s (target.WordPart v word w at) → IsIndexIn s word
  word_part_word v word w at h = with_test s (λ d. is_target d (target.WordPart v word w at)) (λ d. is_index d word) h
      (λ d ok. right_true (is_var d v) (is_index d word) (left_true (is_var d v && is_index d word) (is_width w) (word_part_front d v word w at ok)))

  pub word_part_index : (v : ℕ) (word : Index) (w : ℕ) (at : Index) → IsTargetIn s (target.WordPart v word w at) → IsIndexIn s at
  word_part_index v word w at h = with_test s (λ d. is_target d (target.WordPart v word w at)) (λ d. is_index d at) h
      (λ d ok. right_true (is_var d v && is_index d word && is_width w) (is_index d at) ok)

  pub any_var : (t : Target) (n : ℕ) → IsTargetIn s t → (part_at s t n).var < length s
  any_var (target.Whole v) n h = whole_var v h
  any_var (target.Part v w at) n h = part_var v w at h
  any_var (target.Word v at) n h = word_var v at h
  any_var (target.WordPart v word w at) n h = word_part_var v word w at h

  pub first_in : (t : Target) (ts : List Target) → AreTargetsIn s (t ∷ ts) → IsTargetIn s t
  first_in t ts h = with_test s (λ d. list_all (is_target d) (t ∷ ts)) (λ d. is_target d t) h (λ d ok. left_true (is_target d t) (list_all (is_target d) ts) ok)

  pub rest_in : (t : Target) (ts : List Target) → AreTargetsIn s (t ∷ ts) → AreTargetsIn s ts
  rest_in t ts h = with_test s (λ d. list_all (is_target d) (t ∷ ts)) (λ d. list_all (is_target d) ts) h
      (λ d ok. right_true (is_target d t) (list_all (is_target d) ts) ok)

-- widths by the design are those by a state of it
width_same : (d : Design) (s : State) (t : Target) → IsStateOf d s → target_width s t ≡ width_named d t
width_same d s (target.Whole v) h = width_of_state d s v h
width_same d s (target.Part v w at) h = refl
width_same d s (target.Word v at) h = width_of_state d s v h
width_same d s (target.WordPart v word w at) h = refl

pub widths_same : (d : Design) (s : State) (ts : List Target) → IsStateOf d s → target_widths s ts ≡ widths_named d ts
widths_same d s [] h = refl
widths_same d s (t ∷ ts) h = rw (width_same d s t h, widths_same d s ts h) refl

pub length-parts_at : (s : State) (ts : List Target) (n : ℕ) → length (parts_at s ts n) ≡ length ts
length-parts_at s [] n = refl
length-parts_at s (t ∷ ts) n = ap suc (length-parts_at s ts n)

-- ---- lists of placed parts

pub one_target : (s : State) (ts : List Target) (t : Target) (w n : ℕ) → length ts ≡ 1 → t ≡ slice_index_or ts 0 t → AreTargetsIn s ts
    → target_widths s ts ≡ w → n < 2 ^ w
    → IsTargetIn s t × (w ≡ target_width s t) × (parts_at s ts n ≡ part_at s t n ∷ [])
one_target s [] t w n one is h wide small = absurd (omega (arith, one))
one_target s (x ∷ y ∷ ts) t w n one is h wide small = absurd (omega (arith, one))
one_target s (x ∷ []) t w n one is h wide small =
    let e : w ≡ target_width s x = omega (arith, wide) in
    let whole : select (target_width s x) n (pos 0) ≡ n = ap (λ m. m % 2 ^ target_width s x) (div-one n) ∙ mod-eq_of_lt (subst (λ k. n < 2 ^ k) e small) in
    subst (λ t. IsTargetIn s t × (w ≡ target_width s t) × (parts_at s (x ∷ []) n ≡ part_at s t n ∷ [])) (sym is)
    (first_in s x [] h, e, ap (λ m. part_at s x m ∷ []) whole)

parts_in : (s : State) (ts : List Target) (n : ℕ) → AreTargetsIn s ts → AllByRecursion (λ p. p.var < length s) (parts_at s ts n)
parts_in s [] n h = tt
parts_in s (t ∷ ts) n h = (any_var s t (select (target_width s t) n (pos (target_widths s ts))) (first_in s t ts h), parts_in s ts n (rest_in s t ts h))

vars_in : (most : ℕ) (us : List Update) (ps : List Part) → map part_of us ≡ ps → AllByRecursion (λ p. p.var < most) ps → All (λ u. u.var < most) us
vars_in most us ps e h = from us (subst (AllByRecursion (λ p. p.var < most)) (sym e) h)
  where
    from : (us : List Update) → AllByRecursion (λ p. p.var < most) (map part_of us) → All (λ u. u.var < most) us
    from [] h k d lt = absurd (omega (arith, lt))
    from (u ∷ us) h zero d lt = h.0
    from (u ∷ us) h (suc k) d lt = from us h.1 k d (omega (arith, lt))

drop_map : (n : ℕ) (us : List Update) → map part_of (drop n us) ≡ drop n (map part_of us)
drop_map n us = sym (drop-map part_of n us)

-- what stands behind so many are the new parts
pub placed_behind : (us old : List Update) (ps : List Part) → map part_of us ≡ map part_of old ++ ps → map part_of (drop (length old) us) ≡ ps
placed_behind us old ps e =
    let n : length old ≡ length (map part_of old) = sym (length-map old part_of) in
    drop_map (length old) us ∙ ap (drop (length old)) e ∙ ap (λ k. drop k (map part_of old ++ ps)) n ∙ drop-append_seam (map part_of old) ps

pub placed_in : (s : State) (us old : List Update) (ts : List Target) (n : ℕ) → AreTargetsIn s ts → map part_of us ≡ map part_of old ++ parts_at s ts n
    → All (λ u. u.var < length s) (drop (length old) us)
placed_in s us old ts n h e = vars_in (length s) (drop (length old) us) (parts_at s ts n) (placed_behind us old (parts_at s ts n) e) (parts_in s ts n h)

pub placed_before : (us old : List Update) (ps : List Part) → map part_of us ≡ map part_of old ++ ps → map part_of (take (length old) us) ≡ map part_of old
placed_before us old ps e =
    let n : length old ≡ length (map part_of old) = sym (length-map old part_of) in
    sym (take-map part_of (length old) us) ∙ ap (take (length old)) e ∙ ap (λ k. take k (map part_of old ++ ps)) n ∙ take-append_seam (map part_of old) ps

-- a slice to the end is what is left
pub slice_rest : {X : Type 0} (n : ℕ) (xs : List X) → take (length xs - n) (drop n xs) ≡ drop n xs
slice_rest n xs =
    let none : drop (length xs - n) (drop n xs) ≡ [] = drop_of_length-le (drop n xs) {i = length xs - n} (omega (arith, length-drop n xs)) in
    sym (append-nil (take (length xs - n) (drop n xs))) ∙ ap (λ l. take (length xs - n) (drop n xs) ++ l) (sym none)
    ∙ take-append-drop (length xs - n) (drop n xs)
