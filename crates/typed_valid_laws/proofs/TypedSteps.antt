-- The steps of a typed form are well formed: by induction on how they are typed forms.
use Rattle.std.proofs.Common.{
  ◌≡◌,
  ◌∙◌,
  sym,
  ap,
  ap₂,
  subst,
  refl,
  ℕ,
  ◌+◌,
  ◌-◌,
  ◌^◌,
  ◌<◌,
  ◌≤◌,
  max,
  Bool,
  true,
  false,
  ◌&&◌,
  nat_lt,
  List,
  [],
  ◌∷◌,
  ◌++◌,
  map,
  Option,
}
use Rattle.std.proofs.Common.{Some, None, arith, le_refl, le_trans, ltb-false, le_antisymm, pow_pos, flat_map, length}
use Rattle.std.specs.Prelude.{nat_le, ◌==◌}
use Rattle.std.specs.List.{list_all}
use Rattle.std.proofs.Math.Nat.{le-max_left, le-max_right}
use Rattle.std.proofs.lemmas.Grind.{common_steps}
use Rattle.cov_types.specs.declared.place.Place.{Place}
use Rattle.elab_types.specs.declared.flat_source.FlatVar.{FlatVar}
use Rattle.elab_types.specs.declared.flat_expression.FlatExpr.{FlatExpr}
use Rattle.elab_types.specs.declared.flat_statement.FlatStmt.{FlatStmt}
use Rattle.elab_types.specs.declared.flat_statement.FlatArm.{FlatArm, out-FlatArm, out-roll-FlatArm}
use Rattle.elab_types.specs.declared.flat_statement.FlatKind.TheVariants as k
use Rattle.design_tree.specs.declared.design.Design.{Design}
use Rattle.design_tree.specs.declared.typed.Typed.{Typed}
use Rattle.design_tree.specs.declared.typed.Typed.TheVariants as t
use Rattle.design_tree.specs.declared.step.Target.{Target}
use Rattle.design_tree.specs.declared.step.Piece.{Piece}
use Rattle.design_tree.specs.declared.step.Piece.TheVariants as piece
use Rattle.design_tree.specs.declared.step.StepItem.{StepItem}
use Rattle.design_tree.specs.declared.step.StepArm.{StepArm, fold-StepArm}
use Rattle.design_tree.specs.declared.step.Step.{Step}
use Rattle.design_tree.specs.declared.step.Step.TheVariants as s
use Rattle.source_meaning.specs.Events.{Event, Arm, yes_arm, no_arm, case_arm, unwritten}
use Rattle.source_meaning.specs.Meaning.{Meaning, greatest_size, all_signed}
use Rattle.source_meaning.specs.Texts.{Base, decimal, hexadecimal, binary, Format}
use Rattle.source_meaning.specs.Assignments.{total_width}
use Rattle.source_meaning.specs.Cases.{compared_bits}
use Rattle.flat_meaning.specs.Circuit.{var_of}
use Rattle.flat_meaning.specs.Expressions.{meaning}
use Rattle.flat_meaning.specs.FlatTrees.{flat_stmt as stmt, flat_arm}
use Rattle.design_meaning.specs.WellTyped.{is_typed, is_target, is_piece, is_width, node_typed, index_typed}
use Rattle.design_meaning.specs.Widths.{width_of, widths_named, node_width, index_width}
use Rattle.design_meaning.specs.WellFormed.{is_step, is_item, step_formed, arm_formed}
use Rattle.design_meaning.specs.Steps.{step_arm}
use Rattle.design_meaning.proofs.ListLaws.{left_true, right_true, and_from, all_append, all_map}
use Rattle.design_meaning.proofs.StepFolds as steps
use Rattle.design_meaning.proofs.TypedFolds as typed
use Rattle.typed_form.specs.Nodes.{test}
use Rattle.typed_form.specs.TypedExpressions.{IsTyped, IsTypedAlone, IsAssigned, truncated, as_it_is, signed, size}
use Rattle.typed_form.specs.TypedTargets.{AreTargets}
use Rattle.typed_form.specs.TypedTexts.{ArePieces, all_formats, value_piece}
use Rattle.typed_form.specs.TypedTexts as texts
use Rattle.typed_form.specs.TypedSteps.{AreItems, no_items, more_items, AreSteps, AreStepsOfAll, AreArms, IsRest, compared_all, counts}
use Rattle.typed_form.specs.TypedSteps as form
use Rattle.typed_valid_laws.specs.ValidLaws.{AreRoomy, TypedStepsAreFormed}
use Rattle.typed_valid_laws.specs.StatementsFit.{expression_fits, all_fit, target_fits, statement_fits}
use Rattle.typed_valid_laws.proofs.FitFolds.{fit}
use Rattle.typed_valid_laws.proofs.Nodes.{Has, is_wide, test_has}
use Rattle.typed_valid_laws.proofs.Sizes.{sizes_of, small}
use Rattle.typed_valid_laws.proofs.TypedWidths.{fine, fine_alone}
use Rattle.typed_valid_laws.proofs.Targets.{agree}
use Rattle.typed_valid_laws.proofs.StatementFolds as fits

-- ---- the greatest of some sizes

greatest_append : (xs ys : List Meaning) → greatest_size (xs ++ ys) ≡ max (greatest_size xs) (greatest_size ys)
greatest_append [] ys = grind (arith, common_steps)
greatest_append (x ∷ xs) ys = ap (max x.size) (greatest_append xs ys) ∙ grind (arith, common_steps)

module _ (vars : List FlatVar) (d : Design) (same : d.vars ≡ map var_of vars) (roomy : AreRoomy vars) where
  fit_of : (a : FlatExpr) → expression_fits vars a ≡ true → fit vars a ≡ true
  fit_of a h = left_true (fit vars a) (sizes_of vars a) h

  small_of : (a : FlatExpr) → expression_fits vars a ≡ true → sizes_of vars a ≡ true
  small_of a h = right_true (fit vars a) (sizes_of vars a) h

  -- no size of some expressions is past 128
  all_small : (es : List FlatExpr) → all_fit vars es ≡ true → greatest_size (map (meaning vars) es) ≤ 128
  all_small [] h = omega arith
  all_small (a ∷ es) h =
      let one = small vars a (small_of a (left_true (expression_fits vars a) (all_fit vars es) h)) in
      let others = all_small es (right_true (expression_fits vars a) (all_fit vars es) h) in
      grind (arith, common_steps, one, others)

  -- ---- right sides

  assigned : {w : ℕ} {of : FlatExpr} {a : Typed} → IsAssigned vars w of a → expression_fits vars of ≡ true → 1 ≤ w → w ≤ 128 → Has d w a
  assigned {w} (truncated {of} {a} p ds) h some few =
      let x = fine_alone vars d same roomy ds (fit_of of h) (small_of of h) in
      record {
        agrees = typed.para-Truncate Bool Bool (node_typed d) index_typed w a
            ∙ and_from (is_width w && is_typed d a) (nat_le w (width_of d a))
            (and_from (is_width w) (is_typed d a) (is_wide w some few) x.has.agrees)
            (ap (nat_le w) x.has.wide ∙ grind (arith, common_steps, p));
        wide = typed.fold-Truncate ℕ ℕ (node_width d) index_width w a;
      }
  assigned {w} (as_it_is {of} {a} p ds) h some few =
      (fine vars d same roomy ds (fit_of of h) (small_of of h) (ltb-false w (size vars of) p) few).has

  -- ---- pieces

  value_piece_is : (base : Base) (short is_signed : Bool) (a : Typed) → is_typed d a ≡ true → is_piece d (value_piece base short is_signed a) ≡ true
  value_piece_is decimal short is_signed a h = h
  value_piece_is hexadecimal short is_signed a h = h
  value_piece_is binary short is_signed a h = h

  pieces_are : {formats : List Format} {values : List FlatExpr} {ps : List Piece} → ArePieces vars formats values ps → all_fit vars values ≡ true
      → list_all (is_piece d) ps ≡ true
  pieces_are texts.end h = refl
  pieces_are (texts.bytes {c} {cs} {rest} {values} {ps} ds) h =
      and_from (nat_lt 0 (length (c ∷ cs))) (list_all (is_piece d) ps) (grind (arith, common_steps)) (pieces_are ds h)
  pieces_are (texts.shown {base} {short} {of} {a} {rest} {values} {ps} ds es) h =
      let one = left_true (expression_fits vars of) (all_fit vars values) h in
      let x = fine_alone vars d same roomy ds (fit_of of one) (small_of of one) in
      and_from (is_piece d (value_piece base short (signed vars of) a)) (list_all (is_piece d) ps) (value_piece_is base short (signed vars of) a x.has.agrees)
      (pieces_are es (right_true (expression_fits vars of) (all_fit vars values) h))

  -- ---- items of a `case`

  mask_fits : (w : ℕ) (m : Meaning) → nat_lt (compared_bits w m) (2 ^ w) ≡ true
  mask_fits w m = grind (arith, common_steps, pow_pos w)

  items_are : {w : ℕ} {by_sign : Bool} {of : List FlatExpr} {items : List StepItem} → AreItems vars w by_sign of items → all_fit vars of ≡ true
      → greatest_size (map (meaning vars) of) ≤ w → w ≤ 128 → list_all (is_item d w) items ≡ true
  items_are no_items h le few = refl
  items_are {w} (more_items {of} {rest} {a} {items} ds es) h le few =
      let one = left_true (expression_fits vars of) (all_fit vars rest) h in
      let others = greatest_size (map (meaning vars) rest) in
      let x = fine vars d same roomy ds (fit_of of one) (small_of of one) (le_trans (le-max_left (size vars of) others) le) few in
      let mask = compared_bits w (meaning vars of) in
      and_from (is_typed d a && width_of d a == w && nat_lt mask (2 ^ w)) (list_all (is_item d w) items)
      (and_from (is_typed d a && width_of d a == w) (nat_lt mask (2 ^ w))
      (and_from (is_typed d a) (width_of d a == w) x.has.agrees (ap (λ n. n == w) x.has.wide ∙ grind (arith, common_steps))) (mask_fits w (meaning vars of)))
      (items_are es (right_true (expression_fits vars of) (all_fit vars rest) h) (le_trans (le-max_right (size vars of) others) le) few)

  -- ---- statements

  module _ (counters scope : ℕ) (marks : Event → List ℕ) (within : (e : Event) → list_all (λ c. nat_lt c counters) (marks e) ≡ true) where
    abbrev step : Step → Bool
    step = is_step d counters

    abbrev step_arm_is : StepArm → ℕ → Bool
    step_arm_is = fold-StepArm Bool (ℕ → Bool) (step_formed d counters) (arm_formed d)

    all_counts : (cs : List ℕ) → list_all (λ c. nat_lt c counters) cs ≡ true → list_all step (map s.Count cs) ≡ true
    all_counts [] h = refl
    all_counts (c ∷ cs) h =
        and_from (step (s.Count c)) (list_all step (map s.Count cs))
        (steps.fold-Count Bool (ℕ → Bool) (step_formed d counters) (arm_formed d) c ∙ left_true (nat_lt c counters) (list_all (λ c. nat_lt c counters) cs) h)
        (all_counts cs (right_true (nat_lt c counters) (list_all (λ c. nat_lt c counters) cs) h))

    -- the counts of an arm
    counted : (p : Place) (which : Arm) → list_all step (counts vars scope marks p which) ≡ true
    counted p which = all_counts (marks (record { scope = scope; place = p; arm = which })) (within (record { scope = scope; place = p; arm = which }))

    -- counts, and then steps
    behind : (p : Place) (which : Arm) (xs : List Step) → list_all step xs ≡ true → list_all step (counts vars scope marks p which ++ xs) ≡ true
    behind p which xs h = all_append step (counts vars scope marks p which) xs
        ∙ and_from (list_all step (counts vars scope marks p which)) (list_all step xs) (counted p which) h

    one_step : (x : Step) → step x ≡ true → list_all step (x ∷ []) ≡ true
    one_step x h = and_from (step x) true h refl

    a_choice : (c : Typed) (w : ℕ) (xs ys : List Step) → Has d w c → list_all step xs ≡ true → list_all step ys ≡ true → step (s.If (test c) xs ys) ≡ true
    a_choice c w xs ys h p q =
        let one = test_has d w c h in
        steps.fold-If Bool (ℕ → Bool) (step_formed d counters) (arm_formed d) (test c) xs ys
        ∙ and_from (is_typed d (test c) && width_of d (test c) == 1 && list_all (λ b. b) (map step xs)) (list_all (λ b. b) (map step ys))
        (and_from (is_typed d (test c) && width_of d (test c) == 1) (list_all (λ b. b) (map step xs))
        (and_from (is_typed d (test c)) (width_of d (test c) == 1) one.agrees (ap (λ n. n == 1) one.wide)) (all_map (λ (b : Bool). b) step xs ∙ p))
        (all_map (λ (b : Bool). b) step ys ∙ q)

    a_write : {target value : FlatExpr} {ts : List Target} {a : Typed} → AreTargets vars target ts
        → IsAssigned vars (total_width (meaning vars target).objects) value a → (target_fits vars target && expression_fits vars value) ≡ true
        → (list_all (is_target d) ts && is_typed d a && widths_named d ts == width_of d a) ≡ true
    a_write {target} {value} {ts} {a} dt da h =
        let w = total_width (meaning vars target).objects in
        let both = left_true (target_fits vars target) (expression_fits vars value) h in
        let one = left_true (expression_fits vars target) (nat_le 1 w) both in
        let g = agree vars d same roomy dt (fit_of target one) (small_of target one) in
        let few : w ≤ 128 = subst (λ n. n ≤ 128) g.sized (small vars target (small_of target one)) in
        let x = assigned da (right_true (target_fits vars target) (expression_fits vars value) h)
        (grind (arith, common_steps, right_true (expression_fits vars target) (nat_le 1 w) both)) few in
        and_from (list_all (is_target d) ts && is_typed d a) (widths_named d ts == width_of d a)
        (and_from (list_all (is_target d) ts) (is_typed d a) g.agree x.agrees)
        (ap₂ (λ m n. m == n) g.named x.wide ∙ grind (arith, common_steps))

    abbrev arm : FlatArm → Bool
    arm = fits.arm vars

    -- what the arms of a `case` compare
    abbrev all_items : List FlatArm → List Meaning
    all_items = flat_map (λ a. map (meaning vars) (out-FlatArm a).items)

    greatest_arms : (p : Place) (items : List FlatExpr) (body : FlatStmt) (rest : List FlatArm)
        → greatest_size (all_items (flat_arm p items body ∷ rest)) ≡ max (greatest_size (map (meaning vars) items)) (greatest_size (all_items rest))
    greatest_arms p items body rest =
        greatest_append (map (meaning vars) (out-FlatArm (flat_arm p items body)).items) (all_items rest)
        ∙ ap (λ x. max (greatest_size (map (meaning vars) x.items)) (greatest_size (all_items rest)))
        (out-roll-FlatArm (record { place = p; items = items; body = body }))

    -- the items of the first arm, and its body
    first_items : (p : Place) (items : List FlatExpr) (body : FlatStmt) (rest : List FlatArm) → list_all arm (flat_arm p items body ∷ rest) ≡ true
        → all_fit vars items ≡ true
    first_items p items body rest h = left_true (all_fit vars items) (statement_fits vars body)
        (sym (fits.of-arm vars p items body) ∙ left_true (arm (flat_arm p items body)) (list_all arm rest) h)

    first_body : (p : Place) (items : List FlatExpr) (body : FlatStmt) (rest : List FlatArm) → list_all arm (flat_arm p items body ∷ rest) ≡ true
        → statement_fits vars body ≡ true
    first_body p items body rest h = right_true (all_fit vars items) (statement_fits vars body)
        (sym (fits.of-arm vars p items body) ∙ left_true (arm (flat_arm p items body)) (list_all arm rest) h)

    others : (p : Place) (items : List FlatExpr) (body : FlatStmt) (rest : List FlatArm) → list_all arm (flat_arm p items body ∷ rest) ≡ true
        → list_all arm rest ≡ true
    others p items body rest h = right_true (arm (flat_arm p items body)) (list_all arm rest) h

    items_small : {w : ℕ} {by_sign : Bool} {all : List FlatArm} {xs : List StepArm} → AreArms vars scope marks w by_sign all xs → list_all arm all ≡ true
        → greatest_size (all_items all) ≤ 128
    items_small form.no_arms h = omega arith
    items_small (form.listed {p = p} {item = i} {items = is} {body = b} {rest = rest} di db ds) h =
        grind (
          arith,
          common_steps,
          greatest_arms p (i ∷ is) b rest,
          all_small (i ∷ is) (first_items p (i ∷ is) b rest h),
          items_small ds (others p (i ∷ is) b rest h),
        )
    items_small (form.default_apart {p = p} {body = b} {rest = rest} ds) h =
        grind (arith, common_steps, greatest_arms p [] b rest, items_small ds (others p [] b rest h))

    mutual
      pub steps_are : {st : FlatStmt} {xs : List Step} → AreSteps vars scope marks st xs → statement_fits vars st ≡ true → list_all step xs ≡ true
      steps_are (form.empty {p}) h = refl
      steps_are (form.block {p} {last} {body} {steps = xs} ds) h = all_are ds (sym (fits.of-Block vars p body last) ∙ h)
      steps_are (form.if_alone {p} {on} {first} {a} {ys} dt ds) h =
          let g = left_true (expression_fits vars on && statement_fits vars first) true (sym (fits.of-If vars p on first) ∙ h) in
          let one = left_true (expression_fits vars on) (statement_fits vars first) g in
          let x = fine_alone vars d same roomy dt (fit_of on one) (small_of on one) in
          one_step (s.If (test a) (counts vars scope marks p yes_arm ++ ys) (counts vars scope marks p no_arm))
          (a_choice a (size vars on) (counts vars scope marks p yes_arm ++ ys) (counts vars scope marks p no_arm) x.has
          (behind p yes_arm ys (steps_are ds (right_true (expression_fits vars on) (statement_fits vars first) g))) (counted p no_arm))
      steps_are (form.if_else {p} {on} {first} {second} {a} {ys} {ns} dt ds es) h =
          let k = sym (fits.of-If-else vars p on first second) ∙ h in
          let g = left_true (expression_fits vars on && statement_fits vars first) (statement_fits vars second) k in
          let one = left_true (expression_fits vars on) (statement_fits vars first) g in
          let x = fine_alone vars d same roomy dt (fit_of on one) (small_of on one) in
          one_step (s.If (test a) (counts vars scope marks p yes_arm ++ ys) (counts vars scope marks p no_arm ++ ns))
          (a_choice a (size vars on) (counts vars scope marks p yes_arm ++ ys) (counts vars scope marks p no_arm ++ ns) x.has
          (behind p yes_arm ys (steps_are ds (right_true (expression_fits vars on) (statement_fits vars first) g)))
          (behind p no_arm ns (steps_are es (right_true (expression_fits vars on && statement_fits vars first) (statement_fits vars second) k))))
      steps_are (form.case {p} {wild} {on} {arms} {a} {step_arms} {rest} da ds dr) h =
          let k = sym (fits.of-Case vars p wild on arms) ∙ h in
          let one = left_true (expression_fits vars on) (list_all arm arms) k in
          let all = right_true (expression_fits vars on) (list_all arm arms) k in
          let w = greatest_size (compared_all vars on arms) in
          let few : w ≤ 128 = grind (arith, common_steps, small vars on (small_of on one), items_small ds all) in
          let x = fine vars d same roomy da (fit_of on one) (small_of on one) (le-max_left (size vars on) (greatest_size (all_items arms))) few in
          one_step (s.Case a step_arms rest)
          (steps.fold-Case Bool (ℕ → Bool) (step_formed d counters) (arm_formed d) a step_arms rest
          ∙ and_from (is_typed d a && list_all (λ (f : ℕ → Bool). f (width_of d a)) (map step_arm_is step_arms)) (list_all (λ b. b) (map step rest))
          (and_from (is_typed d a) (list_all (λ (f : ℕ → Bool). f (width_of d a)) (map step_arm_is step_arms)) x.has.agrees
          (all_map (λ (f : ℕ → Bool). f (width_of d a)) step_arm_is step_arms
          ∙ ap (λ n. list_all (λ y. step_arm_is y n) step_arms) x.has.wide
          ∙ arms_are ds all (le-max_right (size vars on) (greatest_size (all_items arms))) few))
          (all_map (λ (b : Bool). b) step rest ∙ rest_is dr all))
      steps_are (form.set {p} {target} {value} {ts} {a} dt da) h =
          one_step (s.Set ts a) (steps.fold-Set Bool (ℕ → Bool) (step_formed d counters) (arm_formed d) ts a
          ∙ a_write dt da (sym (fits.of-Set vars p target value) ∙ h))
      steps_are (form.later {p} {target} {value} {ts} {a} dt da) h =
          one_step (s.Later ts a) (steps.fold-Later Bool (ℕ → Bool) (step_formed d counters) (arm_formed d) ts a
          ∙ a_write dt da (sym (fits.of-Later vars p target value) ∙ h))
      steps_are (form.show {p} {text} {values} {pieces} ds) h =
          one_step (s.Show pieces) (steps.fold-Show Bool (ℕ → Bool) (step_formed d counters) (arm_formed d) pieces
          ∙ pieces_are ds (sym (fits.of-Show vars p text values) ∙ h))
      steps_are form.finish h = one_step s.Finish (steps.fold-Finish Bool (ℕ → Bool) (step_formed d counters) (arm_formed d))
      steps_are form.stop h = one_step s.Stop (steps.fold-Stop Bool (ℕ → Bool) (step_formed d counters) (arm_formed d))

      all_are : {body : List FlatStmt} {xs : List Step} → AreStepsOfAll vars scope marks body xs → list_all (statement_fits vars) body ≡ true
          → list_all step xs ≡ true
      all_are form.no_stmts h = refl
      all_are (form.more_stmts {first} {rest} {xs} {ys} ds es) h =
          all_append step xs ys
          ∙ and_from (list_all step xs) (list_all step ys) (steps_are ds (left_true (statement_fits vars first) (list_all (statement_fits vars) rest) h))
          (all_are es (right_true (statement_fits vars first) (list_all (statement_fits vars) rest) h))

      arms_are : {w : ℕ} {by_sign : Bool} {all : List FlatArm} {xs : List StepArm} → AreArms vars scope marks w by_sign all xs → list_all arm all ≡ true
          → greatest_size (all_items all) ≤ w → w ≤ 128 → list_all (λ y. step_arm_is y w) xs ≡ true
      arms_are form.no_arms h le few = refl
      arms_are {w} (form.listed {p = p} {item = i} {items = is} {body = b} {rest = rest} {its = its} {steps = xs} {step_arms = ys} di db ds) h le few =
          let both : max (greatest_size (map (meaning vars) (i ∷ is))) (greatest_size (all_items rest)) ≤ w =
          subst (λ n. n ≤ w) (greatest_arms p (i ∷ is) b rest) le in
          let body = counts vars scope marks p case_arm ++ xs in
          and_from (step_arm_is (step_arm its body) w) (list_all (λ y. step_arm_is y w) ys)
          (ap (λ f. f w) (steps.fold-arm Bool (ℕ → Bool) (step_formed d counters) (arm_formed d) its body)
          ∙ and_from (list_all (is_item d w) its) (list_all (λ b. b) (map step body))
          (items_are di (first_items p (i ∷ is) b rest h)
          (le_trans (le-max_left (greatest_size (map (meaning vars) (i ∷ is))) (greatest_size (all_items rest))) both) few)
          (all_map (λ (b : Bool). b) step body ∙ behind p case_arm xs (steps_are db (first_body p (i ∷ is) b rest h))))
          (arms_are ds (others p (i ∷ is) b rest h)
          (le_trans (le-max_right (greatest_size (map (meaning vars) (i ∷ is))) (greatest_size (all_items rest))) both) few)
      arms_are {w} (form.default_apart {p = p} {body = b} {rest = rest} ds) h le few =
          arms_are ds (others p [] b rest h)
          (le_trans (le-max_right (greatest_size (map (meaning vars) [])) (greatest_size (all_items rest)))
          (subst (λ n. n ≤ w) (greatest_arms p [] b rest) le)) few

      rest_is : {p : Place} {all : List FlatArm} {xs : List Step} → IsRest vars scope marks p all xs → list_all arm all ≡ true → list_all step xs ≡ true
      rest_is (form.no_default {p}) h = counted p unwritten
      rest_is (form.at_default {p} {q} {body} {rest} {steps = xs} ds) h = behind q case_arm xs (steps_are ds (first_body q [] body rest h))
      rest_is (form.past {p} {q} {item} {items} {body} {rest} ds) h = rest_is ds (others q (item ∷ items) body rest h)

-- the law
pub typed_steps_are_formed : TypedStepsAreFormed
typed_steps_are_formed vars d same roomy counters scope marks within st xs ds h = steps_are vars d same roomy counters scope marks within ds h
