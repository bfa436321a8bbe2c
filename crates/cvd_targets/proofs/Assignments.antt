-- Targets and the value that they take.
use Rattle.std.proofs.Common.{◌≡◌, ℕ, ◌+◌, ◌≤◌, true, List, [], ◌∷◌, map, refl, sym, ◌∙◌, ap, arith}
use Rattle.std.specs.Prelude.{◌&&◌, ◌==◌, nat_le}
use Rattle.std.specs.List.{list_all}
use Rattle.std.proofs.lemmas.Bool.Decides.{nat_tests}
use Rattle.cov_types.specs.Limits.{most}
use Rattle.cov_types.specs.declared.limit.LimitName.TheVariants as limit
use Rattle.cov_types.specs.declared.kind.ProcessKind.{ProcessKind}
use Rattle.circuit_run.specs.Lists.{total}
use Rattle.design_tree.specs.declared.design.Design.{Design}
use Rattle.design_tree.specs.declared.step.Target.{Target}
use Rattle.design_meaning.specs.Sizes.{nodes, target_nodes}
use Rattle.design_meaning.specs.Widths.{width_named, widths_named, width_of}
use Rattle.cvd_text.specs.Targets.{may_write, is_expression, takes_value, assigned_nodes}
use Rattle.spelling_laws.specs.Spelled.{Apart}
use Rattle.spelling_laws.specs.Lists.{Many}
use Rattle.spelling_laws.proofs.Then as after
use Rattle.cvd_text.specs.Pieces.{fits}
use Rattle.cvd_cursor.specs.Numerals.{number_tokens}
use Rattle.cvd_cursor.specs.Reads.{marks}
use Rattle.cvd_step_laws.specs.StepMarks.{targets_marks}
use Rattle.cvd_step_laws.proofs.PartsApart.{apart_targets}
use Rattle.cvd_nodes.proofs.Fields.{apart_number}
use Rattle.cvd_expressions.specs.Builds.{may_stand}
use Rattle.cvd_targets.specs.TargetParts.{Assigning, counted_targets, may_assign, may_be_targets}
use Rattle.cvd_targets.proofs.Lists.{left_of, right_of, both, le_of, test_le}

pub widths_are : (d : Design) (ts : List Target) → widths_named d ts ≡ total (map (width_named d) ts)
widths_are d [] = refl
widths_are d (t ∷ ts) = ap (λ n. width_named d t + n) (widths_are d ts)

pub same_number : (m n : ℕ) → (m == n) ≡ true → m ≡ n
same_number m n e = grind (arith, nat_tests)

pub test_same : (m n : ℕ) → m ≡ n → (m == n) ≡ true
test_same m n e = grind (arith, nat_tests)

module _ (d : Design) (k : ProcessKind) (p : Assigning) where
  pub assign_stands : may_be_targets d k p.0 ≡ true → may_stand d p.1 ≡ true → total (map (width_named d) p.0) ≡ width_of d p.1
      → total (map target_nodes p.0) + nodes p.1 ≤ most limit.Nodes → may_assign d k p ≡ true
  assign_stands all one wide sum =
      let firsts = left_of (list_all (may_write d k) p.0 && nat_le (total (map target_nodes p.0)) (most limit.Nodes))
      (nat_le (total (map (width_named d) p.0)) 255) all in
      both (takes_value d k p.0 p.1) _
      (both (list_all (may_write d k) p.0 && is_expression d p.1) _
      (both (list_all (may_write d k) p.0) _ (left_of (list_all (may_write d k) p.0) (nat_le (total (map target_nodes p.0)) (most limit.Nodes)) firsts)
      (left_of (is_expression d p.1) (nat_le (nodes p.1) (most limit.Nodes)) one))
      (test_same _ _ (widths_are d p.0 ∙ wide)))
      (test_le _ _ sum)

  pub record Parts : Type 0 where
    pub targets : list_all (may_write d k) p.0 ≡ true
    pub value : is_expression d p.1 ≡ true
    pub wide : total (map (width_named d) p.0) ≡ width_of d p.1
    pub sum : total (map target_nodes p.0) + nodes p.1 ≤ most limit.Nodes

  pub assign_parts : may_assign d k p ≡ true → Parts
  assign_parts e =
      let takes = left_of (takes_value d k p.0 p.1) (nat_le (assigned_nodes p.0 p.1) (most limit.Nodes)) e in
      let firsts = left_of (list_all (may_write d k) p.0 && is_expression d p.1) (widths_named d p.0 == width_of d p.1) takes in
      record {
        targets = left_of (list_all (may_write d k) p.0) (is_expression d p.1) firsts;
        value = right_of (list_all (may_write d k) p.0) (is_expression d p.1) firsts;
        wide = sym (widths_are d p.0) ∙ same_number _ _ (right_of (list_all (may_write d k) p.0 && is_expression d p.1) _ takes);
        sum = le_of (assigned_nodes p.0 p.1) (most limit.Nodes) (right_of (takes_value d k p.0 p.1) _ e);
      }

  pub value_stands : Parts → may_stand d p.1 ≡ true
  value_stands q = let sum = q.sum in both (is_expression d p.1) _ q.value (test_le (nodes p.1) (most limit.Nodes) (omega arith))

  pub targets_stand : Parts → total (map (width_named d) p.0) ≤ 255 → may_be_targets d k p.0 ≡ true
  targets_stand q low =
      let sum = q.sum in
      both (list_all (may_write d k) p.0 && nat_le (total (map target_nodes p.0)) (most limit.Nodes)) _
      (both (list_all (may_write d k) p.0) _ q.targets (test_le _ _ (omega arith)))
      (test_le _ _ low)

-- no number of targets and they begin another
pub apart_counted : Apart fits counted_targets
apart_counted p =
    after.apart_pair fits ℕ (Many Target) (marks number_tokens) targets_marks p.0 p.1 (apart_number p.0) (apart_targets p.0 p.1)
