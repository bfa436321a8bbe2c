-- The typed form of a choice's items matches alike.
use Rattle.std.proofs.Common.{◌≡◌, ap, ap₂, refl, ℕ, ◌≤◌, Bool, ◌||◌, ◌==◌, List, [], ◌∷◌, ◌++◌, map, bit_and, le_trans, le_refl, zero-le}
use Rattle.std.proofs.Math.Nat.{le-max_left, le-max_right, max-le}
use Rattle.std.specs.List.{list_any}
use Rattle.elab_types.specs.declared.flat_source.FlatVar.{FlatVar}
use Rattle.elab_types.specs.declared.flat_expression.FlatExpr.{FlatExpr}
use Rattle.design_tree.specs.declared.step.StepItem.{StepItem}
use Rattle.circuit_run.specs.States.{State}
use Rattle.source_meaning.specs.Meaning.{Meaning, greatest_size}
use Rattle.source_meaning.specs.Cases.{matches, compared_bits}
use Rattle.flat_meaning.specs.Expressions.{meaning}
use Rattle.design_meaning.specs.Steps.{is_match}
use Rattle.typed_form.specs.TypedSteps.{AreItems, no_items, more_items}
use Rattle.typed_form.specs.TypedLaws.{HasWidths}
use Rattle.typed_form.proofs.KeepsValue.{keeps}

pub greatest_left : (xs ys : List Meaning) → greatest_size xs ≤ greatest_size (xs ++ ys)
greatest_left [] ys = zero-le
greatest_left (x ∷ xs) ys =
    max-le (le-max_left x.size (greatest_size (xs ++ ys))) (le_trans (greatest_left xs ys) (le-max_right x.size (greatest_size (xs ++ ys))))

pub greatest_right : (xs ys : List Meaning) → greatest_size ys ≤ greatest_size (xs ++ ys)
greatest_right [] ys = le_refl _
greatest_right (x ∷ xs) ys = le_trans (greatest_right xs ys) (le-max_right x.size (greatest_size (xs ++ ys)))

module _ (vars : List FlatVar) (s : State) (widths : HasWidths vars s) where
  -- where all items fit the size, some item of the source matches exactly where some item of the step does
  pub same_match : (size n : ℕ) (by_sign : Bool) (on : Meaning) → n ≡ on.value s size by_sign
      → {of : List FlatExpr} {items : List StepItem} → AreItems vars size by_sign of items → greatest_size (map (meaning vars) of) ≤ size
      → list_any (is_match s n) items ≡ list_any (matches size by_sign on s) (map (meaning vars) of)
  same_match size n by_sign on p no_items le = refl
  same_match size n by_sign on p (more_items {of} {rest} {a} {items} d ds) le =
      let m = meaning vars of in
      let others = greatest_size (map (meaning vars) rest) in
      ap₂ ◌||◌
      (ap₂ (λ x y. bit_and x (compared_bits size m) == bit_and y (compared_bits size m)) p
      (ap (λ v. v.number) (keeps vars s widths d (le_trans (le-max_left m.size others) le))))
      (same_match size n by_sign on p ds (le_trans (le-max_right m.size others) le))
