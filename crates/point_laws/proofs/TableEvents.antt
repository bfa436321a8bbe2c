-- Each event is that of one point of a table or of none.
use Rattle.std.proofs.Common.{◌≡◌, ℕ, Bool, true, List, Option, Some, None, refl, sym, ◌∙◌, ap, subst}
use Rattle.std.specs.Prelude.{codes, Contains, slice_get}
use Rattle.std.specs.Str.{bytes_eq}
use Rattle.cov_points.specs.declared.options.CoverOptions.{CoverOptions}
use Rattle.cov_points.specs.declared.point.Point.{Point}
use Rattle.cov_points.specs.declared.table.PointTable.{PointTable}
use Rattle.source_meaning.specs.Events as event
use Rattle.flat_source_meaning.specs.SourceArms.{entered, event_of}
use Rattle.point_meaning.specs.Arms.{ArmName, block, case, if_arm, else_arm, cover, PointArm, kind_of, comment_of}
use Rattle.point_meaning.specs.Source.{Source, Copy, scope_at}
use Rattle.point_meaning.specs.Candidates.{arm_in, Identity, identity_of}
use Rattle.point_meaning.specs.Points.{identity_in, IsCounted}
use Rattle.point_meaning.specs.Table.{IsPointOf, IsPointOfCopy, IsTableOf}
use Rattle.point_meaning.specs.Occurrences.{is_arm_of, is_at, is_event_of, is_same_place}
use Rattle.point_meaning.specs.PointLaws.{copy_in, ArmsAreNamed, PlacesTellArms, TablesTellEvents}
use Rattle.point_laws.proofs.Names.{got, zip_at, tag, named_entered}
use Rattle.point_laws.proofs.Same.{joined, bytes_same, place_same}
use Rattle.point_laws.proofs.PointEvents.{events_tell}

-- the point of an arm that has this name
abbrev point_named : Source → ℕ → PointArm → ArmName → Identity
point_named source n x name =
    record { kind = kind_of name; module_text = (scope_at source n).module_text; place = x.arm.place; comment = comment_of name }

by_name : (source : Source) (n : ℕ) (x : PointArm) (name : ArmName) → x.name ≡ name → is_arm_of (point_named source n x name) (tag name) ≡ true
    → is_arm_of (identity_of source (arm_in n x)) (tag name) ≡ true
by_name source n x name is own = ap (λ (a : ArmName). is_arm_of (point_named source n x a) (tag name)) is ∙ own

-- an arm belongs to the point of its own name
own_arm : (source : Source) (n : ℕ) (x : PointArm) (name : ArmName) → x.name ≡ name → is_arm_of (identity_of source (arm_in n x)) (tag name) ≡ true
own_arm source n x block is = by_name source n x block is refl
own_arm source n x case is = by_name source n x case is refl
own_arm source n x if_arm is = by_name source n x if_arm is refl
own_arm source n x else_arm is = by_name source n x else_arm is refl
own_arm source n x (cover comment) is = by_name source n x (cover comment) is refl

module _ (source : Source) (options : CoverOptions) (t : PointTable) (named : ArmsAreNamed source) (places : PlacesTellArms source)
    (table : IsTableOf source options t) where
  own_event : (n : ℕ) (x : PointArm) → Contains source.copies (copy_in n x) → is_event_of source (identity_of source (arm_in n x)) (event_of n x.arm) ≡ true
  own_event n x has =
      let point = identity_of source (arm_in n x) in
      let arm : is_arm_of point (entered x.arm.comment) ≡ true =
      ap (is_arm_of point) (named_entered x.arm.comment x.arm.label x.name (named n x has)) ∙ own_arm source n x x.name refl in
      joined (is_arm_of point (entered x.arm.comment)) (is_at source point n x.arm.place) arm
      (joined (is_same_place x.arm.place x.arm.place) (bytes_eq (scope_at source n).module_text (scope_at source n).module_text)
      (place_same x.arm.place) (bytes_same (scope_at source n).module_text))

  counted_one : (n : ℕ) (x : PointArm) (point : Option ℕ) (k : ℕ) (p : Point) → slice_get t.points k ≡ Some p
      → IsPointOf source options t.points (arm_in n x) point → IsCounted source options (identity_in p) (arm_in n x) → point ≡ Some k
  counted_one n x None k p at its counted = absurd (its counted.on)
  counted_one n x (Some j) k p at its counted = ap Some (table.points.once j k its.1 p its.2 at (its.3 ∙ counted.same))

  from_event : (n : ℕ) (x : PointArm) (point : Option ℕ) (k : ℕ) (p : Point) → Contains source.copies (copy_in n x) → slice_get t.points k ≡ Some p
      → IsPointOf source options t.points (arm_in n x) point → is_event_of source (identity_in p) (event_of n x.arm) ≡ true → point ≡ Some k
  from_event n x point k p has at its is =
      let row = table.points.rows k p at in
      counted_one n x point k p at its (events_tell source options named places (identity_in p) n x row.point.0 has row.point.1 is)

  to_event : (n : ℕ) (x : PointArm) (k : ℕ) (p : Point) → Contains source.copies (copy_in n x) → slice_get t.points k ≡ Some p
      → IsPointOf source options t.points (arm_in n x) (Some k) → is_event_of source (identity_in p) (event_of n x.arm) ≡ true
  to_event n x k p has at its =
      let some : ◌≡◌ {A = Option Point} (Some its.1) (Some p) = sym its.2 ∙ at in
      let same : its.1 ≡ p = cc in
      let point : identity_in p ≡ identity_of source (arm_in n x) = sym (ap identity_in same) ∙ its.3 in
      ap (λ (i : Identity). is_event_of source i (event_of n x.arm)) point ∙ own_event n x has

pub tables_tell_events : TablesTellEvents
tables_tell_events source options t named places table i n x point k p copy arm at =
    let its : IsPointOf source options t.points (arm_in n x) point =
    zip_at (IsPointOfCopy source options t.points) source.copies t.arm_points i (copy_in n x) point table.arms copy arm in
    let has = got source.copies i (copy_in n x) copy in (
      from_event source options t named places table n x point k p has at its,
      λ is. to_event source options t named places table n x k p has at (subst (IsPointOf source options t.points (arm_in n x)) is its),
    )
