-- Events and toggles are of candidates of their points.
use Rattle.std.proofs.Common.{◌≡◌, ℕ, ◌<◌, Bool, true, false, cond, ◌&&◌, List, Option, Some, None, refl, sym, ◌∙◌, ap, ap₂, subst}
use Rattle.std.specs.Prelude.{codes, Contains}
use Rattle.std.specs.Str.{bytes_eq}
use Rattle.std.proofs.lemmas.Bool.{false≢true}
use Rattle.cov_types.specs.declared.place.Place.{Place}
use Rattle.cov_points.specs.declared.options.CoverOptions.{CoverOptions}
use Rattle.cov_points.specs.declared.point.PointKind.{PointKind}
use Rattle.cov_points.specs.declared.point.PointKind.TheVariants as kind
use Rattle.source_meaning.specs.Events as event
use Rattle.flat_source_meaning.specs.SourceArms.{Arm, entered, event_of}
use Rattle.point_meaning.specs.Arms.{ArmName, block, case, if_arm, else_arm, cover, PointArm, kind_of, comment_of, name_of}
use Rattle.point_meaning.specs.Off.{IsPlaceOff, IsArmOff}
use Rattle.point_meaning.specs.Source.{Source, Variable, scope_at}
use Rattle.point_meaning.specs.Bits.{bit_comment, has_toggles}
use Rattle.point_meaning.specs.Candidates.{Candidate, arm_in, bit_of, IsCandidate, an_arm, a_bit, is_chosen, Identity, identity_of}
use Rattle.point_meaning.specs.Points.{IsCounted}
use Rattle.point_meaning.specs.Occurrences.{is_arm_of, is_at, is_event_of, is_one_of, is_bit_of, is_same_kind}
use Rattle.point_meaning.specs.PointLaws.{copy_in, ArmsAreNamed, PlacesTellArms, EventsTell, BitsTell}
use Rattle.point_laws.proofs.Names.{tag, named_entered}
use Rattle.point_laws.proofs.Same.{both, bytes_tell, kinds_tell, identity_is, at_tells}

-- how the arms of points of a type and comment are entered
abbrev back : PointKind → List ℕ → event.Arm
back kind.Line comment = cond (bytes_eq comment (codes "block")) event.body event.case_arm
back kind.Branch comment = cond (bytes_eq comment (codes "if")) event.yes_arm event.no_arm
back kind.Toggle comment = event.unwritten
back kind.User comment = event.covered

tag_back : (name : ArmName) → tag name ≡ back (kind_of name) (comment_of name)
tag_back block = refl
tag_back case = refl
tag_back if_arm = refl
tag_back else_arm = refl
tag_back (cover comment) = refl

by_both : (point : Identity) (k : PointKind) (comment : List ℕ) → is_one_of point k comment ≡ true → back k comment ≡ back point.kind point.comment
by_both point k comment is =
    let parts = both (is_same_kind k point.kind) (bytes_eq comment point.comment) is in
    ap₂ back (kinds_tell k point.kind parts.0) (bytes_tell comment point.comment parts.1)

entered_back : (point : Identity) (e : event.Arm) → is_arm_of point e ≡ true → e ≡ back point.kind point.comment
entered_back point event.body is = by_both point kind.Line (codes "block") is
entered_back point event.case_arm is = by_both point kind.Line (codes "case") is
entered_back point event.yes_arm is = by_both point kind.Branch (codes "if") is
entered_back point event.no_arm is = by_both point kind.Branch (codes "else") is
entered_back point event.covered is = ap (λ (k : PointKind). back k point.comment) (kinds_tell kind.User point.kind is)
entered_back point event.unwritten is = absurd (false≢true is)

tag_written : (name : ArmName) → tag name ≡ event.unwritten → ⊥
tag_written block is = absurd (cc)
tag_written case is = absurd (cc)
tag_written if_arm is = absurd (cc)
tag_written else_arm is = absurd (cc)
tag_written (cover comment) is = absurd (cc)

no_toggle : (name : ArmName) → kind_of name ≡ kind.Toggle → ⊥
no_toggle block is = absurd (cc)
no_toggle case is = absurd (cc)
no_toggle if_arm is = absurd (cc)
no_toggle else_arm is = absurd (cc)
no_toggle (cover comment) is = absurd (cc)

module _ (source : Source) (options : CoverOptions) where
  arm_parts : {n : ℕ} {x : PointArm} → IsCandidate source options (arm_in n x)
      → Contains source.copies (copy_in n x) × (is_chosen options (kind_of x.name) ≡ true)
  arm_parts (an_arm has chosen) = (has, chosen)

  module _ (named : ArmsAreNamed source) (places : PlacesTellArms source) where
    entered_as : (n : ℕ) (x : PointArm) → Contains source.copies (copy_in n x) → entered x.arm.comment ≡ tag x.name
    entered_as n x has = named_entered x.arm.comment x.arm.label x.name (named n x has)

    of_arm : (point : Identity) (n m : ℕ) (x y : PointArm) → Contains source.copies (copy_in n x) → IsCounted source options point (arm_in m y)
        → is_arm_of point (entered x.arm.comment) ≡ true → is_at source point n x.arm.place ≡ true → IsCounted source options point (arm_in n x)
    of_arm point n m x y has counted arm at =
        let its = arm_parts counted.on.0 in
        let stands = at_tells source point n x.arm.place at in
        let its_kind : kind_of y.name ≡ point.kind = ap (λ (i : Identity). i.kind) counted.same in
        let its_comment : comment_of y.name ≡ point.comment = ap (λ (i : Identity). i.comment) counted.same in
        let its_place : y.arm.place ≡ point.place = ap (λ (i : Identity). i.place) counted.same in
        let alike : entered x.arm.comment ≡ entered y.arm.comment =
        entered_back point (entered x.arm.comment) arm ∙ (sym (ap₂ back its_kind its_comment) ∙ (sym (tag_back y.name) ∙ sym (entered_as m y its.0))) in
        let arms : x.arm ≡ y.arm = places n m x y has its.0 (stands.0 ∙ sym its_place) alike in
        let some : ◌≡◌ {A = Option ArmName} (Some x.name) (Some y.name) =
        sym (named n x has) ∙ (ap (λ (a : Arm). name_of a.comment a.label) arms ∙ named m y its.0) in
        let names : x.name ≡ y.name = cc in
        record {
          on = (an_arm has (ap (λ (a : ArmName). is_chosen options (kind_of a)) names ∙ its.1), λ off. counted.on.1 (subst (IsArmOff source.files) arms off));
          same = identity_is (identity_of source (arm_in n x)) point (ap kind_of names ∙ its_kind) stands.1 stands.0 (ap comment_of names ∙ its_comment);
        }

    of_candidate : (point : Identity) (n : ℕ) (x : PointArm) (c : Candidate) → Contains source.copies (copy_in n x) → IsCounted source options point c
        → is_arm_of point (entered x.arm.comment) ≡ true → is_at source point n x.arm.place ≡ true → IsCounted source options point (arm_in n x)
    of_candidate point n x (arm_in m y) has counted arm at = of_arm point n m x y has counted arm at
    of_candidate point n x (bit_of v word bit) has counted arm at =
        let its_kind : kind.Toggle ≡ point.kind = ap (λ (i : Identity). i.kind) counted.same in
        absurd (tag_written x.name (sym (entered_as n x has) ∙ (entered_back point (entered x.arm.comment) arm
        ∙ sym (ap (λ (k : PointKind). back k point.comment) its_kind))))

  -- ---- bits

  bit_on : (point : Identity) (v : Variable) (c : Candidate) → IsCounted source options point c → point.kind ≡ kind.Toggle → v.place ≡ point.place
      → IsPlaceOff source.files v.place v.place → ⊥
  bit_on point v (arm_in n x) counted toggle place off = no_toggle x.name (ap (λ (i : Identity). i.kind) counted.same ∙ toggle)
  bit_on point v (bit_of u word bit) counted toggle place off =
      let same : v.place ≡ u.place = place ∙ sym (ap (λ (i : Identity). i.place) counted.same) in
      counted.on.1 (subst (λ (p : Place). IsPlaceOff source.files p p) same off)

pub events_tell : EventsTell
events_tell source options named places point n x c has counted is =
    let parts = both (is_arm_of point (entered x.arm.comment)) (is_at source point n x.arm.place) is in
    of_candidate source options named places point n x c has counted parts.0 parts.1

pub bits_tell : BitsTell
bits_tell source options point v word bit c has below under counted is =
    let outer = both (has_toggles options v && is_one_of point kind.Toggle (bit_comment v word bit)) (is_at source point v.scope v.place) is in
    let inner = both (has_toggles options v) (is_one_of point kind.Toggle (bit_comment v word bit)) outer.0 in
    let one = both (is_same_kind kind.Toggle point.kind) (bytes_eq (bit_comment v word bit) point.comment) inner.1 in
    let its_kind = kinds_tell kind.Toggle point.kind one.0 in
    let stands = at_tells source point v.scope v.place outer.1 in
    record {
      on = (a_bit has inner.0 below under, bit_on source options point v c counted (sym its_kind) stands.0);
      same = identity_is (identity_of source (bit_of v word bit)) point its_kind stands.1 stands.0 (bytes_tell (bit_comment v word bit) point.comment one.1);
    }
