-- The copies of arms of a source of points are told by their places.
use Rattle.std.proofs.Common.{◌≡◌, ◌∙◌, sym, ap, subst, ℕ, inl, inr, List, Option, Some, None, Contains}
use Rattle.vlog_tree.specs.declared.module.SourceFile.{SourceFile}
use Rattle.elab_types.specs.declared.arm.ArmComment.{ArmComment}
use Rattle.elab_types.specs.declared.arm.ArmComment.TheVariants as c
use Rattle.flat_source_meaning.specs.SourceArms.{Arm}
use Rattle.point_meaning.specs.Arms.{ArmName, PointArm, name_of, with_name}
use Rattle.point_meaning.specs.Source.{Source, Copy}
use Rattle.point_meaning.specs.FromWalk.{IsPointSource, copy_of}
use Rattle.point_meaning.specs.PointLaws.{copy_in}
use Rattle.arm_place_laws.specs.TokenPlaces.{TokensTellArms}
use Rattle.arm_place_laws.proofs.ModuleArms.{IsArmInFiles, files_told}
use Rattle.arm_place_laws.proofs.Seen.{seen}
use Rattle.arm_place_laws.proofs.ProcessArms.{from_map, copies_written, processes_written}

-- an arm with a point is something
named : (a : Arm) (n : Option ArmName) (x : PointArm) → with_name a n ≡ Some x → (a ≡ x.arm) × (n ≡ Some x.name)
named a (Some name) x is =
    let e : ◌≡◌ {A = PointArm} (record { name = name; arm = a }) x = cc in
    (ap (λ (p : PointArm). p.arm) e, ap (λ (p : PointArm). Some p.name) e)
named a None x is = absurd (cc)

nothing_named : (comment : ArmComment) (label : Option (List ℕ)) (name : ArmName) → comment ≡ c.Nothing → name_of comment label ≡ Some name → ⊥
nothing_named comment label name e is =
    let none : ◌≡◌ {A = Option ArmName} None (Some name) = sym (ap (λ k. name_of k label) e) ∙ is in absurd (cc)

module _ (files : List SourceFile) (top clock : List ℕ) (source : Source) (is : IsPointSource files top clock source) where
  written : (n : ℕ) (x : PointArm) → Contains source.copies (copy_in n x) → IsArmInFiles files x.arm
  written n x found =
      let its = is.elaborated in
      let one = from_map copy_of its.arms (copy_in n x) (subst (λ s. Contains s.copies (copy_in n x)) is.same found) in
      let has = named one.0.arm (name_of one.0.arm.comment one.0.arm.label) x (ap (λ (k : Copy). k.arm) one.2) in
      let all = processes_written files its.walked.design its.found (seen its.walked.walk) in
      elim (copies_written files its.have all one.0 one.1) [
        | inl nothing ↦ absurd (nothing_named one.0.arm.comment one.0.arm.label x.name nothing has.1)
        | inr found ↦ subst (IsArmInFiles files) has.0 found
      ]

pub places_tell : TokensTellArms
places_tell lists files top clock source spelled one is m n x y found other e f =
    files_told lists files spelled one x.arm y.arm (written files top clock source is m x found) (written files top clock source is n y other) e f
