-- The walk through some files names its arms; what is entered of a named arm.
use Rattle.std.proofs.Common.{◌≡◌, ℕ, zero, suc, ◌<◌, List, [], ◌∷◌, length, get_or, map, Option, Some, None, refl, sym, ◌∙◌, ap, subst, arith}
use Rattle.std.specs.Prelude.{Contains, slice_get}
use Rattle.std.specs.List.{AllZip}
use Rattle.std.proofs.lemmas.Option.{slice_get_within, get_or_from_slice_get}
use Rattle.elab_types.specs.declared.arm.ArmComment.{ArmComment}
use Rattle.elab_types.specs.declared.arm.ArmComment.TheVariants as c
use Rattle.source_meaning.specs.Events as event
use Rattle.flat_source_meaning.specs.SourceArms.{Arm, entered}
use Rattle.point_meaning.specs.Arms.{ArmName, block, case, if_arm, else_arm, cover, PointArm, cover_comment, name_of, with_name, point_arm}
use Rattle.point_meaning.specs.Source.{Source, Copy}
use Rattle.point_meaning.specs.FromWalk.{copy_of}
use Rattle.point_meaning.specs.PointLaws.{copy_in, WalkNamesArms}

-- what is read of a list is in it
pub got : {X : Type 0} (xs : List X) (k : ℕ) (x : X) → slice_get xs k ≡ Some x → Contains xs x
got xs k x is = (k, slice_get_within xs k x is, get_or_from_slice_get xs k x x is)

-- what is read of two lists at one place is related as they are
pub zip_at : {X Y : Type 0} (R : X → Y → Type 0) (xs : List X) (ys : List Y) (k : ℕ) (x : X) (y : Y) → AllZip R xs ys
    → slice_get xs k ≡ Some x → slice_get ys k ≡ Some y → R x y
zip_at R [] [] k x y all first second = absurd (cc)
zip_at R [] (b ∷ ys) k x y all first second = absurd all
zip_at R (a ∷ xs) [] k x y all first second = absurd all
zip_at R (a ∷ xs) (b ∷ ys) zero x y all first second =
    let left : a ≡ x = cc in
    let right : b ≡ y = cc in
    subst (λ z. R x z) right (subst (λ z. R z b) left all.0)
zip_at R (a ∷ xs) (b ∷ ys) (suc k) x y all first second = zip_at R xs ys k x y all.1 first second

in_map : {X Y : Type 0} (f : X → Y) (xs : List X) (k : ℕ) (y : Y) → k < length (map f xs) → get_or (map f xs) k y ≡ y → (x : X) × (f x ≡ y)
in_map f [] k y within is = absurd (omega arith)
in_map f (x ∷ xs) zero y within is = (x, is)
in_map f (x ∷ xs) (suc k) y within is = in_map f xs k y (omega arith) is

named_by : (a : Arm) (n : Option ArmName) (x : PointArm) → with_name a n ≡ Some x → (x.arm ≡ a) × (n ≡ Some x.name)
named_by a (Some name) x is =
    let e : ◌≡◌ {A = PointArm} (record { name = name; arm = a }) x = cc in
    (sym (ap (λ (p : PointArm). p.arm) e), ap (λ (p : PointArm). Some p.name) e)
named_by a None x is = absurd (cc)

pub walk_names_arms : WalkNamesArms
walk_names_arms files top clock source given n x has =
    let copies : source.copies ≡ map copy_of given.elaborated.arms = ap (λ (s : Source). s.copies) given.same in
    let there : Contains (map copy_of given.elaborated.arms) (copy_in n x) = subst (λ (xs : List Copy). Contains xs (copy_in n x)) copies has in
    let found = in_map copy_of given.elaborated.arms there.0 (copy_in n x) there.1 there.2 in
    let arm : point_arm found.0.arm ≡ Some x = ap (λ (y : Copy). y.arm) found.1 in
    let both = named_by found.0.arm (name_of found.0.arm.comment found.0.arm.label) x arm in
    ap (λ (a : Arm). name_of a.comment a.label) both.0 ∙ both.1

-- ---- how an arm of a name is entered

abbrev pub tag : ArmName → event.Arm
tag block = event.body
tag case = event.case_arm
tag if_arm = event.yes_arm
tag else_arm = event.no_arm
tag (cover comment) = event.covered

pub named_entered : (what : ArmComment) (label : Option (List ℕ)) (name : ArmName) → name_of what label ≡ Some name → entered what ≡ tag name
named_entered c.Block label name is = let e : block ≡ name = cc in ap tag e
named_entered c.If label name is = let e : if_arm ≡ name = cc in ap tag e
named_entered c.Else label name is = let e : else_arm ≡ name = cc in ap tag e
named_entered c.Case label name is = let e : case ≡ name = cc in ap tag e
named_entered c.Cover label name is = let e : cover (cover_comment label) ≡ name = cc in ap tag e
named_entered c.Nothing label name is = absurd (cc)
