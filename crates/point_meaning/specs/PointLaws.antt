-- Laws of points: which events and toggles are theirs, that no two have one key, and that their order is free.
use Rattle.std.specs.Prelude.{◌≡◌, ◌↔◌, ℕ, ◌<◌, true, List, Option, Some, slice_get, Contains}
use Rattle.std.specs.List.Sorted.{IsPermutation}
use Rattle.vlog_tree.specs.declared.module.SourceFile.{SourceFile}
use Rattle.cov_points.specs.declared.options.CoverOptions.{CoverOptions}
use Rattle.cov_points.specs.declared.point.Point.{Point}
use Rattle.cov_points.specs.declared.table.PointTable.{PointTable}
use Rattle.cov_points.specs.KeyText.{key_text}
use Rattle.cov_points.specs.KeyLaw.{IsPlainPoint, file_name}
use Rattle.flat_source_meaning.specs.SourceArms.{event_of, entered}
use Rattle.point_meaning.specs.Arms.{PointArm, name_of}
use Rattle.point_meaning.specs.Source.{Source, Variable, Copy}
use Rattle.point_meaning.specs.Candidates.{Candidate, arm_in, bit_of, Identity}
use Rattle.point_meaning.specs.Points.{identity_in, IsCounted, ArePoints}
use Rattle.point_meaning.specs.Table.{IsTableOf}
use Rattle.point_meaning.specs.Occurrences.{is_event_of, is_bit_of}
use Rattle.point_meaning.specs.FromWalk.{IsPointSource}

-- a copy of an arm in a scope
abbrev pub copy_in : ℕ → PointArm → Copy
copy_in n x = record { scope = n; arm = Some x }

-- each arm has the name that its text gives it
abbrev pub ArmsAreNamed : Source → Type 0
ArmsAreNamed source = (n : ℕ) (x : PointArm) → Contains source.copies (copy_in n x) → name_of x.arm.comment x.arm.label ≡ Some x.name

-- Arms that stand at one place and are entered alike are one arm. (In text without macros no two arms share a place but the two of an `if`.)
abbrev pub PlacesTellArms : Source → Type 0
PlacesTellArms source = (m n : ℕ) (x y : PointArm) → Contains source.copies (copy_in m x) → Contains source.copies (copy_in n y)
    → x.arm.place ≡ y.arm.place → entered x.arm.comment ≡ entered y.arm.comment → x.arm ≡ y.arm

-- what belongs to a point by its place belongs to it as a candidate: the arms of one point are all off or all on
abbrev pub EventsAreOfPoints : Source → CoverOptions → Type 0
EventsAreOfPoints source options = (point : Identity) (n : ℕ) (x : PointArm) (c : Candidate)
    → Contains source.copies (copy_in n x) → IsCounted source options point c
    → is_event_of source point (event_of n x.arm) ≡ true → IsCounted source options point (arm_in n x)

-- so do bits
abbrev pub BitsAreOfPoints : Source → CoverOptions → Type 0
BitsAreOfPoints source options = (point : Identity) (v : Variable) (word bit : ℕ) (c : Candidate)
    → Contains source.variables v → word < v.words → bit < v.width → IsCounted source options point c
    → is_bit_of source options point v (word, bit) ≡ true → IsCounted source options point (bit_of v word bit)

-- an event of a copy of an arm is that of the point that a table has for the copy, and of no other
abbrev pub EventsHaveOnePoint : Source → CoverOptions → PointTable → Type 0
EventsHaveOnePoint source options t = (i n : ℕ) (x : PointArm) (point : Option ℕ) (k : ℕ) (p : Point)
    → slice_get source.copies i ≡ Some (copy_in n x) → slice_get t.arm_points i ≡ Some point → slice_get t.points k ≡ Some p
    → (is_event_of source (identity_in p) (event_of n x.arm) ≡ true) ↔ (point ≡ Some k)

-- the walk through some files names its arms
abbrev pub WalkNamesArms : Type 0
WalkNamesArms = (files : List SourceFile) (top clock : List ℕ) (source : Source) → IsPointSource files top clock source → ArmsAreNamed source

-- Each event of an arm that a point has candidates of is of a candidate of the point.
abbrev pub EventsTell : Type 0
EventsTell = (source : Source) (options : CoverOptions) → ArmsAreNamed source → PlacesTellArms source → EventsAreOfPoints source options

-- The same of bits.
abbrev pub BitsTell : Type 0
BitsTell = (source : Source) (options : CoverOptions) → BitsAreOfPoints source options

-- Each event is that of one point of a table or of none.
abbrev pub TablesTellEvents : Type 0
TablesTellEvents = (source : Source) (options : CoverOptions) (t : PointTable) → ArmsAreNamed source → PlacesTellArms source
    → IsTableOf source options t → EventsHaveOnePoint source options t

-- A list of the points stays one in any order.
abbrev pub OrderIsFree : Type 0
OrderIsFree = (source : Source) (options : CoverOptions) (ps qs : List Point) → IsPermutation ps qs → ArePoints source options ps → ArePoints source options qs

-- points in files of one name stand in one file
abbrev pub FilesHaveNames : List (List ℕ) → List Point → Type 0
FilesHaveNames names points = (p q : Point) → Contains points p → Contains points q → file_name names p ≡ file_name names q → p.place.file ≡ q.place.file

-- two points never have one key
abbrev pub KeysDiffer : Type 0
KeysDiffer = (source : Source) (options : CoverOptions) (names : List (List ℕ)) (points : List Point)
    → ArePoints source options points → ((p : Point) → Contains points p → IsPlainPoint names p) → FilesHaveNames names points
    → (j k : ℕ) (p q : Point) → slice_get points j ≡ Some p → slice_get points k ≡ Some q
    → key_text names p ≡ key_text names q → j ≡ k
