-- What a table of points is.
use Rattle.std.specs.Prelude.{◌≡◌, ◌↔◌, ℕ, ◌<◌, List, Option, Some, None, Contains, slice_get}
use Rattle.std.specs.List.{AllZip}
use Rattle.cov_points.specs.declared.options.CoverOptions.{CoverOptions}
use Rattle.cov_points.specs.declared.point.Point.{Point}
use Rattle.cov_points.specs.declared.table.PointTable.{PointTable}
use Rattle.cov_points.specs.declared.table.TogglePoint.{TogglePoint}
use Rattle.point_meaning.specs.Arms.{PointArm}
use Rattle.point_meaning.specs.Source.{Source, Variable, Copy}
use Rattle.point_meaning.specs.Candidates.{Candidate, arm_in, bit_of, IsOn, identity_of}
use Rattle.point_meaning.specs.Points.{identity_in, ArePoints}

-- a candidate has the point with this number, which it has exactly where it isn't off, or none
abbrev pub IsPointOf : Source → CoverOptions → List Point → Candidate → Option ℕ → Type 0
IsPointOf source options points c None = IsOn source options c → ⊥
IsPointOf source options points c (Some k) =
    IsOn source options c × (p : Point) × (slice_get points k ≡ Some p) × (identity_in p ≡ identity_of source c)

-- a copy without an arm of its own has no point
abbrev pub IsPointOfArm : Source → CoverOptions → List Point → ℕ → Option PointArm → Option ℕ → Type 0
IsPointOfArm source options points n None point = point ≡ None
IsPointOfArm source options points n (Some x) point = IsPointOf source options points (arm_in n x) point

-- a copy of an arm has this point
abbrev pub IsPointOfCopy : Source → CoverOptions → List Point → Copy → Option ℕ → Type 0
IsPointOfCopy source options points copy point = IsPointOfArm source options points copy.scope copy.arm point

-- the bit has this point
abbrev pub IsToggle : Source → CoverOptions → List Point → TogglePoint → Type 0
IsToggle source options points t =
    (v : Variable) × (slice_get source.variables t.var ≡ Some v) × IsPointOf source options points (bit_of v t.word t.bit) (Some t.point)

-- bits stand in order of variable, word and place
pub data IsBefore : TogglePoint → TogglePoint → Type 0 where
  by_var : {t u : TogglePoint} → t.var < u.var → IsBefore t u
  by_word : {t u : TogglePoint} → t.var ≡ u.var → t.word < u.word → IsBefore t u
  by_bit : {t u : TogglePoint} → t.var ≡ u.var → t.word ≡ u.word → t.bit < u.bit → IsBefore t u

-- the table of a source: each point once, to each copy of an arm its point or none, and to each bit that has one its point
pub record IsTableOf (source : Source) (options : CoverOptions) (t : PointTable) : Type 0 where
  pub points : ArePoints source options t.points
  pub arms : AllZip (IsPointOfCopy source options t.points) source.copies t.arm_points
  pub toggles : (row : TogglePoint) → Contains t.toggles row ↔ IsToggle source options t.points row
  pub ascends : (j k : ℕ) (a b : TogglePoint) → slice_get t.toggles j ≡ Some a → slice_get t.toggles k ≡ Some b → j < k → IsBefore a b
