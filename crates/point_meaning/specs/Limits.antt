-- When the points of a source pass a limit (this project's own).
use Rattle.std.specs.Prelude.{ℕ, ◌<◌, ◌≤◌, List, Contains, length}
use Rattle.cov_types.specs.declared.limit.LimitName.{LimitName}
use Rattle.cov_types.specs.declared.limit.LimitName.TheVariants as limit
use Rattle.cov_points.specs.declared.options.CoverOptions.{CoverOptions}
use Rattle.cov_points.specs.declared.point.Point.{Point}
use Rattle.cov_points.specs.KeyText.{key_text}
use Rattle.point_meaning.specs.Source.{Source}
use Rattle.point_meaning.specs.Points.{ArePoints}

-- the points are within both limits
pub record AreWithin (names : List (List ℕ)) (points : List Point) : Type 0 where
  pub number : length points ≤ 1048576
  pub keys : (p : Point) → Contains points p → length (key_text names p) ≤ 65000

-- the limit that is passed: the number of points comes before the bytes of a key
pub data IsLimit (source : Source) (options : CoverOptions) (names : List (List ℕ)) : LimitName → Type 0 where
  of_points : {points : List Point} → ArePoints source options points → 1048576 < length points
      → IsLimit source options names limit.Points
  of_key : {points : List Point} {p : Point} → ArePoints source options points → length points ≤ 1048576
      → Contains points p → 65000 < length (key_text names p) → IsLimit source options names limit.KeyBytes
