-- The data file of a run's points (docs/formats.md, "Data file").
use Rattle.std.specs.Prelude.{ℕ, ◌-◌, ◌^◌, List, [], map, length}
use Rattle.cov_dat.specs.Merging.{Counts}
use Rattle.cov_dat.specs.DataText.{lines_text}
use Rattle.circuit_run.specs.Counting.{at_bits}
use Rattle.design_tree.specs.declared.instrumented.PointRow.{PointRow}
use Rattle.design_meaning.specs.Runs.{point_count}

-- the key of each point with its count in so many bits, from what the counters are
abbrev pub counts_of : ℕ → List ℕ → List PointRow → Counts
counts_of bits counters points = map (λ point. (point.key, at_bits bits (point_count counters point))) points

-- each key with the greatest count of all, which has the most digits
abbrev pub greatest_counts : List PointRow → Counts
greatest_counts points = map (λ point. (point.key, 2 ^ 64 - 1)) points

-- the room for the points: the length of their longest data file
abbrev pub room_of : List PointRow → ℕ
room_of points = length (lines_text (greatest_counts points))

-- what contracts see of a text in room that was taken before
pub record TextInRoom : Type 0 where
  pub text : List ℕ
  pub room : ℕ

-- no text as yet
abbrev pub empty : ℕ → TextInRoom
empty room = record { text = []; room = room }
