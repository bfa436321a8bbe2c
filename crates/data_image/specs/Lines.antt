-- Private: the lines of points, and how long they are at most.
use Rattle.std.specs.Prelude.{ℕ, ◌+◌, List, length}
use Rattle.cov_dat.specs.DataText.{record_text}
use Rattle.circuit_run.specs.Counting.{at_bits}
use Rattle.design_tree.specs.declared.instrumented.PointRow.{PointRow}
use Rattle.design_meaning.specs.Runs.{point_count}

-- the line of a point
abbrev pub line_of : ℕ → List ℕ → PointRow → List ℕ
line_of bits counters point = record_text (point.key, at_bits bits (point_count counters point))

-- the most bytes that it has
abbrev pub most_bytes : PointRow → ℕ
most_bytes point = length point.key + 26
