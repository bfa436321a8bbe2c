-- What instrumenting a design with a table of points gives, by runs that tell arms and runs that raise counters.
use Rattle.std.specs.Prelude.{◌≡◌, ◌↔◌, ℕ, List, [], Some, Contains, length, slice_get}
use Rattle.cov_points.specs.declared.point.Point.{Point}
use Rattle.cov_points.specs.declared.table.PointTable.{PointTable}
use Rattle.cov_points.specs.KeyText.{key_text}
use Rattle.design_tree.specs.declared.design.Design.{Design}
use Rattle.design_tree.specs.declared.instrumented.PointRow.{PointRow}
use Rattle.design_tree.specs.declared.instrumented.Instrumented.{Instrumented}
use Rattle.circuit_run.specs.Runs.{Run, IsRun}
use Rattle.circuit_law.specs.Renoted.{renoted_run}
use Rattle.design_meaning.specs.Valid.{IsValid}
use Rattle.design_meaning.specs.FlowFaults.{Flows}
use Rattle.counted_circuit.specs.Circuits.{told_circuit}
use Rattle.design_meaning.specs.Circuit.{circuit_of}
use Rattle.design_meaning.specs.Runs.{row_count}
use Rattle.counted_circuit.specs.Counts.{point_occurrences}

-- no note
abbrev pub nothing : ℕ → List ℕ
nothing n = []

-- a run without its notes: its states, texts and flags
abbrev pub seen : Run ℕ → Run ℕ
seen = renoted_run nothing

-- the row of a point: the one with its key
abbrev pub IsPointRow : List (List ℕ) → PointTable → Instrumented → ℕ → PointRow → Type 0
IsPointRow names table x k row = Contains x.points row × (p : Point) × (slice_get table.points k ≡ Some p) × (row.key ≡ key_text names p)

-- A run of the instrumented design beside one of the given design: the same states, texts and flags, and each point's
-- count is the number of times that its arms were entered and its bits changed.
pub record CountsRun (table : PointTable) (names : List (List ℕ)) (x : Instrumented) (rows : List (List ℕ)) (r : Run ℕ) : Type 0 where
  pub counting : Run ℕ
  pub run : IsRun (circuit_of x.design) rows counting
  pub same : seen counting ≡ seen r
  pub counted : (k : ℕ) (row : PointRow) → IsPointRow names table x k row → row_count x counting row ≡ point_occurrences table r k

-- An instrumented design of a design and a table of its points. (That keys ascend is a condition of a valid design.)
pub record IsInstrumented (d : Design) (table : PointTable) (names : List (List ℕ)) (x : Instrumented) : Type 0 where
  pub valid : IsValid x
  pub flows : Flows x.design ↔ Flows d
  pub vars : x.design.vars ≡ d.vars
  pub inputs : x.design.inputs ≡ d.inputs
  pub outputs : x.design.outputs ≡ d.outputs
  pub as_many : length x.points ≡ length table.points
  pub each : (k : ℕ) (p : Point) → slice_get table.points k ≡ Some p → (row : PointRow) × IsPointRow names table x k row
  pub runs : (rows : List (List ℕ)) (r : Run ℕ) → IsRun (told_circuit d) rows r → CountsRun table names x rows r
