-- One counter for each point: what each arm carries, and what an instrumented design with these counters is.
use Rattle.std.specs.Prelude.{◌≡◌, ℕ, List, [], ◌∷◌, map, Option, Some, None, slice_index_or}
use Rattle.cov_points.specs.declared.table.PointTable.{PointTable}
use Rattle.cov_points.specs.declared.table.TogglePoint.{TogglePoint}
use Rattle.design_tree.specs.declared.design.Design.{Design}
use Rattle.design_tree.specs.declared.instrumented.ToggleEntry.{ToggleEntry}
use Rattle.design_tree.specs.declared.instrumented.PointRow.{PointRow}
use Rattle.design_tree.specs.declared.instrumented.Instrumented.{Instrumented}
use Rattle.counted_circuit.specs.CountedDesign.{IsCountedDesign}
use Rattle.counted_circuit.specs.Instrument.{IsPointRow}

-- one number, or none
abbrev pub as_list : Option ℕ → List ℕ
as_list None = []
as_list (Some n) = n ∷ []

-- an arm carries its point, if it has one
abbrev pub carried_points : PointTable → ℕ → List ℕ
carried_points table arm = as_list (slice_index_or table.arm_points arm None)

-- a bit raises its point
abbrev pub entry_of : TogglePoint → ToggleEntry
entry_of t = record { var = t.var; word = t.word; bit = t.bit; counter = t.point }

-- The counters are the points: each arm and each bit raises its point, and the row of a point has its counter alone.
pub record IsPlainlyCounted (d : Design) (table : PointTable) (names : List (List ℕ)) (arms : ℕ) (x : Instrumented) : Type 0 where
  pub design : IsCountedDesign (carried_points table) d x.design arms
  pub toggles : x.toggles ≡ map entry_of table.toggles
  pub plus : (k : ℕ) (row : PointRow) → IsPointRow names table x k row → row.plus ≡ k ∷ []
  pub minus : (k : ℕ) (row : PointRow) → IsPointRow names table x k row → row.minus ≡ []
