-- Derived counts of the points of a table: each row has the plus and minus lists of the arms of its point, and the counter of its bits.
use Rattle.std.specs.Prelude.{◌≡◌, ℕ, ◌==◌, List, [], ◌∷◌, ◌++◌, map, filter, length, Some, All, Contains, slice_get, if◌then◌else◌}
use Rattle.std.specs.List.{list_any}
use Rattle.cov_points.specs.declared.point.Point.{Point}
use Rattle.cov_points.specs.declared.table.PointTable.{PointTable}
use Rattle.cov_points.specs.declared.table.TogglePoint.{TogglePoint}
use Rattle.design_tree.specs.declared.design.Design.{Design}
use Rattle.design_tree.specs.declared.instrumented.ToggleEntry.{ToggleEntry}
use Rattle.design_tree.specs.declared.instrumented.PointRow.{PointRow}
use Rattle.design_tree.specs.declared.instrumented.Instrumented.{Instrumented}
use Rattle.circuit_run.specs.Lists.{how_many, numbered}
use Rattle.design_meaning.specs.Valid.{IsValid}
use Rattle.counted_circuit.specs.CountedDesign.{IsCountedDesign}
use Rattle.counted_circuit.specs.Counts.{is_number}
use Rattle.counted_circuit.specs.Instrument.{IsPointRow, IsInstrumented}
use Rattle.counted_circuit.specs.DerivedLists.{HasLists}
use Rattle.counted_circuit.specs.Derived.{GivesPoints}

-- the numbers of the arms of a point of a table
abbrev pub arms_with : PointTable → ℕ → List ℕ
arms_with table k = map (λ a. a.0) (filter (λ a. is_number k a.1) (numbered 0 table.arm_points))

-- the plus and minus counters of some arms, one after the other
pub data HaveLists (carried : ℕ → List ℕ) (d : Design) : List ℕ → List ℕ → List ℕ → Type 0 where
  none : HaveLists carried d [] [] []
  more : {arm : ℕ} {arms plus minus others less : List ℕ} → HasLists carried d arm plus minus → HaveLists carried d arms others less
      → HaveLists carried d (arm ∷ arms) (plus ++ others) (minus ++ less)

-- the counter of the bits of a point, if it has bits
abbrev pub bit_counters : (ℕ → ℕ) → PointTable → ℕ → List ℕ
bit_counters counter_of table k = if list_any (λ t. t.point == k) table.toggles then counter_of k ∷ [] else []

-- the entry of a bit raises the counter of its point's bits
abbrev pub entry_with : (ℕ → ℕ) → TogglePoint → ToggleEntry
entry_with counter_of t = record { var = t.var; word = t.word; bit = t.bit; counter = counter_of t.point }

-- what the row of a point has
abbrev pub HasRow : (ℕ → List ℕ) → (ℕ → ℕ) → Design → PointTable → ℕ → PointRow → Type 0
HasRow carried counter_of d table k row =
    (plus : List ℕ) × HaveLists carried d (arms_with table k) plus row.minus × (row.plus ≡ plus ++ bit_counters counter_of table k)

-- Derived counts of a table: arms carry counters of their own or none, all bits of a point share one, which no arm carries and no other
-- point has, and rows are made of them.
pub record IsDerived (carried : ℕ → List ℕ) (counter_of : ℕ → ℕ) (d : Design) (table : PointTable) (names : List (List ℕ)) (arms : ℕ)
    (x : Instrumented) : Type 0 where
  pub design : IsCountedDesign carried d x.design arms
  pub toggles : x.toggles ≡ map (entry_with counter_of) table.toggles
  pub unshared : (arm : ℕ) → All (λ t. how_many (counter_of t.point) (carried arm) ≡ 0) table.toggles
  pub apart : (t u : TogglePoint) → Contains table.toggles t → Contains table.toggles u → counter_of t.point ≡ counter_of u.point → t.point ≡ u.point
  pub rows : (k : ℕ) (row : PointRow) → IsPointRow names table x k row → HasRow carried counter_of d table k row

-- Derived counts give the points of the table in every run.
abbrev pub DerivedCountsGive : Type 0
DerivedCountsGive = (carried : ℕ → List ℕ) (counter_of : ℕ → ℕ) (d : Design) (table : PointTable) (names : List (List ℕ)) (arms : ℕ)
    (x : Instrumented) → IsDerived carried counter_of d table names arms x → GivesPoints carried d table names arms x

-- With rows that give the points, one for each, a valid design instruments the design with the table.
abbrev pub RowsInstrument : Type 0
RowsInstrument = (carried : ℕ → List ℕ) (d : Design) (table : PointTable) (names : List (List ℕ)) (arms : ℕ) (x : Instrumented)
    → GivesPoints carried d table names arms x → IsValid x → length x.points ≡ length table.points
    → ((k : ℕ) (p : Point) → slice_get table.points k ≡ Some p → (row : PointRow) × IsPointRow names table x k row)
    → IsInstrumented d table names x
