-- What counts keep, and what they come to, over whole runs.
use Rattle.std.specs.Prelude.{ℕ, List, ◌↔◌}
use Rattle.cov_points.specs.declared.table.PointTable.{PointTable}
use Rattle.design_tree.specs.declared.design.Design.{Design}
use Rattle.design_tree.specs.declared.instrumented.Instrumented.{Instrumented}
use Rattle.circuit_run.specs.Runs.{Run, IsRun}
use Rattle.circuit_law.specs.Renoted.{renoted_run}
use Rattle.design_meaning.specs.Circuit.{circuit_of}
use Rattle.design_meaning.specs.FlowFaults.{Flows}
use Rattle.counted_circuit.specs.Circuits.{told_circuit}
use Rattle.counted_circuit.specs.CountedDesign.{IsCountedDesign}
use Rattle.counted_circuit.specs.Instrument.{CountsRun}
use Rattle.counted_circuit.specs.Plain.{IsPlainlyCounted}

-- A run of a design that tells its arms, with counters in the place of arms, is a run of the design with counts.
abbrev pub CountedRuns : Type 0
CountedRuns = (carried : ℕ → List ℕ) (d counted : Design) (arms : ℕ) (rows : List (List ℕ)) (r : Run ℕ)
    → IsCountedDesign carried d counted arms → IsRun (told_circuit d) rows r → IsRun (circuit_of counted) rows (renoted_run carried r)

-- A design with counts flows exactly where the design does.
abbrev pub CountsKeepFlow : Type 0
CountsKeepFlow = (carried : ℕ → List ℕ) (d counted : Design) (arms : ℕ) → IsCountedDesign carried d counted arms → Flows counted ↔ Flows d

-- With one counter for each point, the design with counts has the run of the design, and each point's count is the number of
-- its occurrences.
abbrev pub PlainCountsArePoints : Type 0
PlainCountsArePoints = (d : Design) (table : PointTable) (names : List (List ℕ)) (arms : ℕ) (x : Instrumented)
    (rows : List (List ℕ)) (r : Run ℕ)
    → IsPlainlyCounted d table names arms x → IsRun (told_circuit d) rows r → CountsRun table names x rows r
