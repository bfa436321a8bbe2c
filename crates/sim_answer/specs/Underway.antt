-- Runs that have not come to their end.
use Rattle.std.specs.Prelude.{◌≡◌, ◌≢◌, ℕ, List, [], ◌∷◌, ◌++◌, All}
use Rattle.design_tree.specs.declared.instrumented.Instrumented.{Instrumented}
use Rattle.circuit_run.specs.Ends.{End, goes}
use Rattle.design_meaning.specs.Cycles.{Between, IsStart, IsCycle}
use Rattle.design_meaning.specs.FlowFaults.{Flows}
use Rattle.design_meaning.specs.MachineLaws.{AreCycles}
use Rattle.design_meaning.specs.Orders.{IsOrder}
use Rattle.design_meaning.specs.Runs.{IsRun}
use Rattle.design_meaning.specs.SettledLaws.{IsRow}
use Rattle.design_meaning.specs.States.{IsStateOf}
use Rattle.design_meaning.specs.Valid.{IsValidDesign}

-- Behind the start and a cycle for each of these rows of values a run stands here, has printed this text, and goes on.
pub record IsUnderway (x : Instrumented) (done : List (List ℕ)) (m : Between) (text : List ℕ) : Type 0 where
  pub first : Between
  pub opening : List ℕ
  pub lines : List ℕ
  pub start : IsStart x first opening goes
  pub cycles : AreCycles x first done m lines goes
  pub prints : text ≡ opening ++ lines

-- a start that sets no flag
abbrev pub StartsGoOn : Type 0
StartsGoOn = (x : Instrumented) (m : Between) (text : List ℕ) → IsStart x m text goes → IsUnderway x [] m text

-- a cycle that sets no flag
abbrev pub CyclesGoOn : Type 0
CyclesGoOn = (x : Instrumented) (done : List (List ℕ)) (m after : Between) (row text line : List ℕ)
    → IsUnderway x done m text → IsCycle x m row after line goes → IsUnderway x (done ++ row ∷ []) after (text ++ line)

-- with a cycle that sets a flag the run is at its end, whatever rows follow
abbrev pub FlagsEnd : Type 0
FlagsEnd = (x : Instrumented) (done rest : List (List ℕ)) (m after : Between) (row text line : List ℕ) (end : End)
    → IsUnderway x done m text → IsCycle x m row after line end → end ≢ goes → IsRun x (done ++ row ∷ rest) (text ++ line) end after.counts

-- without a further row it is at its end
abbrev pub RowsEnd : Type 0
RowsEnd = (x : Instrumented) (done : List (List ℕ)) (m : Between) (text : List ℕ) → IsUnderway x done m text → IsRun x done text goes m.counts

-- a run with all these rows prints what was printed so far, and then more
pub record PrintsOn (x : Instrumented) (rows : List (List ℕ)) (text : List ℕ) : Type 0 where
  pub more : List ℕ
  pub end : End
  pub counts : List ℕ
  pub run : IsRun x rows (text ++ more) end counts

-- whatever rows follow, a run goes on to its end
abbrev pub RunsGoOn : Type 0
RunsGoOn = (x : Instrumented) (order : List ℕ) (done rest : List (List ℕ)) (m : Between) (text : List ℕ)
    → IsValidDesign x.design → Flows x.design → IsOrder x.design order → IsStateOf x.design m.registers → All (IsRow x.design) rest
    → IsUnderway x done m text → PrintsOn x (done ++ rest) text
