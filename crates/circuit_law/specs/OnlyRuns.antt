-- The one run of a circuit.
use Rattle.std.specs.Prelude.{◌≡◌, ℕ, List}
use Rattle.circuit_run.specs.Circuits.{Circuit}
use Rattle.circuit_run.specs.Runs.{Run, IsRun}
use Rattle.circuit_run.specs.Twins.{TwinCircuits}

-- this is a run of the circuit on these rows, and there is no other
abbrev pub IsOnlyRun : {N : Type 0} → Circuit N → List (List ℕ) → Run N → Type 0
IsOnlyRun {N} c rows r = IsRun c rows r × ((other : Run N) → IsRun c rows other → other ≡ r)

-- where the twin of a circuit has a run, so has the circuit
abbrev pub TwinsRunBack : Type 0 → Type 0 → Type 0
TwinsRunBack N M =
    (marks : N → List M) (c : Circuit N) (d : Circuit M) → TwinCircuits marks c d →
    (rows : List (List ℕ)) (t : Run M) → IsRun d rows t → (r : Run N) × IsRun c rows r
