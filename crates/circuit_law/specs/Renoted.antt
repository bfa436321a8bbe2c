-- The same circuit with other notes: each note is replaced by a list of notes of another kind. So an event stands for a
-- counter, and an arm's number for an event.
use Rattle.std.specs.Prelude.{◌≡◌, ℕ, List, map, flat_map}
use Rattle.circuit_run.specs.Outcomes.{Outcome}
use Rattle.circuit_run.specs.Circuits.{Circuit, Process}
use Rattle.circuit_run.specs.Runs.{Cycle, Run, IsRun}

module _ {N M : Type 0} (t : N → List M) where
  -- an outcome with other notes: state, updates, text and flags as they were
  abbrev pub renoted : Outcome N → Outcome M
  renoted o = record {
    state = o.state;
    updates = o.updates;
    text = o.text;
    notes = flat_map t o.notes;
    finished = o.finished;
    stopped = o.stopped;
  }

  -- the same process, noting otherwise
  abbrev pub renoted_process : Process N → Process M
  renoted_process p = record { kind = p.kind; run = λ s. renoted (p.run s); drives = p.drives }

  -- the same circuit, noting otherwise
  abbrev pub renoted_circuit : Circuit N → Circuit M
  renoted_circuit c = record { vars = c.vars; inputs = c.inputs; outputs = c.outputs; processes = map renoted_process c.processes }

  -- the same cycle with other notes
  abbrev pub renoted_cycle : Cycle N → Cycle M
  renoted_cycle k = record { settled = k.settled; notes = flat_map t k.notes; text = k.text; finished = k.finished; stopped = k.stopped }

  -- the same run with other notes
  abbrev pub renoted_run : Run N → Run M
  renoted_run r = record { opened = renoted r.opened; cycles = map renoted_cycle r.cycles }

  -- a run of a circuit, with other notes, is a run of the circuit with these notes
  abbrev pub RunsRenoted : Type 0
  RunsRenoted = (c : Circuit N) (rows : List (List ℕ)) (r : Run N) → IsRun c rows r → IsRun (renoted_circuit c) rows (renoted_run r)

  -- each run of the circuit with other notes comes from a run of the circuit
  abbrev pub RunsComeBack : Type 0
  RunsComeBack = (c : Circuit N) (rows : List (List ℕ)) (q : Run M) → IsRun (renoted_circuit c) rows q → (r : Run N) × IsRun c rows r × (renoted_run r ≡ q)
