-- The typed form of the flat source of some files has the runs of the files' circuit, and no others: the proof.
use Rattle.std.proofs.Common.{subst}
use Rattle.circuit_run.specs.Circuits.{Circuit}
use Rattle.circuit_run.specs.Runs.{IsRun}
use Rattle.source_meaning.specs.Events.{Event}
use Rattle.flat_meaning.specs.Circuit as flat
use Rattle.flat_source_meaning.proofs.SameCircuit.{one_circuit, flat_has_the_circuit}
use Rattle.typed_form.proofs.Whole.{same_runs}
use Rattle.typed_form.proofs.OnlyRun.{source_runs_once}
use Rattle.circuit_law.specs.OnlyRuns.{IsOnlyRun}
use Rattle.circuit_run.specs.Runs.{Run}
use Rattle.circuit_run.specs.Twins.{SameRuns}
use Rattle.std.proofs.Common.{sym}
use Rattle.build_meaning.specs.FilesLaw.{FilesRunAsTyped, FilesRunOnce}

pub files_run_as_typed : FilesRunAsTyped
files_run_as_typed files top clock circuit source marks d c f typed drive rows r run =
    same_runs source marks d typed drive rows r
    (subst (λ (x : Circuit Event). IsRun x rows r)
    (one_circuit files top clock circuit (flat.circuit_of source) c (flat_has_the_circuit files top clock source f)) run)

pub files_run_once : FilesRunOnce
files_run_once files top clock circuit source marks d c f typed drive rows t only =
    subst (λ (x : Circuit Event). (r : Run Event) × IsOnlyRun x rows r × SameRuns marks r t)
    (sym (one_circuit files top clock circuit (flat.circuit_of source) c (flat_has_the_circuit files top clock source f)))
    (source_runs_once source marks d typed drive rows t only)
