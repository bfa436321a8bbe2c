-- The typed form of the flat source of some files has the runs of the files' circuit, and no others.
use Rattle.std.proofs.Common.{sym, subst}
use Rattle.circuit_run.specs.Circuits.{Circuit}
use Rattle.circuit_run.specs.Runs.{Run, IsRun}
use Rattle.circuit_run.specs.Twins.{SameRuns}
use Rattle.circuit_law.specs.OnlyRuns.{IsOnlyRun}
use Rattle.source_meaning.specs.Events.{Event}
use Rattle.flat_meaning.specs.Circuit as flat
use Rattle.flat_source_meaning.proofs.SameCircuit.{one_circuit, flat_has_the_circuit}
use Rattle.typed_form.proofs.Whole.{same_runs}
use Rattle.typed_form.proofs.OnlyRun.{source_runs_once}
use Rattle.typed_drive_laws.specs.FileRuns.{RunsAreTyped, TypedRunIsOnly}
use Rattle.typed_drive_laws.proofs.Drives.{typed_drives_the_same}
use Rattle.typed_drive_laws.proofs.FormedSource.{flat_bodies_are_formed}

pub runs_are_typed : RunsAreTyped
runs_are_typed files top clock circuit source marks d c f typed rows r run =
    same_runs source marks d typed (typed_drives_the_same source marks d (flat_bodies_are_formed files top clock source f) typed) rows r
    (subst (λ (x : Circuit Event). IsRun x rows r)
    (one_circuit files top clock circuit (flat.circuit_of source) c (flat_has_the_circuit files top clock source f)) run)

pub typed_run_is_only : TypedRunIsOnly
typed_run_is_only files top clock circuit source marks d c f typed rows t only =
    subst (λ (x : Circuit Event). (r : Run Event) × IsOnlyRun x rows r × SameRuns marks r t)
    (sym (one_circuit files top clock circuit (flat.circuit_of source) c (flat_has_the_circuit files top clock source f)))
    (source_runs_once source marks d typed (typed_drives_the_same source marks d (flat_bodies_are_formed files top clock source f) typed) rows t only)
