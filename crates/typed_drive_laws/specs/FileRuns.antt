-- That the typed form of the flat source of some files has the runs of the files' circuit: what `build_meaning` says where the
-- processes drive the same bits, which they do.
use Rattle.std.specs.Prelude.{ℕ, List}
use Rattle.vlog_tree.specs.declared.module.SourceFile.{SourceFile}
use Rattle.elab_types.specs.declared.flat_source.FlatSource.{FlatSource}
use Rattle.design_tree.specs.declared.design.Design.{Design}
use Rattle.circuit_run.specs.Circuits.{Circuit}
use Rattle.circuit_run.specs.Runs.{Run, IsRun}
use Rattle.circuit_run.specs.Twins.{SameRuns}
use Rattle.circuit_law.specs.OnlyRuns.{IsOnlyRun}
use Rattle.source_meaning.specs.Events.{Event}
use Rattle.flat_source_meaning.specs.SourceCircuit.{IsCircuitOf}
use Rattle.flat_source_meaning.specs.FlatSources.{IsFlatSource}
use Rattle.design_meaning.specs.Circuit.{circuit_of}
use Rattle.typed_form.specs.TypedForm.{IsTypedForm}

-- On each list of rows a run of the files' circuit is one of the design: the same settled states, texts and flags, and the
-- raised counters are those that stand for the events of the trace.
abbrev pub RunsAreTyped : Type 0
RunsAreTyped = (files : List SourceFile) (top clock : List ℕ) (circuit : Circuit Event) (flat : FlatSource) (marks : Event → List ℕ) (d : Design)
    → IsCircuitOf files top clock circuit → IsFlatSource files top clock flat → IsTypedForm flat marks d
    → (rows : List (List ℕ)) (r : Run Event) → IsRun circuit rows r
    → (t : Run ℕ) × IsRun (circuit_of d) rows t × SameRuns marks r t

-- Where the design has one run on some rows, the files' circuit has exactly one, which is that.
abbrev pub TypedRunIsOnly : Type 0
TypedRunIsOnly = (files : List SourceFile) (top clock : List ℕ) (circuit : Circuit Event) (flat : FlatSource) (marks : Event → List ℕ) (d : Design)
    → IsCircuitOf files top clock circuit → IsFlatSource files top clock flat → IsTypedForm flat marks d
    → (rows : List (List ℕ)) (t : Run ℕ) → IsOnlyRun (circuit_of d) rows t
    → (r : Run Event) × IsOnlyRun circuit rows r × SameRuns marks r t
