-- What the typed form of a whole source keeps: its runs.
use Rattle.std.specs.Prelude.{◌≡◌, ℕ, List, map}
use Rattle.elab_types.specs.declared.flat_source.FlatVar.{FlatVar}
use Rattle.elab_types.specs.declared.flat_source.FlatProcess.{FlatProcess}
use Rattle.elab_types.specs.declared.flat_source.FlatSource.{FlatSource}
use Rattle.design_tree.specs.declared.design.Process.{Process}
use Rattle.design_tree.specs.declared.design.Design.{Design}
use Rattle.circuit_run.specs.States.{Bit, IsBitOf}
use Rattle.circuit_run.specs.Runs.{Run, IsRun}
use Rattle.circuit_run.specs.Twins.{SameRuns}
use Rattle.circuit_law.specs.OnlyRuns.{IsOnlyRun}
use Rattle.source_meaning.specs.Events.{Event}
use Rattle.flat_meaning.specs.Circuit as flat
use Rattle.design_meaning.specs.Circuit as design
use Rattle.design_meaning.specs.Reach.{drives_of}
use Rattle.typed_form.specs.TypedForm.{IsTypedForm}
use Rattle.std.specs.List.{AllZip}

-- A process of the design drives what that of the source drives, among the bits that the source has.
abbrev pub DrivesTheSame : List FlatVar → FlatProcess → Process → Type 0
DrivesTheSame vars p q = (b : Bit) → IsBitOf (map flat.var_of vars) b → drives_of q.body b ≡ (flat.process_of vars p).drives b

-- So do all processes of a design, one by one.
abbrev pub DriveTheSame : FlatSource → Design → Type 0
DriveTheSame source d = AllZip (DrivesTheSame source.vars) source.processes d.processes

-- On each list of rows a run of the source is one of its typed form: the same settled states, texts and flags, and the raised
-- counters are those that stand for the events of the trace.
abbrev pub KeepsRuns : Type 0
KeepsRuns =
    (source : FlatSource) (marks : Event → List ℕ) (d : Design) →
    IsTypedForm source marks d → DriveTheSame source d →
    (rows : List (List ℕ)) (r : Run Event) → IsRun (flat.circuit_of source) rows r →
    (t : Run ℕ) × IsRun (design.circuit_of d) rows t × SameRuns marks r t

-- Where the typed form has one run, the source has exactly one, which is that.
abbrev pub SourceRunsOnce : Type 0
SourceRunsOnce =
    (source : FlatSource) (marks : Event → List ℕ) (d : Design) →
    IsTypedForm source marks d → DriveTheSame source d →
    (rows : List (List ℕ)) (t : Run ℕ) → IsOnlyRun (design.circuit_of d) rows t →
    (r : Run Event) × IsOnlyRun (flat.circuit_of source) rows r × SameRuns marks r t
