-- That the arms which a typed form tells have the numbers of the source's rows of arms.
use Rattle.std.specs.Prelude.{◌≡◌, ℕ, List, [], length}
use Rattle.std.specs.List.{flat_map}
use Rattle.vlog_tree.specs.declared.module.SourceFile.{SourceFile}
use Rattle.elab_types.specs.declared.flat_source.FlatSource.{FlatSource}
use Rattle.design_tree.specs.declared.design.Design.{Design}
use Rattle.source_meaning.specs.Events.{Event, unwritten}
use Rattle.flat_source_meaning.specs.FlatSources.{IsFlatSource}
use Rattle.typed_form.specs.TypedForm.{IsTypedForm}
use Rattle.counted_circuit.specs.CountedDesign.{IsCountedDesign}
use Rattle.typed_arm_laws.specs.FlatArms.{events_at}

-- Where no arm without a point carries counters, the typed form with counts for events is the typed form without, with counts
-- at the arms whose rows have those events: the arm with the number k is that of the k-th row, and there are as many arms as
-- rows.
abbrev pub ArmsHaveTheirRows : Type 0
ArmsHaveTheirRows = (files : List SourceFile) (top clock : List ℕ) (flat : FlatSource) (marks : Event → List ℕ) (d : Design)
    → IsFlatSource files top clock flat → IsTypedForm flat (λ e. []) d → ((e : Event) → e.arm ≡ unwritten → marks e ≡ [])
    → (x : Design) × IsTypedForm flat marks x × IsCountedDesign (λ k. flat_map marks (events_at flat.arms k)) d x (length flat.arms)
