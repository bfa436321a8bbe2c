-- That the processes of a typed form drive the bits that those of its source drive.
use Rattle.std.specs.Prelude.{ℕ, List}
use Rattle.vlog_tree.specs.declared.module.SourceFile.{SourceFile}
use Rattle.elab_types.specs.declared.flat_source.FlatSource.{FlatSource}
use Rattle.design_tree.specs.declared.design.Design.{Design}
use Rattle.source_meaning.specs.Events.{Event}
use Rattle.flat_source_meaning.specs.FlatSources.{IsFlatSource}
use Rattle.typed_form.specs.TypedForm.{IsTypedForm}
use Rattle.typed_form.specs.WholeLaw.{DriveTheSame}
use Rattle.typed_drive_laws.specs.FormedBodies.{AreFormed}

-- The bodies of the flat source of some files are well formed.
abbrev pub FlatBodiesAreFormed : Type 0
FlatBodiesAreFormed = (files : List SourceFile) (top clock : List ℕ) (flat : FlatSource) → IsFlatSource files top clock flat → AreFormed flat

-- Where the bodies of a source are well formed, the processes of its typed form drive, one by one, what those of the source do.
abbrev pub TypedDrivesTheSame : Type 0
TypedDrivesTheSame = (flat : FlatSource) (marks : Event → List ℕ) (d : Design) → AreFormed flat → IsTypedForm flat marks d → DriveTheSame flat d
