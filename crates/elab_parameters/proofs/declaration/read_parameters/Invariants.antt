use Rattle.std.proofs.Common.{List, drop}
use Rattle.vlog_tree.specs.declared.item.ParamForm.{ParamForm}
use Rattle.scope_meaning.specs.Constants.{Names}
use Rattle.scope_meaning.specs.Scope.{Here, At, frames}
use Rattle.elab_names.specs.Frames.{AreFrames}
use Rattle.elab_overrides.specs.Given.{AreGiven}
use Rattle.elab_parameters.specs.Forms.{HasSize}
use Rattle.elab_parameters.proofs.Readings.{IsReading}
use Rattle.elab_parameters.proofs.declaration.read_parameters.Given as goal

abbrev pub invariant-loop-of : goal.invariant-loop-of
invariant-loop-of l = (here : Here) (at : At) (before : Names) (form : ParamForm) → AreFrames (frames here at) l.initial.names.items → AreGiven here.given
    l.given
    → HasSize before form l.size
    → IsReading here at before l.local form l.declared (drop l.of-index l.declared) l.found l.names.items
