use Rattle.typed_valid_laws.proofs.TypedSteps.{typed_steps_are_formed}
use Rattle.typed_valid_laws.proofs.TypedWidths.{typed_forms_agree}
use Rattle.typed_valid_laws.proofs.typed_forms_agree.Goals as goal

pub returns : goal.returns
returns c = record { expressions = typed_forms_agree; steps = typed_steps_are_formed }
