use Rattle.flat_meaning.proofs.SameMeaning.{same_meaning, same_act}
use Rattle.flat_meaning.proofs.SameTargets as targets
use Rattle.flat_laws.proofs.flat_form.Goals as goal

pub returns-clause-meaning : goal.returns-clause-meaning
returns-clause-meaning c = λ vars env e flat form. same_meaning vars form

pub returns-clause-run : goal.returns-clause-run
returns-clause-run c = λ vars env st flat form. same_act vars form

pub returns-clause-targets : goal.returns-clause-targets
returns-clause-targets c = λ vars env st flat form. targets.same_targets vars form
