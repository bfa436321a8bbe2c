use Rattle.elab_names.proofs.Agreement.{environments}
use Rattle.elab_names.proofs.visible.VisibleNames.new.Goals as goal

pub returns : goal.returns
returns c = record { environment = λ fs are. environments fs c.args.scopes.now are; frames = λ fs are. are }
