use Rattle.std.proofs.Common.{◌∙◌}
use Rattle.elab_names.proofs.Tables.{declares-is}
use Rattle.elab_names.proofs.scope_names.ScopeNames.declares.Goals as goal

pub returns : goal.returns
returns c = λ f is. c.contains.ensures ∙ declares-is f c.args.self.now c.args.name.now is
