use Rattle.scope_meaning.proofs.WalkLaws.{walks_agree}
use Rattle.scope_laws.proofs.walks.Goals as goal

pub returns : goal.returns
returns c = walks_agree
