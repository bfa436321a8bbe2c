use Rattle.std.proofs.Common.{List, ℕ, ◌++◌, Option, subst}
use Rattle.scope_meaning.specs.Constants.{either_wrong}
use Rattle.elab_constants.specs.Reads.{Gives}
use Rattle.elab_overrides.specs.Given.{AreGiven, given_at}
use Rattle.elab_overrides.proofs.GivenValues.{at_some, at_none}
use Rattle.elab_overrides.proofs.given.with_value_at.Goals as goal

pub returns-in-Some : goal.returns-in-Some
returns-in-Some c = λ before w r h k.
    subst (λ (o : Option (List ℕ)). Gives (AreGiven (before ++ given_at o r.meaning)) (either_wrong w r.wrong) c.with_value.result)
    (at_some c.args.parameters.now c.args.at c.at.result c.in-Some.name c.as_slice.result.now c.at.ensures c.in-Some.is c.as_slice.ensures)
    (c.with_value.ensures before w r h k)

pub returns-in-None : goal.returns-in-None
returns-in-None c = λ before w r h k.
    subst (λ (o : Option (List ℕ)). Gives (AreGiven (before ++ given_at o r.meaning)) (either_wrong w r.wrong) c.without_name.result)
    (at_none c.args.parameters.now c.args.at c.at.result c.at.ensures c.in-None.is)
    (c.without_name.ensures before w r h k)
