use Rattle.std.proofs.Common.{subst}
use Rattle.std.specs.Prelude.{IfOk}
use Rattle.scope_meaning.specs.Heads.{Choice}
use Rattle.elab_heads.specs.Choices.{IsChoice, Chooses}
use Rattle.elab_heads.proofs.Choices.{chosen-some, chosen-none}
use Rattle.elab_heads.proofs.choice.chosen_body.Goals as goal

pub returns-in-Some : goal.returns-in-Some
returns-in-Some c = λ known chooses.
    subst (λ (o : Choice). IfOk c.body_at.result (IsChoice o))
    (chosen-some known c.args.arms.now c.args.last.now c.args.first c.in-Some.at (subst (Chooses known c.args.arms.now) c.in-Some.is chooses)) c.body_at.ensures

pub returns-in-None : goal.returns-in-None
returns-in-None c = λ known chooses.
    let arms = c.args.arms.now in
    let last = c.args.last.now in
    subst (λ (o : Choice). IfOk c.body_at-in-None.result (IsChoice o))
    (chosen-none known arms last c.args.first (subst (Chooses known arms) c.in-None.is chooses))
    c.body_at-in-None.ensures
