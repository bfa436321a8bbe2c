use Rattle.flat_constants.proofs.Copies.{of_copy, choice_says}
use Rattle.flat_constants.proofs.copy.choose.Goals as goal

pub returns : goal.returns
returns c = λ t a b g h k.
    choice_says t a b c.in_ok-on.on c.in_ok-first.first c.in_ok-second.second c.choice.result (of_copy t c.args.test _ c.in_ok-on.was g)
    (of_copy a c.args.yes _ c.in_ok-first.was h) (of_copy b c.args.no _ c.in_ok-second.was k) c.choice.ensures
