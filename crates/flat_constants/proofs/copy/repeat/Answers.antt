use Rattle.std.proofs.Common.{ap, ◌∙◌}
use Rattle.flat_constants.proofs.Copies.{say, of_copy, of_copies, repeat_says}
use Rattle.flat_constants.proofs.copy.repeat.Goals as goal

pub returns : goal.returns
returns c = λ n ps h k.
    repeat_says n ps _ _ (ap say c.in_ok-count.ensures ∙ of_copy n c.args.count _ c.in_ok-times.was h)
    (of_copies ps c.args.parts _ c.in_ok-parts.was k)
