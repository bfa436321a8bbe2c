use Rattle.std.proofs.Common.{ap, ◌∙◌}
use Rattle.flat_constants.proofs.Copies.{say, of_copy, binary_says}
use Rattle.flat_constants.proofs.copy.binary.Goals as goal

pub returns : goal.returns
returns c = λ a b h k.
    binary_says c.args.op a b _ _ (ap say c.in_ok-left.ensures ∙ of_copy a c.args.left _ c.in_ok-first.was h)
    (ap say c.in_ok-right.ensures ∙ of_copy b c.args.right _ c.in_ok-second.was k)
