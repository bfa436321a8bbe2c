use Rattle.std.proofs.Common.{ap, ◌∙◌}
use Rattle.flat_constants.proofs.Copies.{say, of_copy, unary_says}
use Rattle.flat_constants.proofs.copy.unary.Goals as goal

pub returns : goal.returns
returns c = λ a h.
    unary_says c.args.op a _ (ap say c.in_ok-of.ensures ∙ of_copy a c.args.of _ c.in_ok-operand.was h)
