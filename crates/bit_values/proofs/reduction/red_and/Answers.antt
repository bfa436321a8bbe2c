use Rattle.std.proofs.Common.{◌∙◌, ap}
use Rattle.std.specs.Prelude.{◌==◌}
use Rattle.bit_values.specs.Values as value
use Rattle.bit_values.proofs.Widths.{ones_is}
use Rattle.bit_values.proofs.reduction.red_and.Goals as goal

pub returns-clause-value : goal.returns-clause-value
returns-clause-value c = c.flag.ensures.value ∙ ap (λ ones. value.flag (c.args.a.bits == ones)) (ones_is c.args.a.width c.args.a.at_most)
