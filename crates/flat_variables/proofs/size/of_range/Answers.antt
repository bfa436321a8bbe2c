use Rattle.std.proofs.Common.{ap, sym}
use Rattle.std.specs.Prelude.{unwrap_or}
use Rattle.scope_meaning.specs.Ranges.{scalar}
use Rattle.flat_variables.proofs.size.of_range.Goals as goal

pub returns-in-Ok-clause-value : goal.returns-in-Ok-clause-value
returns-in-Ok-clause-value g c = λ known h. sym (ap (λ x. unwrap_or x scalar) (c.in-Ok.ensures.value known h).1)

pub returns-in-Err-clause-value : goal.returns-in-Err-clause-value
returns-in-Err-clause-value g c = λ known h. c.of_fault.ensures.value known c.args.range.now (c.in-Err.ensures.value known h)
