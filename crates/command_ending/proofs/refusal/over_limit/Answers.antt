use Rattle.std.proofs.Common.{refl, ap}
use Rattle.command_ending.specs.Answer.{refused_with}
use Rattle.command_ending.specs.Stops.{refused, without_memory}
use Rattle.command_ending.specs.declared.status.Status.TheVariants.{Limit}
use Rattle.command_ending.proofs.refusal.over_limit.Goals as goal

pub returns-in-Ok : goal.returns-in-Ok
returns-in-Ok c = refused Limit c.in-Ok.line refl (ap (refused_with Limit) c.in-Ok.ensures)

pub returns-in-Err : goal.returns-in-Err
returns-in-Err c = without_memory
