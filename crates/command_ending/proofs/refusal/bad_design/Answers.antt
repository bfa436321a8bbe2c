use Rattle.std.proofs.Common.{refl, ap}
use Rattle.command_ending.specs.Answer.{refused_with}
use Rattle.command_ending.specs.Stops.{refused, without_memory}
use Rattle.command_ending.specs.declared.status.Status.TheVariants.{BadDesign}
use Rattle.command_ending.proofs.refusal.bad_design.Goals as goal

pub returns-in-Ok : goal.returns-in-Ok
returns-in-Ok c = refused BadDesign c.in-Ok.line refl (ap (refused_with BadDesign) c.in-Ok.ensures)

pub returns-in-Err : goal.returns-in-Err
returns-in-Err c = without_memory
