use Rattle.std.proofs.Common.{ap, refl}
use Rattle.command_ending.specs.Answer.{refused_with}
use Rattle.command_ending.specs.Stops.{refused, without_memory}
use Rattle.command_ending.specs.declared.status.Status.TheVariants.{BadData}
use Rattle.command_ending.proofs.refusal.bad_design_file.Goals as goal

pub returns-in-Ok : goal.returns-in-Ok
returns-in-Ok c = refused BadData c.in-Ok.line refl (ap (refused_with BadData) c.in-Ok.ensures)

pub returns-in-Err : goal.returns-in-Err
returns-in-Err c = without_memory
