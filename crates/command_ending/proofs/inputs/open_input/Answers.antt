use Rattle.std.proofs.Common.{refl}
use Rattle.command_ending.specs.Stops.{wants_memory}
use Rattle.command_ending.proofs.TakingLemmas.{cannot_be_opened, opened, unopened}
use Rattle.command_ending.proofs.inputs.open_input.Goals as goal

pub returns-in-Err-clause-err : goal.returns-in-Err-clause-err
returns-in-Err-clause-err g c = wants_memory refl

pub returns-in-Err-read_line-clause-err : goal.returns-in-Err-read_line-clause-err
returns-in-Err-read_line-clause-err g c = wants_memory refl

pub returns-in-Ok-open-clause-opened : goal.returns-in-Ok-open-clause-opened
returns-in-Ok-open-clause-opened g c = opened (g.F.Files.held c.args.files.now) c.args.name.now _ _ _ _ c.in-Ok-open.ensures.opened c.in-Ok-open.ensures.cause

pub returns-in-Err-open-clause-err : goal.returns-in-Err-open-clause-err
returns-in-Err-open-clause-err g c =
    unopened (g.F.Files.held c.args.files.now) c.args.name.now c.in-Ok.line _ _ c.in-Ok.ensures
    (cannot_be_opened _ _ _ _ c.in-Err-open.ensures.cause c.in-Err-open.ensures.reads c.in-Err-open.ensures.stores)
