use Rattle.std.proofs.Common.{ap, refl, Err}
use Rattle.command_ending.specs.Stops.{cannot_read, wants_memory}
use Rattle.command_ending.proofs.TakingLemmas.{unopened}
use Rattle.command_ending.proofs.inputs.take_input.Goals as goal

pub returns-in-Err-clause-err : goal.returns-in-Err-clause-err
returns-in-Err-clause-err g c = wants_memory refl

pub returns-in-Err-read_line-clause-err : goal.returns-in-Err-read_line-clause-err
returns-in-Err-read_line-clause-err g c = wants_memory refl

pub returns-in-Err-OpenFailed-clause-err : goal.returns-in-Err-OpenFailed-clause-err
returns-in-Err-OpenFailed-clause-err g c =
    unopened (g.F.Files.held c.args.files.now) c.args.name.now c.in-Ok.line _ _ c.in-Ok.ensures
    (c.in-Err-OpenFailed.ensures.open_failed (ap Err c.in-Err-OpenFailed.field-0-is))

pub returns-in-Err-ReadFailed-clause-err : goal.returns-in-Err-ReadFailed-clause-err
returns-in-Err-ReadFailed-clause-err g c =
    cannot_read c.args.name.now c.in-Ok-read_line.line refl c.in-Ok-read_line.ensures
    (c.in-Err-ReadFailed.ensures.read_failed (ap Err c.in-Err-ReadFailed.field-0-is))

pub returns-in-Err-NoMemory-clause-err : goal.returns-in-Err-NoMemory-clause-err
returns-in-Err-NoMemory-clause-err g c = wants_memory (c.in-Err-NoMemory.ensures.no_memory (ap Err c.in-Err-NoMemory.field-0-is))
