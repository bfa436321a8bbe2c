use Rattle.std.proofs.Common.{refl}
use Rattle.command_ending.specs.Stops.{wants_memory}
use Rattle.command_cover.proofs.merge.merged_file.Goals as goal

pub returns-in-Err-clause-err : goal.returns-in-Err-clause-err
returns-in-Err-clause-err g c = wants_memory refl

pub returns-in-Ok-stores_of-clause-ok : goal.returns-in-Ok-stores_of-clause-ok
returns-in-Ok-stores_of-clause-ok g c =
    (c.add_files.new.merged, c.in-Ok-stores_of.ensures, rw c.in-Ok.ensures at c.in-Ok-add_files.ensures.ok)

pub returns-in-Ok-add_files-clause-err : goal.returns-in-Ok-add_files-clause-err
returns-in-Ok-add_files-clause-err g c = wants_memory c.in-Ok-add_files.ensures.ok_quiet
