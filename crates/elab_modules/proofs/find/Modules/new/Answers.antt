use Rattle.std.proofs.Common.{refl}
use Rattle.elab_modules.proofs.Finds.{doubled}
use Rattle.elab_modules.proofs.find.Modules.new.Goals as goal

pub returns-in-Ok : goal.returns-in-Ok
returns-in-Ok c = record { same = refl; table = c.in-Ok.ensures }

pub returns-in-Err : goal.returns-in-Err
returns-in-Err c = doubled c.args.files.now c.in-Err.fault c.in-Err.ensures
