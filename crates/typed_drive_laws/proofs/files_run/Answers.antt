use Rattle.typed_drive_laws.proofs.FileRuns.{runs_are_typed, typed_run_is_only}
use Rattle.typed_drive_laws.proofs.files_run.Goals as goal

pub returns : goal.returns
returns c = record { keeps = runs_are_typed; once = typed_run_is_only }
