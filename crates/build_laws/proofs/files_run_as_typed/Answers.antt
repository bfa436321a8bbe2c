use Rattle.build_meaning.proofs.FilesRuns as law
use Rattle.build_laws.proofs.files_run_as_typed.Goals as goal

pub returns : goal.returns
returns c = record { keeps = law.files_run_as_typed; once = law.files_run_once }
