use Rattle.typed_form.proofs.OnlyRun.{source_runs_once}
use Rattle.typed_form.proofs.Whole.{same_runs}
use Rattle.flat_laws.proofs.typed_runs.Goals as goal

pub returns : goal.returns
returns c = record { keeps = same_runs; once = source_runs_once }
