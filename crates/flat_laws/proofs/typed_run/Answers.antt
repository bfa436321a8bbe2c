use Rattle.typed_form.proofs.KeepsRun.{keeps_the_run}
use Rattle.flat_laws.proofs.typed_run.Goals as goal

pub returns : goal.returns
returns c = keeps_the_run
