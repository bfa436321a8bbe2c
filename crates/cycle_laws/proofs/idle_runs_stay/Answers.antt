use Rattle.cycle_laws.proofs.Idle.{idle_stays, rest_leaves_reads}
use Rattle.cycle_laws.proofs.idle_runs_stay.Goals as goal

pub returns-clause-idle : goal.returns-clause-idle
returns-clause-idle c = idle_stays

pub returns-clause-reads : goal.returns-clause-reads
returns-clause-reads c = rest_leaves_reads
