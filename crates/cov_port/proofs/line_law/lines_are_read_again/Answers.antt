use Rattle.cov_port.proofs.ReadAgainLemmas.{reads_again}
use Rattle.cov_port.proofs.line_law.lines_are_read_again.Goals as goal

pub returns : goal.returns
returns c = reads_again
