use Rattle.cov_dat.proofs.LineByLine.{reads_by_lines}
use Rattle.cov_dat.proofs.law.reads_by_lines.Goals as goal

pub returns : goal.returns
returns c = reads_by_lines
