use Rattle.vlog_lexer.proofs.PlaceLemmas.{at_start}
use Rattle.vlog_lexer.proofs.position.Position.start.Goals as goal

pub returns-clause-value : goal.returns-clause-value
returns-clause-value c = at_start
