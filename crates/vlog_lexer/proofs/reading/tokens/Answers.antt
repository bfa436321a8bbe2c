use Rattle.vlog_lexer.proofs.LawLemmas.{answer_is}
use Rattle.vlog_lexer.proofs.reading.tokens.Goals as goal

pub returns-clause-only : goal.returns-clause-only
returns-clause-only c = λ other is. answer_is c.args.file c.args.text.now c.read.result other c.read.ensures is
