use Rattle.vlog_lexer.proofs.LawLemmas as laws
use Rattle.vlog_lexer.proofs.law.one_reading.Goals as goal

pub returns : goal.returns
returns c = laws.one_reading
