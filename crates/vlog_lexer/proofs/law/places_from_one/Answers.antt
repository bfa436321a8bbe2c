use Rattle.vlog_lexer.proofs.OriginLaws as laws
use Rattle.vlog_lexer.proofs.law.places_from_one.Goals as goal

pub returns-clause-tokens : goal.returns-clause-tokens
returns-clause-tokens c = laws.tokens_from_one

pub returns-clause-fault : goal.returns-clause-fault
returns-clause-fault c = laws.fault_from_one
