use Rattle.vlog_lexer.proofs.SpellingLaws as laws
use Rattle.vlog_lexer.proofs.law.spelled_numbers.Goals as goal

pub returns-clause-decimal : goal.returns-clause-decimal
returns-clause-decimal c = laws.decimals_are_taken

pub returns-clause-wide : goal.returns-clause-wide
returns-clause-wide c = laws.wide_decimals

pub returns-clause-based : goal.returns-clause-based
returns-clause-based c = laws.based_are_taken
