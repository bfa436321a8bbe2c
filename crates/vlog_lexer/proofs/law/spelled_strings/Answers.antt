use Rattle.vlog_lexer.proofs.SpellingLaws as laws
use Rattle.vlog_lexer.proofs.law.spelled_strings.Goals as goal

pub returns : goal.returns
returns c = laws.strings_are_taken
