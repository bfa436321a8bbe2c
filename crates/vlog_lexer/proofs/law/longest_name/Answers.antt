use Rattle.vlog_lexer.proofs.SpellingLaws as laws
use Rattle.vlog_lexer.proofs.law.longest_name.Goals as goal

pub returns-clause-split : goal.returns-clause-split
returns-clause-split c = laws.names_are_longest

pub returns-clause-taken : goal.returns-clause-taken
returns-clause-taken c = laws.names_are_taken

pub returns-clause-system : goal.returns-clause-system
returns-clause-system c = laws.system_names_are_taken
