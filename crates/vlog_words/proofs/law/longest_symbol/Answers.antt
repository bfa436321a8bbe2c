use Rattle.vlog_words.proofs.SymbolLaws as laws
use Rattle.vlog_words.proofs.law.longest_symbol.Goals as goal

pub returns-clause-taken : goal.returns-clause-taken
returns-clause-taken c = laws.taken

pub returns-clause-longest : goal.returns-clause-longest
returns-clause-longest c = laws.longest

pub returns-clause-none : goal.returns-clause-none
returns-clause-none c = laws.nothing
