use Rattle.sim_answer.proofs.RunLemmas.{starts_go_on, cycles_go_on, flags_end, rows_end, runs_go_on}
use Rattle.sim_answer.proofs.law.runs_are_cut.Goals as goal

pub returns-clause-starts : goal.returns-clause-starts
returns-clause-starts c = starts_go_on

pub returns-clause-cycles : goal.returns-clause-cycles
returns-clause-cycles c = cycles_go_on

pub returns-clause-flags : goal.returns-clause-flags
returns-clause-flags c = flags_end c.runs_once.ensures.cycles

pub returns-clause-rows : goal.returns-clause-rows
returns-clause-rows c = rows_end c.runs_once.ensures.cycles

pub returns-clause-go : goal.returns-clause-go
returns-clause-go c = runs_go_on c.runs_once.ensures.edge c.settles_once.ensures.once c.runs_once.ensures.cycles
