use Rattle.vlog_laws.proofs.StatementsSound.{only_statement_sound}
use Rattle.vlog_laws.proofs.StatementsComplete.{only_statement_complete, one_statement}
use Rattle.vlog_laws.proofs.laws.statements_are_exact.Goals as goal

pub returns-clause-sound : goal.returns-clause-sound
returns-clause-sound c ts a h = only_statement_sound ts a h

pub returns-clause-complete : goal.returns-clause-complete
returns-clause-complete c ts a h = only_statement_complete ts a h

pub returns-clause-one : goal.returns-clause-one
returns-clause-one c ts a b one two = one_statement ts a b one two
