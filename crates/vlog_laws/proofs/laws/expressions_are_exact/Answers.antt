use Rattle.vlog_laws.proofs.Sound.{only_sound}
use Rattle.vlog_laws.proofs.Complete.{only_complete, one_tree}
use Rattle.vlog_laws.proofs.laws.expressions_are_exact.Goals as goal

pub returns-clause-sound : goal.returns-clause-sound
returns-clause-sound c ts a h = only_sound ts a h

pub returns-clause-complete : goal.returns-clause-complete
returns-clause-complete c ts a h = only_complete ts a h

pub returns-clause-one : goal.returns-clause-one
returns-clause-one c ts a b one two = one_tree ts a b one two
