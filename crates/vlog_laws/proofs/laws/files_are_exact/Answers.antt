use Rattle.vlog_laws.proofs.ModulesSound.{only_modules_sound}
use Rattle.vlog_laws.proofs.ModulesComplete.{only_modules_complete, one_source}
use Rattle.vlog_laws.proofs.laws.files_are_exact.Goals as goal

pub returns-clause-sound : goal.returns-clause-sound
returns-clause-sound c ts all h = only_modules_sound ts all h

pub returns-clause-complete : goal.returns-clause-complete
returns-clause-complete c ts all h = only_modules_complete ts all h

pub returns-clause-one : goal.returns-clause-one
returns-clause-one c tokens a b one two = one_source tokens a b one two
