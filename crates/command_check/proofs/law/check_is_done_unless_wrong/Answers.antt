use Rattle.command_check.proofs.AgreeLemmas.{done_unless_wrong}
use Rattle.command_check.proofs.law.check_is_done_unless_wrong.Goals as goal

pub returns : goal.returns
returns c = done_unless_wrong c.one_reading.ensures c.files_are_exact.ensures.one
