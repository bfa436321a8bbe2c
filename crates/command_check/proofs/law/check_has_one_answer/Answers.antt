use Rattle.command_check.proofs.AgreeLemmas.{checks_agree}
use Rattle.command_check.proofs.law.check_has_one_answer.Goals as goal

pub returns : goal.returns
returns c = checks_agree c.one_reading.ensures c.files_are_exact.ensures.one
