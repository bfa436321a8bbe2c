use Rattle.cvd_flaw_laws.proofs.Told.{one_told}
use Rattle.cvd_flaw_laws.proofs.law.a_text_is_told_one_way.Goals as goal

pub returns : goal.returns
returns c = one_told
