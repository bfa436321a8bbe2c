use Rattle.cvd_file_laws.proofs.Texts.{one_design}
use Rattle.cvd_file_laws.proofs.law.a_text_has_one_design.Goals as goal

pub returns : goal.returns
returns c = one_design
