use Rattle.cvd_file_laws.proofs.Texts.{one_design}
use Rattle.cvd_flaw_laws.proofs.Told.{never_both}
use Rattle.sim_design_laws.proofs.Refusal.{one_refusal}
use Rattle.sim_design_laws.proofs.law.texts_are_told_one_way.Goals as goal

pub returns : goal.returns
returns c = record { design = one_design; refusal = one_refusal; never = never_both }
