use Rattle.std.proofs.Common.{sym, ◌∙◌}
use Rattle.cvd_laws.proofs.law.a_design_has_one_text.Goals as goal

pub returns : goal.returns
returns c = λ x text other h k. h.spelled ∙ sym k.spelled
