use Rattle.cvd_flaw_laws.proofs.Told.{never_both}
use Rattle.cvd_flaw_laws.proofs.law.a_design_that_flows_has_no_flaw.Goals as goal

pub returns : goal.returns
returns c = never_both
