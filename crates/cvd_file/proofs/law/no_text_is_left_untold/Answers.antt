use Rattle.cvd_file.proofs.Untold.{flows_or_told, none_untold}
use Rattle.cvd_file.proofs.law.no_text_is_left_untold.Goals as goal

pub returns-clause-flows : goal.returns-clause-flows
returns-clause-flows c = flows_or_told c.designs_flow_or_have_faults.ensures

pub returns-clause-told : goal.returns-clause-told
returns-clause-told c = none_untold c.designs_flow_or_have_faults.ensures
