use Rattle.order_laws.proofs.Faults.{flows_or_faults}
use Rattle.order_laws.proofs.designs_flow_or_have_faults.Goals as goal

pub returns : goal.returns
returns c = flows_or_faults
