use Rattle.design_meaning.proofs.RunTheorem.{one_run}
use Rattle.design_meaning.proofs.Theorem.{always_settles}
use Rattle.order_laws.proofs.Orders.{flow_has_order}
use Rattle.order_laws.proofs.designs_run_once.Goals as goal

pub returns-clause-order : goal.returns-clause-order
returns-clause-order c = flow_has_order

pub returns-clause-run : goal.returns-clause-run
returns-clause-run c = one_run flow_has_order

pub returns-clause-settles : goal.returns-clause-settles
returns-clause-settles c = always_settles flow_has_order
