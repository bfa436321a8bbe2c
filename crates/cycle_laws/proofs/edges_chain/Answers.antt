use Rattle.cycle_laws.proofs.SetFrame.{leaves_unset}
use Rattle.cycle_laws.proofs.Deferred.{defers_driven}
use Rattle.cycle_laws.proofs.Edge.{one_more}
use Rattle.cycle_laws.proofs.EdgeEnds.{chains_end}
use Rattle.cycle_laws.proofs.edges_chain.Goals as goal

pub returns-clause-unset : goal.returns-clause-unset
returns-clause-unset c = leaves_unset

pub returns-clause-deferred : goal.returns-clause-deferred
returns-clause-deferred c = defers_driven

pub returns-clause-chain : goal.returns-clause-chain
returns-clause-chain c = one_more

pub returns-clause-end : goal.returns-clause-end
returns-clause-end c = chains_end
