use Rattle.counted_circuit.proofs.FairRuns.{forks_balance}
use Rattle.counted_circuit.proofs.ListsGive.{lists_give}
use Rattle.build_laws.proofs.derived_counts.Goals as goal

pub returns : goal.returns
returns c = record { balance = forks_balance; lists = lists_give }
