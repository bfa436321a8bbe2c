use Rattle.counted_circuit.proofs.TellsProof.{counts_what_is_told}
use Rattle.counted_circuit.proofs.CountedRuns.{counted_run}
use Rattle.counted_circuit.proofs.SameFlow.{same_flow}
use Rattle.counted_circuit.proofs.PlainProof.{counts_runs}
use Rattle.build_laws.proofs.counts.Goals as goal

pub returns-clause-steps : goal.returns-clause-steps
returns-clause-steps c = counts_what_is_told

pub returns-clause-runs : goal.returns-clause-runs
returns-clause-runs c = λ carried d counted arms rows r is run. counted_run carried d counted arms rows r is run

pub returns-clause-flow : goal.returns-clause-flow
returns-clause-flow c = λ carried d counted arms is. same_flow is

pub returns-clause-points : goal.returns-clause-points
returns-clause-points c = λ d table names arms x rows r plain run. counts_runs d table names arms x plain rows r run
