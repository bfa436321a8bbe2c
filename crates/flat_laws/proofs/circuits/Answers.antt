use Rattle.flat_source_meaning.proofs.SameCircuit.{flat_has_the_circuit, one_circuit}
use Rattle.flat_source_meaning.proofs.OneArms.{one_list_of_copies}
use Rattle.flat_source_meaning.proofs.EventsOfArms.{events_are_of_arms}
use Rattle.flat_laws.proofs.circuits.Goals as goal

pub returns-clause-flat : goal.returns-clause-flat
returns-clause-flat c = flat_has_the_circuit

pub returns-clause-once : goal.returns-clause-once
returns-clause-once c = one_circuit

pub returns-clause-copies : goal.returns-clause-copies
returns-clause-copies c = one_list_of_copies

pub returns-clause-events : goal.returns-clause-events
returns-clause-events c = events_are_of_arms
