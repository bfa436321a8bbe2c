use Rattle.std.proofs.Common.{arith}
use Rattle.cycle_settle.proofs.along.settle_one.Goals as goal

pub active-requires-clause-within : goal.active-requires-clause-within
active-requires-clause-within g c = c.requires.reads.within c.args.now.now c.args.p c.requires.of_design

pub note_targets-requires-clause-process : goal.note_targets-requires-clause-process
note_targets-requires-clause-process g c = omega (arith, c.requires.process, c.requires.wakes.many_processes)

pub note_targets-requires-clause-within : goal.note_targets-requires-clause-within
note_targets-requires-clause-within g c k x lt = omega (arith, c.requires.wakes.targets_in c.args.p k x lt, c.requires.wakes.many_variables)
