use Rattle.flow_uses.proofs.Whole.{AreDone}
use Rattle.flow_uses.proofs.all.all_uses.Given as goal

abbrev pub invariant-loop-process : goal.invariant-loop-process
invariant-loop-process l = AreDone l.design l.all.items l.process-index
