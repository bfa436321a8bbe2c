use Rattle.std.proofs.Common.{take}
use Rattle.flow_least.specs.Least.{IsLeastOf}
use Rattle.flow_least.specs.Met.{HasMet}
use Rattle.flow_least.proofs.least.least_met.Given as goal

abbrev pub invariant-loop-span : goal.invariant-loop-span
invariant-loop-span l = IsLeastOf (HasMet l.marks (take l.span-index l.spans)) l.least
