use Rattle.std.proofs.Common.{◌≡◌, ◌-◌, ◌≤◌, length}
use Rattle.design_meaning.specs.SettledLaws.{after_all}
use Rattle.cycle_settle.proofs.Waking.{Stands}
use Rattle.cycle_settle.proofs.along.settle.Given as goal

abbrev pub invariant-process : goal.invariant-process
invariant-process g l = record {
  stands : Stands l.all l.design l.order.processes l.wakes l.before (after_all l.design l.order.processes l.fn.now) l.at l.now l.kept l.fn.steps l.steps
      l.changes;
  within : l.at ≤ length l.order.processes;
  room : l.effects.room ≡ l.fn.effects.room;
}

abbrev pub decreases-process : goal.decreases-process
decreases-process g l = length l.order.processes - l.at
