use Rattle.std.proofs.Common.{◌≡◌, ◌-◌, ◌≤◌, length}
use Rattle.cycle_run.proofs.TallyLaws.{Counted}
use Rattle.cycle_run.proofs.tally.count_kept.Given as goal

abbrev pub invariant-process : goal.invariant-process
invariant-process l = record {
  counted : Counted l.design l.kept l.at l.fn.counts l.counts;
  within : l.at ≤ length l.design.processes;
}

abbrev pub decreases-process : goal.decreases-process
decreases-process l = length l.design.processes - l.at
