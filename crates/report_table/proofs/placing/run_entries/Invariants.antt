use Rattle.std.proofs.Common.{◌≡◌, ◌≤◌, ◌+◌, drop}
use Rattle.cov_port.specs.Sums.{total}
use Rattle.report_table.specs.Placing.{capped, run_lengths}
use Rattle.report_table.proofs.placing.run_entries.Given as goal

abbrev pub invariant-runs : goal.invariant-runs
invariant-runs l = record {
  sum : capped (l.entries + total (run_lengths (drop l.run-index l.runs))) ≡ capped (total (run_lengths l.runs));
  within : l.entries ≤ 67108865;
}
