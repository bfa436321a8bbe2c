use Rattle.std.proofs.Common.{◌≡◌, ℕ, None, drop}
use Rattle.std.specs.BTreeMap.{get}
use Rattle.std.specs.Ordering.{nat_cmp}
use Rattle.report_table.specs.LineCounts.{least_at}
use Rattle.report_table.specs.Seen.{seen_points}
use Rattle.report_table.proofs.line_counts.line_counts.Given as goal

abbrev pub invariant-points : goal.invariant-points
invariant-points l = (line : ℕ) → least_at line (seen_points (drop l.point-index l.points)) (get nat_cmp l.counts line)
    ≡ least_at line (seen_points l.points) None
