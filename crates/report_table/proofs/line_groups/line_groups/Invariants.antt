use Rattle.std.proofs.Common.{◌≡◌, ℕ, ◌≤◌, length}
use Rattle.std.specs.BTreeMap.{get}
use Rattle.std.specs.Ordering.{nat_cmp}
use Rattle.report_table.specs.Chains.{first_at, IsLinked, Rises}
use Rattle.report_table.specs.Groups.{at_line}
use Rattle.report_table.proofs.line_groups.line_groups.Given as goal

abbrev pub invariant-points : goal.invariant-points
invariant-points l = record {
  firsts : (line : ℕ) → get nat_cmp l.first line ≡ first_at (at_line line) l.points l.left;
  linked : (line : ℕ) → IsLinked (at_line line) l.points l.next.items l.left;
  rises : Rises l.next.items (length l.points);
  len : length l.next.items ≡ length l.points;
  within : l.left ≤ length l.points;
}

abbrev pub decreases-points : goal.decreases-points
decreases-points l = l.left
