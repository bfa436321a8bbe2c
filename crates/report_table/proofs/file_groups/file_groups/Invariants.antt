use Rattle.std.proofs.Common.{◌≡◌, ℕ, ◌≤◌, List, drop, length, map}
use Rattle.std.specs.Borrow.{Bor}
use Rattle.std.specs.BTreeMap.{get}
use Rattle.std.specs.List.{filter_map}
use Rattle.std.specs.Ordering.{nat_cmp}
use Rattle.std.specs.Cmp.Lexicographic.{slice_cmp}
use Rattle.report_text.specs.Items.{file_of, placed}
use Rattle.report_table.specs.Chains.{first_at, IsLinked, Rises}
use Rattle.report_table.specs.Seen.{by_bytes, seen_points}
use Rattle.report_table.specs.Groups.{of_file}
use Rattle.report_table.proofs.file_groups.file_groups.Given as goal

abbrev pub invariant-points : goal.invariant-points
invariant-points l = record {
  names : map (λ e. (e.0.now, tt {0})) l.first.entries ≡ placed (slice_cmp nat_cmp) (filter_map file_of (seen_points (drop l.left l.points)));
  firsts : (file : Bor (List ℕ)) → get by_bytes l.first file ≡ first_at (of_file file.now) l.points l.left;
  linked : (file : List ℕ) → IsLinked (of_file file) l.points l.next.items l.left;
  rises : Rises l.next.items (length l.points);
  len : length l.next.items ≡ length l.points;
  within : l.left ≤ length l.points;
}

abbrev pub decreases-points : goal.decreases-points
decreases-points l = l.left
