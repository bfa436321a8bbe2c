use Rattle.std.proofs.Common.{◌≡◌, ◌++◌, take}
use Rattle.std.specs.List.{flat_map}
use Rattle.report_text.specs.Tables.{seen_point}
use Rattle.report_lines.specs.Walks.{placed_line}
use Rattle.report_lines.proofs.annotation.push_points.Given as goal

abbrev pub invariant-points : goal.invariant-points
invariant-points l = l.text.items ≡ l.initial.text.items ++ flat_map (λ p. placed_line l.minimum (seen_point p)) (take l.point-index l.points)
