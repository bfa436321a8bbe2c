use Rattle.std.proofs.Common.{◌≡◌, ◌≤◌, ◌++◌, drop, length, map}
use Rattle.report_text.specs.Tables.{seen_point}
use Rattle.report_lines.specs.Walks.{branches_text}
use Rattle.report_lines.proofs.info.push_branches.Given as goal

abbrev pub invariant-lines : goal.invariant-lines
invariant-lines l = record {
  within : length l.rest ≤ length l.points;
  text : l.text.items ++ branches_text (drop l.line-index l.lines) (map seen_point l.rest)
      ≡ l.initial.text.items ++ branches_text l.lines (map seen_point l.points);
}
