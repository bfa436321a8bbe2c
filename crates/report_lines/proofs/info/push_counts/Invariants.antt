use Rattle.std.proofs.Common.{◌≡◌, ◌++◌, take}
use Rattle.report_lines.specs.Walks.{counts_text}
use Rattle.report_lines.proofs.info.push_counts.Given as goal

abbrev pub invariant-lines : goal.invariant-lines
invariant-lines l = l.text.items ≡ l.initial.text.items ++ counts_text (take l.line-index l.lines)
