use Rattle.std.proofs.Common.{◌≡◌, ◌≤◌, length, vec_len}
use Rattle.stim_lines.specs.Layouts.{rows_laid}
use Rattle.stimulus.specs.Taking.{with_rows}
use Rattle.stimulus.proofs.whole_text.rows.Given as goal

abbrev pub invariant-rows : goal.invariant-rows
invariant-rows l = record {
  left : with_rows l.rows (rows_laid l.layout l.cycles l.lines.said) ≡ rows_laid l.layout 0 l.fn.lines.said;
  room : vec_len l.cells ≡ length l.layout.widths;
  within : l.cycles ≤ 4294967296;
}

abbrev pub decreases-rows : goal.decreases-rows
decreases-rows l = length l.lines.said
