use Rattle.std.proofs.Common.{◌≡◌, take}
use Rattle.cov_types.specs.LineLists.{lines_text}
use Rattle.cov_port.proofs.LineListLemmas.{FirstAt}
use Rattle.cov_port.proofs.line_list.line_text.Given as goal

abbrev pub invariant-loop-range : goal.invariant-loop-range
invariant-loop-range l = record {
  text : l.text ≡ lines_text (take l.range-index l.lines);
  first : FirstAt l.first l.range-index;
}
