use Rattle.std.proofs.Common.{◌++◌, codes}
use Rattle.cvd_write.specs.Writing.{heading_row, variables_text}
use Rattle.cvd_write.proofs.Puts.{behind}
use Rattle.cvd_write.proofs.whole.front.Goals as goal

pub returns : goal.returns
returns c =
    let head = heading_row (codes "counters") c.args.counters in
    let more = variables_text c.args.design.now in
    behind c.args.out.now (codes "CVD 1\n") (head ++ more) c.line.new.out _ _ c.in_ok-line.ensures
    (behind c.line.new.out head more c.numbered_line.new.out _ _ c.in_ok-numbered_line.ensures c.variables.ensures)
