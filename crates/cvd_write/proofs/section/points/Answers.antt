use Rattle.std.proofs.Common.{codes, length, flat_map}
use Rattle.cvd_write.specs.Writing.{heading_row, point_row}
use Rattle.cvd_write.proofs.Puts.{behind}
use Rattle.cvd_write.proofs.section.points.Goals as goal

pub returns : goal.returns
returns c =
    let things = c.args.things.now in
    behind _ (heading_row (codes "points") (length things)) (flat_map point_row things) c.numbered_line.new.out _ _
    c.in_ok-numbered_line.ensures c.all_points.ensures
