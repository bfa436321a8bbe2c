use Rattle.std.proofs.Common.{◌∙◌}
use Rattle.report_table.specs.Seen.{seen_points}
use Rattle.report_table.proofs.CountLemmas.{lines_counted}
use Rattle.report_table.proofs.file_table.counted_lines.Goals as goal

pub returns : goal.returns
returns c = c.in_ok-listed.ensures.lines ∙ lines_counted c.in_ok-counts.counts (seen_points c.args.points.now) c.listed.ensures.ordered c.in_ok-counts.ensures
