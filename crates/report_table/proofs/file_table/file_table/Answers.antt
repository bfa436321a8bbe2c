use Rattle.std.proofs.Common.{◌∙◌, List, ap}
use Rattle.std.specs.List.{flat_map}
use Rattle.report_text.specs.declared.file_table.CountedLine.{CountedLine}
use Rattle.report_table.specs.FileTables.{numbers_of, placed_in}
use Rattle.report_table.specs.Seen.{seen_points}
use Rattle.report_table.proofs.GroupLemmas.{same_table}
use Rattle.report_table.proofs.file_table.file_table.Goals as goal

pub returns : goal.returns
returns c = same_table c.args.name.now (seen_points c.args.points.now) c.in_ok-lines.lines.items _ c.in_ok-lines.ensures
    (c.in_ok-points.ensures ∙ ap (λ (xs : List CountedLine). flat_map (placed_in (seen_points c.args.points.now)) (numbers_of xs)) c.as_slice.ensures.value)
