use Rattle.std.proofs.Common.{◌≡◌, ◌∙◌, List, subst, sym}
use Rattle.std.proofs.lemmas.List.Elements.{All-filter}
use Rattle.report_table.specs.declared.data_point.DataPoint.{DataPoint}
use Rattle.report_table.specs.Seen.{AreRead, IsRead}
use Rattle.std.specs.Result.{IfOk}
use Rattle.report_text.specs.Tables.{Table, seen_table}
use Rattle.report_text.specs.declared.file_table.FileTable.{FileTable}
use Rattle.report_table.specs.Groups.{of_file}
use Rattle.report_table.proofs.GroupLemmas.{first_within, table_of_group}
use Rattle.report_table.proofs.all_tables.named_table.Goals as goal

pub follow-requires-clause-within : goal.follow-requires-clause-within
follow-requires-clause-within c = first_within (of_file c.args.name.now) c.args.points.now c.args.first c.requires.first

pub returns : goal.returns
returns c =
    let group = c.in_ok-group.ensures (of_file c.args.name.now) c.requires.linked c.requires.first in
    subst (λ (t : Table). IfOk c.file_table.result (λ (table : FileTable). seen_table table ≡ t))
    (table_of_group c.args.points.now c.args.name.now c.as_slice.result.now (c.as_slice.ensures.value ∙ group)) c.file_table.ensures

pub file_table-requires : goal.file_table-requires
file_table-requires c =
    let group = c.in_ok-group.ensures (of_file c.args.name.now) c.requires.linked c.requires.first in
    subst (λ (ps : List DataPoint). AreRead ps) (sym (c.as_slice.ensures.value ∙ group))
    (All-filter (of_file c.args.name.now) IsRead c.args.points.now c.requires.read)
