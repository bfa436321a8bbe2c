use Rattle.std.proofs.Common.{◌≡◌, List, [], drop, arith}
use Rattle.std.proofs.Math.ListN.{drop_of_length-le}
use Rattle.report_text.specs.declared.file_table.FileTable.{FileTable}
use Rattle.report_text.specs.Tables.{seen_tables}
use Rattle.report_lines.specs.Walks.{all_counted, all_reached}
use Rattle.report_lines.proofs.TotalLaws.{total_of_tables}
use Rattle.report_lines.proofs.total.total_text.Goals as goal

pub returns : goal.returns
returns c = λ counts seen.
    let none : ◌≡◌ {A = List FileTable} (drop c.files.table-index c.args.tables.now) [] = drop_of_length-le c.args.tables.now (omega arith) in
    let part : c.files.part ≡ all_reached c.args.minimum (seen_tables c.args.tables.now) = omega (arith, rw none at c.files.invariant.part) in
    let whole : c.files.whole ≡ all_counted (seen_tables c.args.tables.now) = omega (arith, rw none at c.files.invariant.whole) in
    rw (c.from_vec.ensures, c.in_ok-push_total.ensures, c.new-text.ensures.items, part, whole)
    (total_of_tables c.args.minimum counts (seen_tables c.args.tables.now) seen)
