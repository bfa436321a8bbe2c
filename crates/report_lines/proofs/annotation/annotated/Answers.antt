use Rattle.std.proofs.Common.{◌≡◌, [], length, sym, ◌∙◌}
use Rattle.std.proofs.lemmas.Bool.{eqb-true}
use Rattle.std.proofs.lemmas.List.{append-nil, nil_from_length}
use Rattle.report_text.specs.Tables.{seen_table}
use Rattle.report_lines.proofs.SourceLaws.{annotated_of_table}
use Rattle.report_lines.proofs.annotation.annotated.Goals as goal

pub returns : goal.returns
returns c = λ counts file options seen minimum points.
    let none : c.lines.rest.now ≡ [] = nil_from_length c.lines.rest.now (eqb-true (length c.lines.rest.now) 0 (sym c.is_empty.ensures ∙ c.lines-test.false)) in
    let done = rw none at c.lines.invariant.text in
    c.from_vec.ensures
    ∙ sym (append-nil c.lines.text.items)
    ∙ done
    ∙ rw (← minimum, ← points) (annotated_of_table options counts file c.args.source.now (seen_table c.args.table.now) seen)
