use Rattle.std.proofs.Common.{◌≡◌, List, sym, ◌∙◌, ap, rules}
use Rattle.cvd_text.specs.Fault.{other_text, no_line, other_version, has_name, has_first_line}
use Rattle.cvd_cursor.specs.Reads.{is_nothing}
use Rattle.cvd_file.proofs.First.{no_pieces, some_pieces}
use Rattle.cvd_file.proofs.reading.test_first_line.Goals as goal

pub returns-then-not-starts_with-clause-fault : goal.returns-then-not-starts_with-clause-fault
returns-then-not-starts_with-clause-fault c = other_text (sym c.starts_with.ensures.value ∙ c.if-not-starts_with.true)

pub returns-then-is_empty-clause-fault : goal.returns-then-is_empty-clause-fault
returns-then-is_empty-clause-fault c =
    no_line (sym c.starts_with.ensures.value ∙ c.if-not-starts_with.false)
    (sym c.requires ∙ no_pieces c.args.cursor.now.rest (sym c.is_empty.ensures ∙ c.if-is_empty.true))

pub returns-then-not-starts_with-2-clause-fault : goal.returns-then-not-starts_with-2-clause-fault
returns-then-not-starts_with-2-clause-fault c =
    let p = some_pieces c.args.cursor.now.rest (sym c.is_empty.ensures ∙ c.if-is_empty.false) in
    other_version p.first p.more (sym c.starts_with.ensures.value ∙ c.if-not-starts_with.false) (sym c.requires ∙ p.split)
    (sym c.starts_with-2.ensures.value ∙ c.if-not-starts_with-2.true)
