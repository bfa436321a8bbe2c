use Rattle.std.proofs.Common.{sym, ap, ◌∙◌, arith}
use Rattle.cov_port.specs.KeyTest.{completes, in_value}
use Rattle.cov_port.proofs.FieldLemmas.{no_name, name_at_end, name_at_other, name_at_two, short_name, from_place}
use Rattle.cov_port.proofs.key.after_name.Goals.{then-end-eq0-via-then-end-eq0, then-end-eq0-via-else-end-eq0+then-end-field}
use Rattle.cov_port.proofs.key.after_name.Goals.{then-end-eq0-via-else-end-eq0+else-end-field+then-field-end-ne2}
use Rattle.cov_port.proofs.key.after_name.Goals as goal

pub returns-then-end-eq0-clause-ends : goal.returns-then-end-eq0-clause-ends
returns-then-end-eq0-clause-ends c =
    let field = c.args.field.now in
    let place = c.first_mark_from-end.ensures.place in
    elim c.then-end-eq0.branch [
      | then-end-eq0-via-then-end-eq0 w ↦ no_name field (sym place ∙ w.if-end-eq0.true)
      | then-end-eq0-via-else-end-eq0+then-end-field w ↦ name_at_end field _ place (omega arith) w.if-end-field.true
      | then-end-eq0-via-else-end-eq0+else-end-field+then-field-end-ne2 w ↦ name_at_other field _ place (omega arith) (omega arith) w.if-field-end-ne2.true
    ]

pub returns-clause-goes_on : goal.returns-clause-goes_on
returns-clause-goes_on c =
    let field = c.args.field.now in
    name_at_two field _ c.first_mark_from-end.ensures.place (omega arith) (omega arith) c.if-field-end-ne2.false
    ∙ ap (completes in_value) (sym (from_place _ field))

pub returns-then-not-is_mark-clause-goes_on : goal.returns-then-not-is_mark-clause-goes_on
returns-then-not-is_mark-clause-goes_on c =
    let field = c.args.field.now in
    short_name field c.if-field-eq2.true (sym c.is_mark.ensures ∙ c.if-not-is_mark.true) ∙ ap (completes in_value) (sym (from_place 2 field))
