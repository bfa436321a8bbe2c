use Rattle.std.proofs.Common.{drop, sym, ap, ◌∙◌}
use Rattle.std.specs.List.{position_or_len}
use Rattle.cov_types.specs.Key.{is_mark}
use Rattle.cov_port.specs.KeyTest.{completes, before_name, in_value}
use Rattle.cov_port.proofs.FieldLemmas.{field_begins, from_place, past_value_front, no_front_left}
use Rattle.cov_port.proofs.key.are_fields.Goals as goal

pub fields-preserved : goal.fields-preserved
fields-preserved c =
    let rest = c.fields.rest.now in
    let value = c.in-Some.value.now in
    let n = c.first_mark.result in
    let place = c.first_mark.ensures.place in
    record {
      same =
          ap (completes in_value) (from_place n value)
          ∙ ap (λ k. completes in_value (drop k value)) place
          ∙ sym (past_value_front value)
          ∙ sym c.in-Some.ensures.goes_on
          ∙ ap (completes before_name) (from_place 1 rest)
          ∙ sym (field_begins rest c.if-rest-eq1.true)
          ∙ c.fields.invariant.same;
      marked =
          ap (position_or_len is_mark) (from_place n value)
          ∙ ap (λ k. position_or_len is_mark (drop k value)) place
          ∙ no_front_left value;
    }
