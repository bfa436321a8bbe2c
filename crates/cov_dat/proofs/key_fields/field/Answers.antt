use Rattle.std.proofs.Common.{ap, ◌∙◌, sym}
use Rattle.cov_dat.specs.KeyFields.{field_texts, first_value}
use Rattle.cov_dat.proofs.FieldTextLemmas.{value_found, value_missed}
use Rattle.cov_dat.proofs.key_fields.field.Goals as goal

pub fields-init : goal.fields-init
fields-init c = record { value = ap (first_value c.args.name.now) c.from_field-rest.ensures.texts; begins = c.from_field-rest.ensures.begins }

pub returns-in-Some : goal.returns-in-Some
returns-in-Some c =
    let text = c.cut_field.result.0.now in
    let more = field_texts c.cut_field.result.1.now in
    sym (sym c.fields.invariant.value ∙ ap (first_value c.args.name.now) c.cut_field.ensures.texts
    ∙ value_found text c.in-Some.value.now c.args.name.now more (sym c.in-Some.ensures))

pub fields-preserved : goal.fields-preserved
fields-preserved c =
    let text = c.cut_field.result.0.now in
    let more = field_texts c.cut_field.result.1.now in
    record {
      value = sym (value_missed text c.args.name.now more (sym c.in_default.ensures)) ∙ sym (ap (first_value c.args.name.now) c.cut_field.ensures.texts)
          ∙ c.fields.invariant.value;
      begins = c.cut_field.ensures.begins;
    }
