use Rattle.std.proofs.Common.{arith}
use Rattle.stim_lines.proofs.FieldLemmas.{field-taken, no-field}
use Rattle.stim_lines.proofs.fields.cut_field.Goals as goal

pub returns-then-len-eq0-clause-none : goal.returns-then-len-eq0-clause-none
returns-then-len-eq0-clause-none c =
    no-field c.args.line.now c.blank_len.result c.field_len-len.result c.blank_len.ensures.value c.field_len-len.ensures.value c.if-len-eq0.true

pub returns-clause-field : goal.returns-clause-field
returns-clause-field c =
    field-taken c.args.line.now c.blank_len.result c.field_len-len.result c.blank_len.ensures.value c.field_len-len.ensures.value
    c.field_len-len.ensures.within (omega arith)
