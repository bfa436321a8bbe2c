use Rattle.std.proofs.Common.{◌∙◌, ap, inl, inr, arith}
use Rattle.lower_forms.specs.declared.form.Form.TheVariants as f
use Rattle.lower_repeats.proofs.repeated.repeat_bits.Goals as goal

pub returns-then-bits-eq0 : goal.returns-then-bits-eq0
returns-then-bits-eq0 c = inl c.if-bits-eq0.true

pub returns-then-bits-gt128 : goal.returns-then-bits-gt128
returns-then-bits-gt128 c = inr (omega (arith, c.if-bits-gt128.true))

pub returns-in-Ok : goal.returns-in-Ok
returns-in-Ok c = (
  omega (arith, c.if-bits-gt128.false),
  record {
    size = c.alone.ensures.size;
    signed = c.alone.ensures.signed;
    form = c.alone.ensures.form ∙ ap (f.Alone c.args.bits) c.in-Ok.ensures;
  },
)
