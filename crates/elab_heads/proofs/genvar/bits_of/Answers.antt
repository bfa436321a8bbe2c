use Rattle.std.proofs.Common.{◌≡◌, ◌∙◌, ap, subst, true, false, w32, arith}
use Rattle.std.specs.Prelude.{ℤ, pos, neg_ℤ, int_lt, unsigned_abs}
use Rattle.std.proofs.lemmas.Int.{to_z-of_z}
use Rattle.bit_values.specs.Values as value
use Rattle.elab_heads.proofs.Genvars.{negative, positive}
use Rattle.elab_heads.proofs.genvar.bits_of.Goals as goal

pub returns-then-integer-lt0-clause-value : goal.returns-then-integer-lt0-clause-value
returns-then-integer-lt0-clause-value c =
    let e : c.from.result ≡ unsigned_abs c.args.integer = c.from.ensures ∙ c.unsigned_abs.ensures.value
    ∙ ap unsigned_abs (to_z-of_z w32 c.args.integer c.ranges.integer) in
    c.neg.ensures.value ∙ ap (λ w. value.modulo w (neg_ℤ (pos c.new-size.result.bits))) c.new-size.ensures.width
    ∙ negative c.args.integer c.new-size.result.bits (subst (λ (z : ℤ). int_lt z (pos 0)
    ≡ true) (to_z-of_z w32 c.args.integer c.ranges.integer) c.if-integer-lt0.true) (c.new-size.ensures.value ∙ e)

pub returns-clause-value : goal.returns-clause-value
returns-clause-value c =
    let e : c.from.result ≡ unsigned_abs c.args.integer = c.from.ensures ∙ c.unsigned_abs.ensures.value
    ∙ ap unsigned_abs (to_z-of_z w32 c.args.integer c.ranges.integer) in
    positive c.args.integer c.new-size.result.bits (subst (λ (z : ℤ). int_lt z (pos 0)
    ≡ false) (to_z-of_z w32 c.args.integer c.ranges.integer) c.if-integer-lt0.false) (omega arith) (c.new-size.ensures.value ∙ e)
