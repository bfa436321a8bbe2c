use Rattle.std.proofs.Common.{◌^◌, ◌-◌, inl, inr, arith}
use Rattle.std.proofs.lemmas.Bool.{cases_lt}
use Rattle.std.proofs.lemmas.Grind.{common_steps}
use Rattle.piece_text.proofs.TextLaws.{unsigned_text, positive_text, negative_text}
use Rattle.piece_text.proofs.show.is_below_zero.Goals as goal

pub returns-then-signed-clause-minus : goal.returns-then-signed-clause-minus
returns-then-signed-clause-minus c h =
    let of = c.args.of in
    rw c.if-signed.true (negative_text of.width of.bits of.at_least of.fits (c.is_negative.ensures.0 h))

pub returns-then-signed-clause-plain : goal.returns-then-signed-clause-plain
returns-then-signed-clause-plain c h =
    let of = c.args.of in
    rw c.if-signed.true (elim (cases_lt of.bits (2 ^ (of.width - 1))) [
      | inl low ↦ positive_text of.width of.bits low
      | inr high ↦ absurd (grind (arith, common_steps, h, c.is_negative.ensures.1 high))
    ])

pub returns-clause-plain : goal.returns-clause-plain
returns-clause-plain c h = rw c.if-signed.false (unsigned_text c.args.of.width c.args.of.bits)
