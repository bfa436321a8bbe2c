use Rattle.std.proofs.Common.{◌+◌, ◌<◌, ◌^◌, ◌≤◌, sym, subst, length, vec_len, vec_capacity}
use Rattle.piece_text.specs.DigitCounts.{spelled}
use Rattle.piece_text.proofs.TextLaws.{hex_power, hex_holds}
use Rattle.piece_text.proofs.show.put_hex.Goals as goal

pub put_number-requires-clause-fits : goal.put_number-requires-clause-fits
put_number-requires-clause-fits c = hex_power c.hex_digits.result c.hex_digits.ensures.most

pub put_number-requires-clause-hold : goal.put_number-requires-clause-hold
put_number-requires-clause-hold c =
    let of = c.args.of in
    subst (λ k. of.bits < 16 ^ k) (sym c.hex_digits.ensures.value) (hex_holds of.width of.bits of.at_least of.at_most of.fits)

pub put_number-requires-clause-room : goal.put_number-requires-clause-room
put_number-requires-clause-room c =
    subst (λ k. vec_len c.args.out.now + length (spelled c.args.short 16 k c.args.of.bits) ≤ vec_capacity c.args.out.now) (sym c.hex_digits.ensures.value)
    c.requires
