use Rattle.std.proofs.Common.{◌∙◌, ◌+◌, ap, sym, length}
use Rattle.bit_values.proofs.Widths.{ones_is}
use Rattle.piece_text.specs.DigitCounts.{decimal_of}
use Rattle.piece_text.proofs.TextLaws.{signed_columns, unsigned_columns, one_shifted}
use Rattle.piece_text.proofs.show.columns_of.Goals as goal

pub returns-then-signed : goal.returns-then-signed
returns-then-signed c =
    rw c.if-signed.true (ap (λ k. 1 + k) (c.decimal_length.ensures.value
    ∙ ap (λ n. length (decimal_of n)) (one_shifted c.args.width c.requires.some c.requires.most)) ∙ sym (signed_columns c.args.width))

pub returns : goal.returns
returns c =
    rw c.if-signed.false (c.decimal_length-2.ensures.value ∙ ap (λ n. length (decimal_of n)) (ones_is c.args.width c.requires.most)
    ∙ sym (unsigned_columns c.args.width))
