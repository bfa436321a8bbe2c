use Rattle.std.proofs.Common.{◌∷◌, [], ap, sym}
use Rattle.cvd_text.specs.Sections.{kind_word}
use Rattle.cvd_text.specs.Tokens.{word, number, hex, decimal_text}
use Rattle.cvd_write.specs.Writing.{row}
use Rattle.cvd_write.proofs.Puts.{put_row, put_same, then_tokens}
use Rattle.cvd_write.proofs.section.var.Goals as goal

pub returns : goal.returns
returns c =
    let one = c.args.one.now in
    let kind = c.kind_word.result.now in
    let last = word kind ∷ [] in
    put_same _ (row (decimal_text one.width) (number one.words ∷ hex one.start ∷ last)) _ _ _
    (ap (λ k. row (decimal_text one.width) (number one.words ∷ hex one.start ∷ word k ∷ [])) c.kind_word.ensures)
    (put_row _ (decimal_text one.width) (number one.words ∷ hex one.start ∷ last) c.decimal.new.self c.word.new.self _ _ c.in_ok-decimal.ensures
    (then_tokens _ (number one.words ∷ []) (hex one.start ∷ last) c.number.new.self _ c.in_ok-number.ensures
    (then_tokens _ (hex one.start ∷ []) last c.hex.new.self _ c.in_ok-hex.ensures c.in_ok-word.ensures)) c.end.ensures)
