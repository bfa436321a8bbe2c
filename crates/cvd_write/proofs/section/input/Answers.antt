use Rattle.std.proofs.Common.{◌∷◌, [], ap}
use Rattle.cvd_text.specs.Tokens.{word, decimal_text}
use Rattle.cvd_write.specs.Writing.{row}
use Rattle.cvd_write.proofs.Puts.{put_row, put_same}
use Rattle.cvd_write.proofs.section.input.Goals as goal

pub returns : goal.returns
returns c =
    let one = c.args.one.now in
    let name = c.as_slice.result.now in
    put_same _ (row (decimal_text one.var) (word name ∷ [])) _ _ _ (ap (λ n. row (decimal_text one.var) (word n ∷ [])) c.as_slice.ensures)
    (put_row _ (decimal_text one.var) (word name ∷ []) c.decimal.new.self c.word.new.self _ _ c.in_ok-decimal.ensures c.in_ok-word.ensures c.end.ensures)
