use Rattle.std.proofs.Common.{◌∷◌, []}
use Rattle.cvd_text.specs.Tokens.{number, decimal_text}
use Rattle.cvd_write.proofs.Puts.{put_row, then_tokens}
use Rattle.cvd_write.proofs.section.toggle.Goals as goal

pub returns : goal.returns
returns c =
    let one = c.args.one.now in
    let last = number one.counter ∷ [] in
    put_row _ (decimal_text one.var) (number one.word ∷ number one.bit ∷ last) c.decimal.new.self c.number-3.new.self _ _ c.in_ok-decimal.ensures
    (then_tokens _ (number one.word ∷ []) (number one.bit ∷ last) c.number.new.self _ c.in_ok-number.ensures
    (then_tokens _ (number one.bit ∷ []) last c.number-2.new.self _ c.in_ok-number-2.ensures c.in_ok-number-3.ensures)) c.end.ensures
