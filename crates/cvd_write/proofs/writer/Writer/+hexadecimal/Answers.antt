use Rattle.std.proofs.Common.{sym, ap, ◌∙◌, ◌∷◌, [], ◌++◌, ◌/◌}
use Rattle.cvd_text.specs.Tokens.{hex_text}
use Rattle.cvd_write.proofs.Numerals.{hex_last, hex_step}
use Rattle.cvd_write.proofs.Puts.{put_behind, put_same}
use Rattle.cvd_write.proofs.writer.Writer.+hexadecimal.Goals as goal

pub returns-then-value-lt16 : goal.returns-then-value-lt16
returns-then-value-lt16 t c =
    put_same _ _ _ _ _ (ap (λ d. d ∷ []) c.hex_digit.ensures ∙ sym (hex_last c.args.value c.if-value-lt16.true)) c.put.ensures

pub returns : goal.returns
returns t c =
    put_same _ _ _ _ _ (ap (λ d. hex_text (c.args.value / 16) ++ d ∷ []) c.hex_digit.ensures ∙ sym (hex_step c.args.value c.if-value-lt16.false))
    (put_behind c.args.self.now (hex_text (c.args.value / 16)) (c.hex_digit.result ∷ []) c.hexadecimal.new.self _ _ c.in_ok-hexadecimal.ensures c.put-2.ensures)
