use Rattle.std.proofs.Common.{ap, sym, ◌∙◌, ◌∷◌, [], codes}
use Rattle.cvd_text.specs.Expressions.{sign_word, tokens_of}
use Rattle.cvd_text.specs.Targets.{piece_tokens}
use Rattle.cvd_text.specs.Tokens.{word, digits}
use Rattle.cvd_write.proofs.Puts.{put_tokens, put_as}
use Rattle.cvd_write.proofs.target.piece.Goals as goal

pub returns-in_ok-word-in-Text : goal.returns-in_ok-word-in-Text
returns-in_ok-word-in-Text c =
    put_as _ _ _ _ _ (ap piece_tokens c.in-Text.is ∙ ap (λ b. word (codes "t") ∷ digits b ∷ []) (sym c.as_slice.ensures))
    (put_tokens _ (word (codes "t") ∷ []) (digits c.as_slice.result.now ∷ []) c.word.new.self _ _ c.in_ok-word-in-Text.ensures c.text.ensures)

pub returns-in_ok-word-in-Dec-2 : goal.returns-in_ok-word-in-Dec-2
returns-in_ok-word-in-Dec-2 c =
    let p = c.in-Dec in
    let sign = c.sign_word.result.now in
    let rest = word sign ∷ tokens_of p.value in
    put_as _ _ _ _ _
    (ap piece_tokens p.is ∙ ap (λ l. word l ∷ word (sign_word p.signed) ∷ tokens_of p.value) (sym c.letter.ensures)
    ∙ ap (λ s. word c.letter.result.now ∷ word s ∷ tokens_of p.value) (sym c.sign_word.ensures))
    (put_tokens _ (word c.letter.result.now ∷ []) rest c.word-in-Dec.new.self _ _ c.in_ok-word-in-Dec.ensures
    (put_tokens _ (word sign ∷ []) (tokens_of p.value) c.word-in-Dec-2.new.self _ _ c.in_ok-word-in-Dec-2.ensures c.expression.ensures))

pub returns-in_ok-word-in-Hex : goal.returns-in_ok-word-in-Hex
returns-in_ok-word-in-Hex c =
    let p = c.in-Hex in
    put_as _ _ _ _ _ (ap piece_tokens p.is ∙ ap (λ l. word l ∷ tokens_of p.value) (sym c.letter-in-Hex.ensures))
    (put_tokens _ (word c.letter-in-Hex.result.now ∷ []) (tokens_of p.value) c.word-in-Hex.new.self _ _ c.in_ok-word-in-Hex.ensures c.expression-in-Hex.ensures)

pub returns-in_ok-word-in-Bin : goal.returns-in_ok-word-in-Bin
returns-in_ok-word-in-Bin c =
    let p = c.in-Bin in
    put_as _ _ _ _ _ (ap piece_tokens p.is ∙ ap (λ l. word l ∷ tokens_of p.value) (sym c.letter-in-Bin.ensures))
    (put_tokens _ (word c.letter-in-Bin.result.now ∷ []) (tokens_of p.value) c.word-in-Bin.new.self _ _ c.in_ok-word-in-Bin.ensures c.expression-in-Bin.ensures)
