use Rattle.std.proofs.Common.{ap, ◌∷◌, [], ◌++◌, codes}
use Rattle.cvd_text.specs.Expressions.{position_tokens}
use Rattle.cvd_text.specs.Targets.{target_tokens}
use Rattle.cvd_text.specs.Tokens.{word, number}
use Rattle.cvd_write.proofs.Puts.{put_tokens, put_as}
use Rattle.cvd_write.proofs.target.target.Goals as goal

pub returns-in-Whole : goal.returns-in-Whole
returns-in-Whole c = put_as _ _ _ _ _ (ap target_tokens c.in-Whole.is) c.headed.ensures

pub returns-in_ok-number-in-Part : goal.returns-in_ok-number-in-Part
returns-in_ok-number-in-Part c =
    let p = c.in-Part in
    put_as _ _ _ _ _ (ap target_tokens p.is)
    (put_tokens _ (word (codes "b") ∷ number p.var ∷ []) (number p.width ∷ position_tokens p.at) c.headed-in-Part.new.out _ _ c.in_ok-headed-in-Part.ensures
    (put_tokens _ (number p.width ∷ []) (position_tokens p.at) c.number.new.self _ _ c.in_ok-number-in-Part.ensures c.position.ensures))

pub returns-in_ok-headed-in-Word : goal.returns-in_ok-headed-in-Word
returns-in_ok-headed-in-Word c =
    let p = c.in-Word in
    put_as _ _ _ _ _ (ap target_tokens p.is)
    (put_tokens _ (word (codes "m") ∷ number p.var ∷ []) (position_tokens p.at) c.headed-in-Word.new.out _ _ c.in_ok-headed-in-Word.ensures
    c.position-in-Word.ensures)

pub returns-in_ok-number-in-WordPart : goal.returns-in_ok-number-in-WordPart
returns-in_ok-number-in-WordPart c =
    let p = c.in-WordPart in
    let part = number p.width ∷ position_tokens p.at in
    put_as _ _ _ _ _ (ap target_tokens p.is)
    (put_tokens _ (word (codes "q") ∷ number p.var ∷ []) (position_tokens p.word ++ part) c.headed-in-WordPart.new.out _ _
    c.in_ok-headed-in-WordPart.ensures
    (put_tokens _ (position_tokens p.word) part c.position-in-WordPart.new.out _ _ c.in_ok-position-in-WordPart.ensures
    (put_tokens _ (number p.width ∷ []) (position_tokens p.at) c.number-in-WordPart.new.self _ _ c.in_ok-number-in-WordPart.ensures
    c.position-in-WordPart-2.ensures)))
