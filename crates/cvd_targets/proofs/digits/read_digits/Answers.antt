use Rattle.std.proofs.Common.{[], sym, refl, subst}
use Rattle.cvd_text.specs.Tokens.{digits}
use Rattle.cvd_cursor.proofs.Single.{missing, differs, takes_word}
use Rattle.cvd_targets.specs.ByteTexts.{Spells}
use Rattle.cvd_targets.proofs.ByteTexts.{text_again}
use Rattle.cvd_targets.proofs.digits.read_digits.Goals as goal

pub returns-in_default : goal.returns-in_default
returns-in_default c = missing digits [] c.args.cursor.now c.wrong.result (sym c.in_default.ensures) c.wrong.ensures

pub returns-in_default-2 : goal.returns-in_default-2
returns-in_default-2 c =
    differs digits [] c.args.cursor.now c.in-Some.word.now _ (sym c.in-Some.ensures)
    (subst (Spells c.in-Some.word.now) c.in_default-2.is c.in_ok-bytes.ensures) refl

pub returns : goal.returns
returns c =
    let bytes = c.in-Some-2.bytes in (
      bytes,
      (
        takes_word digits bytes c.args.cursor.now _ c.in-Some.word.now (sym c.in-Some.ensures) c.skip.ensures.text c.skip.ensures.rest
            (text_again c.in-Some.word.now bytes (subst (Spells c.in-Some.word.now) c.in-Some-2.is c.in_ok-bytes.ensures)),
        refl,
      ),
    )
