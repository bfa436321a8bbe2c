use Rattle.std.proofs.Common.{sym, ◌∙◌, refl, arith}
use Rattle.cvd_text.specs.Tokens.{number}
use Rattle.cvd_cursor.specs.Numerals.{value_of}
use Rattle.cvd_cursor.proofs.Digits.{no_numeral, fits_numeral}
use Rattle.cvd_cursor.proofs.Single.{missing, differs, takes_word}
use Rattle.cvd_cursor.proofs.token.number.Goals as goal

pub returns-in_default : goal.returns-in_default
returns-in_default c = missing number 0 c.args.cursor.now c.wrong.result (sym c.in_default.ensures) c.wrong.ensures

pub returns-then-not-is_numeral : goal.returns-then-not-is_numeral
returns-then-not-is_numeral c =
    let text = c.in-Some.word.now in
    differs number 0 c.args.cursor.now text _ (sym c.in-Some.ensures)
    (λ n. no_numeral 10 n text (omega arith) (omega arith) (sym c.is_numeral.ensures ∙ c.if-not-is_numeral.true)) refl

pub returns : goal.returns
returns c =
    let text = c.in-Some.word.now in
    let fit = fits_numeral 10 text (omega arith) (sym c.is_numeral.ensures ∙ c.if-not-is_numeral.false) in (
      value_of 10 text,
      (
        takes_word number (value_of 10 text) c.args.cursor.now _ text (sym c.in-Some.ensures) c.skip.ensures.text c.skip.ensures.rest fit,
        c.decimal-held.ensures,
      ),
    )
