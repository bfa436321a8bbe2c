use Rattle.std.proofs.Common.{sym, ◌∙◌, refl}
use Rattle.cvd_text.specs.Tokens.{word}
use Rattle.cvd_cursor.proofs.Single.{missing, differs, takes_word}
use Rattle.cvd_targets.specs.PieceParts.{form_text, form_table}
use Rattle.cvd_targets.specs.declared.piece.PieceForm.TheVariants as form
use Rattle.cvd_targets.proofs.PieceForms.{form_again}
use Rattle.cvd_targets.proofs.Words.{word_found, word_none}
use Rattle.cvd_targets.proofs.piece.read_form.Goals as goal

pub returns-in_default : goal.returns-in_default
returns-in_default c = missing (λ f. word (form_text f)) form.Text c.args.cursor.now c.wrong.result (sym c.in_default.ensures) c.wrong.ensures

pub returns-in_default-form_of : goal.returns-in_default-form_of
returns-in_default-form_of c =
    differs (λ f. word (form_text f)) form.Text c.args.cursor.now c.in-Some.word.now _ (sym c.in-Some.ensures)
    (word_none form_text form_table form_again c.in-Some.word.now (sym c.form_of.ensures ∙ c.in_default-form_of.is)) refl

pub returns : goal.returns
returns c =
    let f = c.in-Some-form_of.form in (
      f,
      (
        takes_word (λ g. word (form_text g)) f c.args.cursor.now _ c.in-Some.word.now (sym c.in-Some.ensures) c.skip.ensures.text c.skip.ensures.rest
            (word_found form_text form_table c.in-Some.word.now f refl (sym c.form_of.ensures ∙ c.in-Some-form_of.is)),
        refl,
      ),
    )
