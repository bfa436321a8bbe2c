use Rattle.std.proofs.Common.{refl, sym, ◌∙◌, ap}
use Rattle.std.specs.Option.{option_map}
use Rattle.cvd_text.specs.Tokens.{word}
use Rattle.cvd_cursor.proofs.Single.{missing, differs, takes_word}
use Rattle.cvd_step_laws.specs.StepMarks.{step_word, a_stop}
use Rattle.cvd_targets.proofs.Words.{word_found, word_none}
use Rattle.cvd_steps.specs.Words.{head_of, step_table}
use Rattle.cvd_steps.proofs.StepWords.{word_again}
use Rattle.cvd_steps.proofs.word.read_word.Goals as goal

pub returns-in_default : goal.returns-in_default
returns-in_default c = missing (λ h. word (step_word h)) a_stop c.args.cursor.now c.wrong.result (sym c.in_default.ensures) c.wrong.ensures

pub returns-in_default-word_of : goal.returns-in_default-word_of
returns-in_default-word_of c =
    differs (λ h. word (step_word h)) a_stop c.args.cursor.now c.in-Some.word.now _ (sym c.in-Some.ensures)
    (word_none step_word step_table word_again c.in-Some.word.now (sym c.word_of.ensures ∙ ap (option_map head_of) c.in_default-word_of.is)) refl

pub returns : goal.returns
returns c =
    let h = head_of c.in-Some-word_of.found in (
      h,
      (
        takes_word (λ k. word (step_word k)) h c.args.cursor.now _ c.in-Some.word.now (sym c.in-Some.ensures) c.skip.ensures.text c.skip.ensures.rest
            (word_found step_word step_table c.in-Some.word.now h refl (sym c.word_of.ensures ∙ ap (option_map head_of) c.in-Some-word_of.is)),
        refl,
      ),
    )
