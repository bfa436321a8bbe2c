use Rattle.std.proofs.Common.{sym, ◌∙◌, refl}
use Rattle.cov_types.specs.declared.kind.ProcessKind.TheVariants as process
use Rattle.cvd_text.specs.Tokens.{word}
use Rattle.cvd_text.specs.Sections.{process_word}
use Rattle.cvd_cursor.proofs.Single.{missing, differs, takes_word}
use Rattle.cvd_sections.specs.KindTables.{process_table}
use Rattle.cvd_sections.proofs.Words as words
use Rattle.cvd_sections.proofs.KindWords.{process_again}
use Rattle.cvd_sections.proofs.kind.read_process_kind.Goals as goal

pub returns-in_default : goal.returns-in_default
returns-in_default c = missing (λ k. word (process_word k)) process.Comb c.args.cursor.now c.wrong.result (sym c.in_default.ensures) c.wrong.ensures

pub returns-in_default-process_kind_of : goal.returns-in_default-process_kind_of
returns-in_default-process_kind_of c =
    differs (λ k. word (process_word k)) process.Comb c.args.cursor.now c.in-Some.word.now _ (sym c.in-Some.ensures)
    (words.none process_word process_table process_again c.in-Some.word.now (sym c.process_kind_of.ensures ∙ c.in_default-process_kind_of.is)) refl

pub returns : goal.returns
returns c =
    let k = c.in-Some-process_kind_of.kind in (
      k,
      (
        takes_word (λ k. word (process_word k)) k c.args.cursor.now _ c.in-Some.word.now (sym c.in-Some.ensures) c.skip.ensures.text c.skip.ensures.rest
            (words.found process_word process_table c.in-Some.word.now k refl (sym c.process_kind_of.ensures ∙ c.in-Some-process_kind_of.is)),
        refl,
      ),
    )
