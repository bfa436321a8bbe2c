use Rattle.std.proofs.Common.{sym, ◌∙◌, refl}
use Rattle.cov_types.specs.declared.kind.VarKind.TheVariants as kind
use Rattle.cvd_text.specs.Tokens.{word}
use Rattle.cvd_text.specs.Sections.{kind_word}
use Rattle.cvd_cursor.proofs.Single.{missing, differs, takes_word}
use Rattle.cvd_sections.specs.KindTables.{kind_table}
use Rattle.cvd_sections.proofs.Words as words
use Rattle.cvd_sections.proofs.KindWords.{kind_again}
use Rattle.cvd_sections.proofs.kind.read_kind.Goals as goal

pub returns-in_default : goal.returns-in_default
returns-in_default c = missing (λ k. word (kind_word k)) kind.Input c.args.cursor.now c.wrong.result (sym c.in_default.ensures) c.wrong.ensures

pub returns-in_default-kind_of : goal.returns-in_default-kind_of
returns-in_default-kind_of c =
    differs (λ k. word (kind_word k)) kind.Input c.args.cursor.now c.in-Some.word.now _ (sym c.in-Some.ensures)
    (words.none kind_word kind_table kind_again c.in-Some.word.now (sym c.kind_of.ensures ∙ c.in_default-kind_of.is)) refl

pub returns : goal.returns
returns c =
    let k = c.in-Some-kind_of.kind in (
      k,
      (
        takes_word (λ k. word (kind_word k)) k c.args.cursor.now _ c.in-Some.word.now (sym c.in-Some.ensures) c.skip.ensures.text c.skip.ensures.rest
            (words.found kind_word kind_table c.in-Some.word.now k refl (sym c.kind_of.ensures ∙ c.in-Some-kind_of.is)),
        refl,
      ),
    )
