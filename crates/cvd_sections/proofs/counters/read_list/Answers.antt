use Rattle.std.proofs.Common.{[], sym, ◌∙◌, refl}
use Rattle.std.proofs.lemmas.Result.{err_from_is_err_and}
use Rattle.cvd_text.specs.Tokens.{counters}
use Rattle.cvd_cursor.proofs.Single.{missing, differs, takes_word}
use Rattle.cvd_sections.specs.Keys.{list_of}
use Rattle.cvd_sections.proofs.CounterLists.{no_list, fits_list}
use Rattle.cvd_sections.proofs.counters.read_list.Goals as goal

pub returns-in_default : goal.returns-in_default
returns-in_default c = missing counters [] c.args.cursor.now c.wrong.result (sym c.in_default.ensures) c.wrong.ensures

pub returns-then-not-is_list : goal.returns-then-not-is_list
returns-then-not-is_list c =
    differs counters [] c.args.cursor.now c.in-Some.word.now _ (sym c.in-Some.ensures)
    (no_list c.in-Some.word.now (sym c.is_list.ensures ∙ c.if-not-is_list.true)) refl

pub returns-in_err-held : goal.returns-in_err-held
returns-in_err-held c = let p = err_from_is_err_and c.from_residual.result c.from_residual.ensures.1 in rw (p.1, p.2) tt

pub returns : goal.returns
returns c =
    let text = c.in-Some.word.now in (
      list_of text,
      (
        takes_word counters (list_of text) c.args.cursor.now _ text (sym c.in-Some.ensures) c.skip.ensures.text c.skip.ensures.rest
            (fits_list text (sym c.is_list.ensures ∙ c.if-not-is_list.false)),
        c.in_ok-held.ensures,
      ),
    )
