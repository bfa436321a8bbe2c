use Rattle.std.proofs.Common.{sym, refl}
use Rattle.cvd_text.specs.Tokens.{word}
use Rattle.cvd_cursor.proofs.Single.{missing, differs, takes_word, false_from_not, true_from_not}
use Rattle.cvd_cursor.proofs.token.expect.Goals as goal

pub returns-in_default : goal.returns-in_default
returns-in_default c = missing (λ (u : Unit {0}). word c.args.name.now) tt c.args.cursor.now c.wrong.result (sym c.in_default.ensures) c.wrong.ensures

pub returns-then-ne : goal.returns-then-ne
returns-then-ne c =
    differs (λ (u : Unit {0}). word c.args.name.now) tt c.args.cursor.now c.in-Some.word.now _ (sym c.in-Some.ensures)
    (λ u. false_from_not _ c.if-ne.ensures) refl

pub returns : goal.returns
returns c = (
  tt,
  (
    takes_word (λ (u : Unit {0}). word c.args.name.now) tt c.args.cursor.now _ c.in-Some.word.now (sym c.in-Some.ensures) c.skip.ensures.text
        c.skip.ensures.rest
        (true_from_not _ c.if-ne.ensures),
    tt,
  ),
)
