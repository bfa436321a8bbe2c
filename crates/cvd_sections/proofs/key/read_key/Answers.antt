use Rattle.std.proofs.Common.{◌++◌, sym, ◌∙◌, ap, subst}
use Rattle.cvd_sections.proofs.KeyWords.{KeySoFar, no_key, goes_on, ends}
use Rattle.cvd_sections.proofs.key.read_key.Goals as goal

pub returns-in_default : goal.returns-in_default
returns-in_default c = λ holds. no_key holds c.args.cursor.now _ (sym c.in_default.ensures) c.wrong.ensures

pub words-preserved : goal.words-preserved
words-preserved c =
    let word = c.in-Some-peek.word.now in
    subst (λ k. KeySoFar c.args.cursor.now c.skip-in-Some-peek.new.self k)
    (sym (c.in_ok-append-2.ensures.ok ∙ ap (λ l. l ++ word) c.in_ok-append.ensures.ok))
    (goes_on c.args.cursor.now c.words.cursor c.skip-in-Some-peek.new.self c.words.key word c.words.invariant (sym c.in-Some-peek.ensures)
    c.skip-in-Some-peek.ensures.text c.skip-in-Some-peek.ensures.rest)

pub returns : goal.returns
returns c = (ends c.args.cursor.now c.words.cursor c.words.key c.requires c.words.invariant, sym c.in_default-peek.ensures)
