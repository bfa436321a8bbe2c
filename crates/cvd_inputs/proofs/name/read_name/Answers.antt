use Rattle.std.proofs.Common.{[], sym, refl}
use Rattle.std.specs.Cmp.Lexicographic.{bytes_decides}
use Rattle.cvd_text.specs.Tokens.{word}
use Rattle.cvd_cursor.proofs.Single.{missing, takes_word}
use Rattle.cvd_inputs.proofs.name.read_name.Goals as goal

pub returns-in_default : goal.returns-in_default
returns-in_default c = missing word [] c.args.cursor.now c.wrong.result (sym c.in_default.ensures) c.wrong.ensures

pub returns : goal.returns
returns c =
    let w = c.in-Some.word.now in
    (w, (takes_word word w c.args.cursor.now _ w (sym c.in-Some.ensures) c.skip.ensures.text c.skip.ensures.rest ((bytes_decides w w).1 refl), refl))
