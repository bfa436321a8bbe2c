use Rattle.std.proofs.Common.{drop}
use Rattle.std.proofs.lemmas.List.{take_rest}
use Rattle.cov_dat.proofs.FieldTextLemmas.{field_from, texts_cut}
use Rattle.cov_dat.proofs.key_fields.cut_field.Goals as goal

pub returns-clause-texts : goal.returns-clause-texts
returns-clause-texts c =
    let at = rw take_rest at c.place_of-end.ensures.place in
    simp take_rest (texts_cut c.args.rest.now c.place_of-end.result c.requires.some c.requires.begins at)

pub returns-clause-begins : goal.returns-clause-begins
returns-clause-begins c =
    let at = rw take_rest at c.place_of-end.ensures.place in
    simp take_rest (field_from (drop 1 c.args.rest.now) c.place_of-end.result at)
