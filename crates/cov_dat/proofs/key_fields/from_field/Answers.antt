use Rattle.std.proofs.lemmas.List.{take_rest}
use Rattle.cov_dat.proofs.FieldTextLemmas.{field_from, texts_from_start}
use Rattle.cov_dat.proofs.key_fields.from_field.Goals as goal

pub returns-clause-texts : goal.returns-clause-texts
returns-clause-texts c = rw take_rest (texts_from_start c.args.key.now c.place_of-at.result c.place_of-at.ensures.place)

pub returns-clause-begins : goal.returns-clause-begins
returns-clause-begins c = rw take_rest (field_from c.args.key.now c.place_of-at.result c.place_of-at.ensures.place)
