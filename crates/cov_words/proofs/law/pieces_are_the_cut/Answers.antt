use Rattle.cov_words.proofs.LawLemmas as laws
use Rattle.cov_words.proofs.law.pieces_are_the_cut.Goals as goal

pub returns-clause-sound : goal.returns-clause-sound
returns-clause-sound c = laws.sound

pub returns-clause-complete : goal.returns-clause-complete
returns-clause-complete c = laws.complete

pub returns-clause-one : goal.returns-clause-one
returns-clause-one c = laws.one
