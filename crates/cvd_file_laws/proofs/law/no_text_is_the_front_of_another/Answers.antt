use Rattle.cvd_file_laws.proofs.Texts.{no_front}
use Rattle.cvd_file_laws.proofs.law.no_text_is_the_front_of_another.Goals as goal

pub returns : goal.returns
returns c = no_front
