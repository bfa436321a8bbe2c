use Rattle.point_key_laws.proofs.OneList.{runs_tell_lists}
use Rattle.point_key_laws.proofs.LineTexts.{text_tells_lists}
use Rattle.point_key_laws.proofs.line_lists.Goals as goal

pub returns : goal.returns
returns c = record { runs = runs_tell_lists; text = text_tells_lists }
