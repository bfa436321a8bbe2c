use Rattle.std.proofs.Common.{refl, arith}
use Rattle.cvd_targets.proofs.PieceForms.{empty_text, some_text}
use Rattle.cvd_targets.proofs.shown.text_piece.Goals as goal

pub returns-then-shown-eq0 : goal.returns-then-shown-eq0
returns-then-shown-eq0 c = λ d. empty_text d c.args.bytes (omega arith)

pub returns : goal.returns
returns c = λ d. c.finished.ensures d (some_text d c.args.bytes (omega arith)) refl (omega arith) c.len-shown.ensures
