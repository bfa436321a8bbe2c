use Rattle.std.proofs.Common.{◌∷◌, []}
use Rattle.cvd_text.specs.Tokens.{number}
use Rattle.cvd_write.proofs.Puts.{put_row}
use Rattle.cvd_write.proofs.step.numbered_line.Goals as goal

pub returns : goal.returns
returns c =
    put_row _ c.args.name.now (number c.args.value ∷ []) c.put.new.self c.number.new.self _ _ c.in_ok-put.ensures c.in_ok-number.ensures c.end.ensures
