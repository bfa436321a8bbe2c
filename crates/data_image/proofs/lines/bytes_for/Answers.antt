use Rattle.std.proofs.Common.{◌≡◌, ◌∙◌, ◌+◌, sym, arith}
use Rattle.std.specs.Prelude.{sum_by}
use Rattle.std.proofs.lemmas.Grind.{common_steps}
use Rattle.data_image.specs.Lines.{most_bytes}
use Rattle.data_image.proofs.TextLemmas.{room_is}
use Rattle.data_image.proofs.lines.bytes_for.Goals as goal

pub returns : goal.returns
returns c =
    let e : c.loop-point.bytes ≡ 22 + sum_by most_bytes c.args.points.now = grind (arith, common_steps) in
    e ∙ sym (room_is c.args.points.now)
