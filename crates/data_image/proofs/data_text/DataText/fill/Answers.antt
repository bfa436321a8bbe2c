use Rattle.std.proofs.Common.{◌≡◌, ◌∙◌, [], ◌∷◌, ◌++◌, ap, arith}
use Rattle.std.specs.Prelude.{flat_map}
use Rattle.cov_dat.specs.DataLine.{header}
use Rattle.data_image.specs.Lines.{line_of}
use Rattle.data_image.specs.PointText.{TextInRoom}
use Rattle.data_image.proofs.TextLemmas.{room_is, text_is}
use Rattle.data_image.proofs.data_text.DataText.fill.Goals as goal

pub put_lines-requires-clause-room : goal.put_lines-requires-clause-room
put_lines-requires-clause-room c =
    let seen = ap (λ (t : TextInRoom). t.room) c.self.view_is in
    rw c.as_slice.ensures (omega (arith, room_is c.args.points.now, seen))

pub returns : goal.returns
returns c =
    let lines = flat_map (line_of c.args.bits c.args.counts.now) c.args.points.now in
    let cleared : c.clear.new.self.items ≡ [] = c.clear.ensures.items in
    let head : c.put_header.new.out.items ≡ header ++ 10 ∷ [] = rw cleared at c.put_header.ensures.items in
    let items : c.put_lines.new.out.items ≡ header ++ 10 ∷ [] ++ lines = rw (head, c.as_slice.ensures) at c.put_lines.ensures.items in
    let text = items ∙ text_is c.args.bits c.args.counts.now c.args.points.now c.requires.ascend in
    let seen = ap (λ (t : TextInRoom). t.room) c.self.view_is in
    cc
