use Rattle.std.proofs.Common.{◌<◌, ◌≤◌, length, sym, subst, arith}
use Rattle.cvd_text.specs.Spelling.{Cvd}
use Rattle.cvd_read.proofs.PieceTexts.{pieces_cut}
use Rattle.cvd_sections.specs.Keys.{AreCut}
use Rattle.cvd_file.proofs.Found.{ends_there, trails}
use Rattle.cvd_file.proofs.reading.read_design.Goals as goal

pub read_lines-requires : goal.read_lines-requires
read_lines-requires c = subst AreCut (sym c.new-cursor.ensures.rest) (pieces_cut c.args.text.now)

pub returns-then-end-text-clause-fault : goal.returns-then-end-text-clause-fault
returns-then-end-text-clause-fault c =
    let r = c.in-Ok.ensures in
    let less : c.place-end.result < length c.args.text.now = omega arith in
    trails r.0 c.args.text.now c.new-cursor.result c.read_lines.new.cursor r.1.0 c.new-cursor.ensures.text c.new-cursor.ensures.rest c.place-end.result
    c.place-end.ensures less

pub returns-else-end-text-clause-design : goal.returns-else-end-text-clause-design
returns-else-end-text-clause-design c =
    let r = c.in-Ok.ensures in
    let most : length c.args.text.now ≤ c.place-end.result = omega arith in
    subst (λ y. Cvd y c.args.text.now) (sym r.1.1)
    (ends_there r.0 c.args.text.now c.new-cursor.result c.read_lines.new.cursor r.1.0 c.new-cursor.ensures.text c.new-cursor.ensures.rest c.place-end.result
    c.place-end.ensures most)
