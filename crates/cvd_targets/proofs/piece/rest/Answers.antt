use Rattle.std.proofs.Common.{sym, subst}
use Rattle.cvd_cursor.specs.Reads.{Reads}
use Rattle.cvd_step_laws.specs.LineMarks.{with_vars}
use Rattle.cvd_targets.specs.PieceParts.{parts_marks, made, PieceIn}
use Rattle.cvd_targets.proofs.piece.rest.Goals as goal

pub returns-in-Text : goal.returns-in-Text
returns-in-Text c =
    subst (λ f. Reads (parts_marks f) (λ p held. PieceIn (with_vars c.args.vars.now) (made f p) held) c.args.cursor.now c.text.result c.text.new.cursor)
    (sym c.in-Text.is) c.text.ensures

pub returns-in-Dec : goal.returns-in-Dec
returns-in-Dec c =
    subst (λ f. Reads (parts_marks f) (λ p held. PieceIn (with_vars c.args.vars.now) (made f p) held) c.args.cursor.now c.dec.result c.dec.new.cursor)
    (sym c.in-Dec.is) c.dec.ensures

pub returns-in-Hex : goal.returns-in-Hex
returns-in-Hex c =
    subst (λ f. Reads (parts_marks f) (λ p held. PieceIn (with_vars c.args.vars.now) (made f p) held) c.args.cursor.now c.hex.result c.hex.new.cursor)
    (sym c.in-Hex.is) c.hex.ensures

pub returns-in-Bin : goal.returns-in-Bin
returns-in-Bin c =
    subst (λ f. Reads (parts_marks f) (λ p held. PieceIn (with_vars c.args.vars.now) (made f p) held) c.args.cursor.now c.bin.result c.bin.new.cursor)
    (sym c.in-Bin.is) c.bin.ensures
