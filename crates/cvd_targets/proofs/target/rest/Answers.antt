use Rattle.std.proofs.Common.{sym, subst}
use Rattle.cvd_cursor.specs.Reads.{Reads}
use Rattle.cvd_step_laws.specs.LineMarks.{with_vars}
use Rattle.cvd_targets.specs.TargetParts.{parts_marks, made, TargetIn}
use Rattle.cvd_targets.proofs.target.rest.Goals as goal

pub returns-in-Whole : goal.returns-in-Whole
returns-in-Whole c =
    subst (λ f. Reads (parts_marks f) (λ p held. TargetIn (with_vars c.args.vars.now) c.args.kind (made f p) held) c.args.cursor.now c.whole.result
    c.whole.new.cursor)
    (sym c.in-Whole.is) c.whole.ensures

pub returns-in-Part : goal.returns-in-Part
returns-in-Part c =
    subst (λ f. Reads (parts_marks f) (λ p held. TargetIn (with_vars c.args.vars.now) c.args.kind (made f p) held) c.args.cursor.now c.part.result
    c.part.new.cursor)
    (sym c.in-Part.is) c.part.ensures

pub returns-in-Word : goal.returns-in-Word
returns-in-Word c =
    subst (λ f. Reads (parts_marks f) (λ p held. TargetIn (with_vars c.args.vars.now) c.args.kind (made f p) held) c.args.cursor.now c.word.result
    c.word.new.cursor)
    (sym c.in-Word.is) c.word.ensures

pub returns-in-WordPart : goal.returns-in-WordPart
returns-in-WordPart c =
    subst (λ f. Reads (parts_marks f) (λ p held. TargetIn (with_vars c.args.vars.now) c.args.kind (made f p) held) c.args.cursor.now c.word_part.result
    c.word_part.new.cursor)
    (sym c.in-WordPart.is) c.word_part.ensures
