use Rattle.std.proofs.Common.{subst}
use Rattle.cvd_text.specs.Lines.{added}
use Rattle.cvd_cursor.specs.Reads.{Reads, line_marks}
use Rattle.cvd_step_laws.specs.StepMarks.{ending_line}
use Rattle.cvd_steps.specs.Bodies.{AreSums, load_of}
use Rattle.cvd_steps.proofs.LineTests.{plain_step}
use Rattle.cvd_steps.proofs.line.ending.Goals as goal

pub returns : goal.returns
returns c = λ around at name e.
    let before = load_of c.args.sums in
    subst (λ b. Reads (line_marks b) (λ u held. AreSums (added before (ending_line around at name).load) held) c.args.cursor.now c.close.result
    c.close.new.cursor)
    (plain_step around before at c.args.allowed e) c.close.ensures
