use Rattle.std.proofs.Common.{ℕ, codes, refl}
use Rattle.std.proofs.lemmas.Result.{err_from_is_err_and}
use Rattle.cvd_text.specs.Lines.{stands}
use Rattle.cvd_cursor.specs.Numerals.{number_tokens}
use Rattle.cvd_cursor.specs.Reads.{marks}
use Rattle.cvd_cursor.proofs.Composed.{takes_both, refused_first, refused_second}
use Rattle.cvd_step_laws.specs.StepMarks.{this_word, arm_line}
use Rattle.cvd_step_laws.proofs.PartsApart.{apart_word}
use Rattle.cvd_steps.specs.Bodies.{load_of}
use Rattle.cvd_steps.specs.Lines.{arm_line_marks}
use Rattle.cvd_steps.proofs.EndedLines.{refused_value, refused_end, takes_line}
use Rattle.cvd_steps.proofs.FirstLines.{ArmHead, arm_value, apart_arm_value}
use Rattle.cvd_steps.proofs.Borders.{arm_flag}
use Rattle.cvd_steps.proofs.border.arm_line.Goals as goal

abbrev Armed : Type 0
Armed = (word : Unit {0}) × ((n : ℕ) × Unit {0})

pub returns-in_err-expect : goal.returns-in_err-expect
returns-in_err-expect c =
    let before = load_of c.args.sums in
    let p = err_from_is_err_and c.from_residual.result c.from_residual.ensures.1 in
    rw (p.1, p.2) (refused_value ArmHead Armed arm_value (λ q. stands before (arm_line q.1)) (arm_line_marks before)
    (λ q. (q.0, (q.1, tt))) (λ q. (q.0, q.1.0)) (λ q. refl) (λ q. refl) apart_arm_value c.args.cursor.now _ _
    (refused_first (Unit {0}) (λ u. ℕ) (marks (this_word (codes "arm"))) (λ u. marks number_tokens) (apart_word (codes "arm")) (λ u. 0) c.args.cursor.now _ _
    c.in_err-expect.ensures))

pub returns-in_err-count : goal.returns-in_err-count
returns-in_err-count c =
    let before = load_of c.args.sums in
    let a = c.in_ok-expect.ensures in
    let p = err_from_is_err_and c.from_residual-in_err-count.result c.from_residual-in_err-count.ensures.1 in
    rw (p.1, p.2) (refused_value ArmHead Armed arm_value (λ q. stands before (arm_line q.1)) (arm_line_marks before)
    (λ q. (q.0, (q.1, tt))) (λ q. (q.0, q.1.0)) (λ q. refl) (λ q. refl) apart_arm_value c.args.cursor.now _ _
    (refused_second (Unit {0}) (λ u. ℕ) (marks (this_word (codes "arm"))) (λ u. marks number_tokens) a.0 (apart_word (codes "arm") a.0) c.args.cursor.now
    _ _ _ a.1.0 c.in_err-count.ensures))

pub returns-in_err-end_line : goal.returns-in_err-end_line
returns-in_err-end_line c =
    let before = load_of c.args.sums in
    let a = c.in_ok-expect.ensures in
    let b = c.in_ok-count.ensures in
    let head =
    takes_both (Unit {0}) (λ u. ℕ) (marks (this_word (codes "arm"))) (λ u. marks number_tokens) c.args.cursor.now _ c.number.new.cursor a.0 b.0 a.1.0
    b.1.0 in
    let p = err_from_is_err_and c.from_residual-in_err-end_line.result c.from_residual-in_err-end_line.ensures.1 in
    rw (p.1, p.2) (refused_end ArmHead Armed arm_value (λ q. stands before (arm_line q.1)) (arm_line_marks before)
    (λ q. (q.0, (q.1, tt))) (λ q. (q.0, q.1.0)) (λ q. refl) (λ q. refl) apart_arm_value (a.0, b.0) _ (arm_flag before b.0 c.requires)
    c.args.cursor.now c.number.new.cursor _ _ head c.in_err-end_line.ensures)

pub returns : goal.returns
returns c =
    let before = load_of c.args.sums in
    let a = c.in_ok-expect.ensures in
    let b = c.in_ok-count.ensures in
    let e = c.in_ok-end_line.ensures in
    let head =
    takes_both (Unit {0}) (λ u. ℕ) (marks (this_word (codes "arm"))) (λ u. marks number_tokens) c.args.cursor.now _ c.number.new.cursor a.0 b.0 a.1.0
    b.1.0 in (
      (a.0, (b.0, tt)),
      (
        takes_line ArmHead Armed arm_value (λ q. stands before (arm_line q.1)) (arm_line_marks before)
            (λ q. (q.0, (q.1, tt))) (λ q. (q.0, q.1.0)) (λ q. refl) (λ q. refl) apart_arm_value (a.0, b.0) _ (arm_flag before b.0 c.requires)
            c.args.cursor.now c.number.new.cursor _ head e.1.0,
        (c.bytes_left.result, (c.bytes_left.ensures.most, c.turns-turns.ensures b.0 b.1.1)),
      ),
    )
