use Rattle.std.proofs.Common.{ℕ}
use Rattle.std.proofs.lemmas.Result.{err_from_is_err_and}
use Rattle.design_tree.specs.declared.step.Target.{Target}
use Rattle.spelling_laws.specs.Lists.{Many}
use Rattle.spelling_laws.proofs.Counted.{some_many}
use Rattle.cvd_cursor.specs.Numerals.{number_tokens}
use Rattle.cvd_cursor.specs.Reads.{marks}
use Rattle.cvd_cursor.proofs.Composed.{takes_both, refused_first, refused_second}
use Rattle.cvd_step_laws.specs.StepMarks.{targets_marks}
use Rattle.cvd_nodes.proofs.Fields.{apart_number}
use Rattle.cvd_targets.proofs.TargetForms.{some_target}
use Rattle.cvd_targets.proofs.targets.read_targets.Goals as goal

pub returns-in_err-count : goal.returns-in_err-count
returns-in_err-count c =
    let p = err_from_is_err_and c.from_residual.result c.from_residual.ensures.1 in
    rw (p.1, p.2) (refused_first ℕ (Many Target) (marks number_tokens) targets_marks apart_number (some_many some_target) c.args.cursor.now _ _
    c.in_err-count.ensures)

pub returns-in_err-held : goal.returns-in_err-held
returns-in_err-held c =
    let a = c.in_ok-count.ensures in
    let p = err_from_is_err_and c.from_residual-in_err-held.result c.from_residual-in_err-held.ensures.1 in
    rw (p.1, p.2) (refused_second ℕ (Many Target) (marks number_tokens) targets_marks a.0 (apart_number a.0) c.args.cursor.now _ _ _ a.1.0
    (c.in_err-held.ensures a.0 c.bytes_left.result (c.turns-turns.ensures a.0 a.1.1) c.bytes_left.ensures.most))

pub returns : goal.returns
returns c =
    let a = c.in_ok-count.ensures in
    let b = c.in_ok-held.ensures a.0 c.bytes_left.result (c.turns-turns.ensures a.0 a.1.1) c.bytes_left.ensures.most in
    ((a.0, b.0), (takes_both ℕ (Many Target) (marks number_tokens) targets_marks c.args.cursor.now _ _ a.0 b.0 a.1.0 b.1.0, b.1.1))
