use Rattle.std.proofs.Common.{subst}
use Rattle.std.proofs.lemmas.Result.{err_from_is_err_and}
use Rattle.cvd_step_laws.specs.StepMarks.{Assigned, assigned_marks}
use Rattle.cvd_targets.specs.TargetParts.{Assignment, AssignedIn, assignment_marks, assigned_by}
use Rattle.cvd_text.specs.Lines.{added}
use Rattle.cvd_steps.specs.Bodies.{AreSums, around_of, load_of, own_load}
use Rattle.cvd_steps.proofs.EndedLines.{refused_value, refused_end, takes_line}
use Rattle.cvd_steps.proofs.FirstLines.{apart_assignment, to_assigned, from_assigned, assigned_flag, assigned_alike, assigned_alike_to}
use Rattle.cvd_steps.proofs.LineTests.{assigned_stands, assigned_breaks}
use Rattle.cvd_steps.proofs.line.assigned_line.Goals as goal

pub returns-in_err-held : goal.returns-in_err-held
returns-in_err-held c = λ at sort name e.
    let around = around_of c.args.vars.now c.args.process in
    let before = load_of c.args.sums in
    let p = err_from_is_err_and c.from_residual.result c.from_residual.ensures.1 in
    rw (p.1, p.2) (refused_value Assignment Assigned assignment_marks (assigned_flag around before at sort name) (assigned_marks around before at sort name)
    to_assigned from_assigned (assigned_alike around before at sort name) (assigned_alike_to around before at sort name) apart_assignment
    c.args.cursor.now _ _ c.in_err-held.ensures)

pub returns-in_default : goal.returns-in_default
returns-in_default c = λ at sort name e.
    let around = around_of c.args.vars.now c.args.process in
    let before = load_of c.args.sums in
    let a = c.in_ok-held.ensures in
    let none = subst (AssignedIn around.design around.kind (assigned_by a.0)) c.in_default.is a.1.1 in
    refused_end Assignment Assigned assignment_marks (assigned_flag around before at sort name) (assigned_marks around before at sort name)
    to_assigned from_assigned (assigned_alike around before at sort name) (assigned_alike_to around before at sort name) apart_assignment
    a.0 _ (assigned_breaks around before at sort name (assigned_by a.0) none) c.args.cursor.now c.read_assigned.new.cursor _ _ a.1.0 c.refuse.ensures

pub returns-in_err-sums : goal.returns-in_err-sums
returns-in_err-sums c = λ at sort name e.
    let around = around_of c.args.vars.now c.args.process in
    let before = load_of c.args.sums in
    let a = c.in_ok-held.ensures in
    let h = subst (AssignedIn around.design around.kind (assigned_by a.0)) c.in-Some.is a.1.1 in
    let p = err_from_is_err_and c.from_residual-in_err-sums.result c.from_residual-in_err-sums.ensures.1 in
    rw (p.1, p.2) (refused_end Assignment Assigned assignment_marks (assigned_flag around before at sort name) (assigned_marks around before at sort name)
    to_assigned from_assigned (assigned_alike around before at sort name) (assigned_alike_to around before at sort name) apart_assignment
    a.0 _ (assigned_stands around before at sort name (assigned_by a.0) c.args.allowed c.in-Some.held.nodes e h.stands h.nodes_are)
    c.args.cursor.now c.read_assigned.new.cursor _ _ a.1.0 c.in_err-sums.ensures)

pub returns : goal.returns
returns c = λ at sort name e.
    let around = around_of c.args.vars.now c.args.process in
    let before = load_of c.args.sums in
    let a = c.in_ok-held.ensures in
    let h = subst (AssignedIn around.design around.kind (assigned_by a.0)) c.in-Some.is a.1.1 in
    let r = c.in_ok-sums.ensures in (
      to_assigned a.0,
      (
        takes_line Assignment Assigned assignment_marks (assigned_flag around before at sort name) (assigned_marks around before at sort name)
            to_assigned from_assigned (assigned_alike around before at sort name) (assigned_alike_to around before at sort name) apart_assignment
            a.0 _ (assigned_stands around before at sort name (assigned_by a.0) c.args.allowed c.in-Some.held.nodes e h.stands h.nodes_are)
            c.args.cursor.now c.read_assigned.new.cursor _ a.1.0 r.1.0,
        record {
          targets_are = h.targets_are;
          value_is = h.value_is;
          sums_are = subst (λ n. AreSums (added before (own_load 1 n 0)) c.in_ok-sums.sums) h.nodes_are r.1.1;
        },
      ),
    )
