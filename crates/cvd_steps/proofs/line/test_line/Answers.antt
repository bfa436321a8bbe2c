use Rattle.std.proofs.Common.{refl, ◌∙◌, ap, subst}
use Rattle.std.specs.Prelude.{◌&&◌}
use Rattle.std.proofs.lemmas.Result.{err_from_is_err_and}
use Rattle.design_tree.specs.declared.typed.Typed.{Typed}
use Rattle.cvd_text.specs.Expressions.{tokens_of}
use Rattle.cvd_text.specs.Lines.{added, is_within, stands}
use Rattle.cvd_cursor.specs.Reads.{marks}
use Rattle.cvd_step_laws.specs.StepMarks.{if_line}
use Rattle.cvd_step_laws.proofs.PartsApart.{apart_value}
use Rattle.cvd_targets.specs.Positions.{ExpressionIn}
use Rattle.cvd_targets.proofs.Positions.{expression_in}
use Rattle.cvd_steps.specs.Bodies.{AreSums, around_of, load_of, own_load}
use Rattle.cvd_steps.specs.Lines.{test_marks}
use Rattle.cvd_steps.proofs.EndedLines.{refused_value, refused_end, takes_line}
use Rattle.cvd_steps.proofs.LineTests.{test_stands, test_breaks}
use Rattle.cvd_steps.proofs.line.test_line.Goals as goal

abbrev Tested : Type 0
Tested = (test : Typed) × Unit {0}

pub returns-in_err-held : goal.returns-in_err-held
returns-in_err-held c = λ at e.
    let around = around_of c.args.vars.now c.args.process in
    let before = load_of c.args.sums in
    let p = err_from_is_err_and c.from_residual.result c.from_residual.ensures.1 in
    rw (p.1, p.2) (refused_value Typed Tested (marks tokens_of) (λ t. stands before (if_line around at t)) (test_marks around before at)
    (λ t. (t, tt)) (λ q. q.0) (λ q. refl) (λ t. refl) apart_value c.args.cursor.now _ _ c.in_err-held.ensures)

pub returns-in_default : goal.returns-in_default
returns-in_default c = λ at e.
    let around = around_of c.args.vars.now c.args.process in
    let before = load_of c.args.sums in
    let a = c.in_ok-held.ensures in
    let none = subst (ExpressionIn around.design a.0) c.in_default.is (expression_in c.args.vars.now a.0 _ a.1.1) in
    refused_end Typed Tested (marks tokens_of) (λ t. stands before (if_line around at t)) (test_marks around before at)
    (λ t. (t, tt)) (λ q. q.0) (λ q. refl) (λ t. refl) apart_value a.0 _ (test_breaks around before at a.0 none) c.args.cursor.now
    c.read_expression.new.cursor _ _ a.1.0 c.refuse.ensures

pub returns-in_err-sums : goal.returns-in_err-sums
returns-in_err-sums c = λ at e.
    let around = around_of c.args.vars.now c.args.process in
    let before = load_of c.args.sums in
    let a = c.in_ok-held.ensures in
    let h = subst (ExpressionIn around.design a.0) c.in-Some.is (expression_in c.args.vars.now a.0 _ a.1.1) in
    let x = c.in-Some.held in
    let flag = ap (λ t. t && is_within (added before (own_load 1 x.nodes 0))) c.both-holds.ensures
    ∙ test_stands around before at a.0 c.args.allowed x.width x.nodes e h.stands h.width_is h.nodes_are in
    let p = err_from_is_err_and c.from_residual-in_err-sums.result c.from_residual-in_err-sums.ensures.1 in
    rw (p.1, p.2) (refused_end Typed Tested (marks tokens_of) (λ t. stands before (if_line around at t)) (test_marks around before at)
    (λ t. (t, tt)) (λ q. q.0) (λ q. refl) (λ t. refl) apart_value a.0 _ flag c.args.cursor.now c.read_expression.new.cursor _ _ a.1.0 c.in_err-sums.ensures)

pub returns : goal.returns
returns c = λ at e.
    let around = around_of c.args.vars.now c.args.process in
    let before = load_of c.args.sums in
    let a = c.in_ok-held.ensures in
    let h = subst (ExpressionIn around.design a.0) c.in-Some.is (expression_in c.args.vars.now a.0 _ a.1.1) in
    let x = c.in-Some.held in
    let flag = ap (λ t. t && is_within (added before (own_load 1 x.nodes 0))) c.both-holds.ensures
    ∙ test_stands around before at a.0 c.args.allowed x.width x.nodes e h.stands h.width_is h.nodes_are in
    let r = c.in_ok-sums.ensures in (
      (a.0, tt),
      (
        takes_line Typed Tested (marks tokens_of) (λ t. stands before (if_line around at t)) (test_marks around before at)
            (λ t. (t, tt)) (λ q. q.0) (λ q. refl) (λ t. refl) apart_value a.0 _ flag c.args.cursor.now c.read_expression.new.cursor _ a.1.0 r.1.0,
        record {
          test_is = h.tree_is;
          sums_are = subst (λ n. AreSums (added before (own_load 1 n 0)) c.in_ok-sums.sums) h.nodes_are r.1.1;
        },
      ),
    )
