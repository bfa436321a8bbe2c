use Rattle.std.proofs.Common.{ℕ, refl, subst, arith}
use Rattle.std.proofs.lemmas.Result.{err_from_is_err_and}
use Rattle.design_tree.specs.declared.typed.Typed.{Typed}
use Rattle.cvd_text.specs.Expressions.{tokens_of}
use Rattle.cvd_text.specs.Lines.{added, stands}
use Rattle.cvd_cursor.specs.Numerals.{number_tokens}
use Rattle.cvd_cursor.specs.Reads.{marks}
use Rattle.cvd_cursor.proofs.Composed.{takes_both, refused_first, refused_second}
use Rattle.cvd_step_laws.specs.StepMarks.{case_line}
use Rattle.cvd_step_laws.proofs.PartsApart.{apart_number}
use Rattle.cvd_targets.specs.Positions.{ExpressionIn}
use Rattle.cvd_targets.proofs.Positions.{expression_in, some_expression}
use Rattle.cvd_targets.proofs.PieceForms.{value_wide}
use Rattle.cvd_steps.specs.Bodies.{AreSums, around_of, load_of, own_load}
use Rattle.cvd_steps.specs.Lines.{case_marks}
use Rattle.cvd_steps.proofs.EndedLines.{refused_value, refused_end, takes_line}
use Rattle.cvd_steps.proofs.FirstLines.{counted_value, apart_counted_value}
use Rattle.cvd_steps.proofs.LineTests.{case_stands, case_breaks, not_wide}
use Rattle.cvd_steps.proofs.line.case_line.Goals as goal

abbrev Counted : Type 0
Counted = (n : ℕ) × Typed

abbrev Choice : Type 0
Choice = (n : ℕ) × ((on : Typed) × Unit {0})

pub returns-in_err-count-clause-reads : goal.returns-in_err-count-clause-reads
returns-in_err-count-clause-reads c = λ at e.
    let around = around_of c.args.vars.now c.args.process in
    let before = load_of c.args.sums in
    let p = err_from_is_err_and c.from_residual.result c.from_residual.ensures.1 in
    rw (p.1, p.2) (refused_value Counted Choice counted_value (λ q. stands before (case_line around at q.0 q.1)) (case_marks around before at)
    (λ q. (q.0, (q.1, tt))) (λ q. (q.0, q.1.0)) (λ q. refl) (λ t. refl) apart_counted_value c.args.cursor.now _ _
    (refused_first ℕ (λ n. Typed) (marks number_tokens) (λ n. marks tokens_of) apart_number (λ n. some_expression) c.args.cursor.now _ _
    c.in_err-count.ensures))

pub returns-in_err-held-clause-reads : goal.returns-in_err-held-clause-reads
returns-in_err-held-clause-reads c = λ at e.
    let around = around_of c.args.vars.now c.args.process in
    let before = load_of c.args.sums in
    let n = c.in_ok-count.ensures in
    let p = err_from_is_err_and c.from_residual-in_err-held.result c.from_residual-in_err-held.ensures.1 in
    rw (p.1, p.2) (refused_value Counted Choice counted_value (λ q. stands before (case_line around at q.0 q.1)) (case_marks around before at)
    (λ q. (q.0, (q.1, tt))) (λ q. (q.0, q.1.0)) (λ q. refl) (λ t. refl) apart_counted_value c.args.cursor.now _ _
    (refused_second ℕ (λ n. Typed) (marks number_tokens) (λ n. marks tokens_of) n.0 (apart_number n.0) c.args.cursor.now _ _ _ n.1.0 c.in_err-held.ensures))

pub returns-in_default-clause-reads : goal.returns-in_default-clause-reads
returns-in_default-clause-reads c = λ at e.
    let around = around_of c.args.vars.now c.args.process in
    let before = load_of c.args.sums in
    let n = c.in_ok-count.ensures in
    let a = c.in_ok-held.ensures in
    let none = subst (ExpressionIn around.design a.0) c.in_default.is (expression_in c.args.vars.now a.0 _ a.1.1) in
    let both = takes_both ℕ (λ n. Typed) (marks number_tokens) (λ n. marks tokens_of) c.args.cursor.now _ c.read_expression.new.cursor n.0 a.0 n.1.0 a.1.0 in
    refused_end Counted Choice counted_value (λ q. stands before (case_line around at q.0 q.1)) (case_marks around before at)
    (λ q. (q.0, (q.1, tt))) (λ q. (q.0, q.1.0)) (λ q. refl) (λ t. refl) apart_counted_value (n.0, a.0) _ (case_breaks around before at a.0 n.0 none)
    c.args.cursor.now c.read_expression.new.cursor _ _ both c.refuse.ensures

pub returns-then-width-gt128-clause-reads : goal.returns-then-width-gt128-clause-reads
returns-then-width-gt128-clause-reads c = λ at e.
    let around = around_of c.args.vars.now c.args.process in
    let a = c.in_ok-held.ensures in
    let h = subst (ExpressionIn around.design a.0) c.in-Some.is (expression_in c.args.vars.now a.0 _ a.1.1) in
    absurd (not_wide c.in-Some.held.width (omega arith) (value_wide around.design a.0 c.in-Some.held h c.requires.variables))

pub returns-in_err-sums-clause-reads : goal.returns-in_err-sums-clause-reads
returns-in_err-sums-clause-reads c = λ at e.
    let around = around_of c.args.vars.now c.args.process in
    let before = load_of c.args.sums in
    let n = c.in_ok-count.ensures in
    let a = c.in_ok-held.ensures in
    let h = subst (ExpressionIn around.design a.0) c.in-Some.is (expression_in c.args.vars.now a.0 _ a.1.1) in
    let both = takes_both ℕ (λ n. Typed) (marks number_tokens) (λ n. marks tokens_of) c.args.cursor.now _ c.read_expression.new.cursor n.0 a.0 n.1.0 a.1.0 in
    let p = err_from_is_err_and c.from_residual-in_err-sums.result c.from_residual-in_err-sums.ensures.1 in
    rw (p.1, p.2) (refused_end Counted Choice counted_value (λ q. stands before (case_line around at q.0 q.1)) (case_marks around before at)
    (λ q. (q.0, (q.1, tt))) (λ q. (q.0, q.1.0)) (λ q. refl) (λ t. refl) apart_counted_value (n.0, a.0) _
    (case_stands around before at a.0 n.0 c.args.allowed c.in-Some.held.nodes e h.stands h.nodes_are)
    c.args.cursor.now c.read_expression.new.cursor _ _ both c.in_err-sums.ensures)

pub returns-clause-reads : goal.returns-clause-reads
returns-clause-reads c = λ at e.
    let around = around_of c.args.vars.now c.args.process in
    let before = load_of c.args.sums in
    let n = c.in_ok-count.ensures in
    let a = c.in_ok-held.ensures in
    let h = subst (ExpressionIn around.design a.0) c.in-Some.is (expression_in c.args.vars.now a.0 _ a.1.1) in
    let both = takes_both ℕ (λ n. Typed) (marks number_tokens) (λ n. marks tokens_of) c.args.cursor.now _ c.read_expression.new.cursor n.0 a.0 n.1.0 a.1.0 in
    let r = c.in_ok-sums.ensures in (
      (n.0, (a.0, tt)),
      (
        takes_line Counted Choice counted_value (λ q. stands before (case_line around at q.0 q.1)) (case_marks around before at)
            (λ q. (q.0, (q.1, tt))) (λ q. (q.0, q.1.0)) (λ q. refl) (λ t. refl) apart_counted_value (n.0, a.0) _
            (case_stands around before at a.0 n.0 c.args.allowed c.in-Some.held.nodes e h.stands h.nodes_are)
            c.args.cursor.now c.read_expression.new.cursor _ both r.1.0,
        (
          c.bytes_left.result,
          (
            c.bytes_left.ensures.most,
            record {
              on_is = h.tree_is;
              width_is = h.width_is;
              turns_are = c.turns-turns.ensures n.0 n.1.1;
              sums_are = subst (λ k. AreSums (added before (own_load 1 k 0)) c.in_ok-sums.sums) h.nodes_are r.1.1;
            },
          ),
        ),
      ),
    )
