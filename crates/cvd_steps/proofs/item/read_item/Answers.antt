use Rattle.std.proofs.Common.{ℕ, ◌^◌, codes, refl, sym, ◌∙◌, ap, subst}
use Rattle.std.specs.Prelude.{◌&&◌, ◌==◌}
use Rattle.std.proofs.lemmas.Result.{err_from_is_err_and}
use Rattle.design_tree.specs.declared.step.StepItem.{StepItem}
use Rattle.design_tree.specs.declared.typed.Typed.{Typed}
use Rattle.cvd_text.specs.Expressions.{tokens_of}
use Rattle.cvd_text.specs.Lines.{added, is_within, stands}
use Rattle.cvd_text.specs.Steps.{item_line}
use Rattle.cvd_cursor.specs.Numerals.{hex_tokens}
use Rattle.cvd_cursor.specs.Reads.{marks}
use Rattle.cvd_cursor.proofs.Composed.{takes_both, refused_first, refused_second}
use Rattle.cvd_step_laws.specs.StepMarks.{this_word, item_marks, item_of}
use Rattle.cvd_step_laws.proofs.PartsApart.{apart_word, apart_hex}
use Rattle.cvd_targets.specs.Positions.{ExpressionIn}
use Rattle.cvd_targets.proofs.Positions.{expression_in, some_expression}
use Rattle.cvd_steps.specs.Bodies.{AreSums, around_of, load_of, own_load}
use Rattle.cvd_steps.proofs.EndedLines.{refused_value, refused_end, takes_line}
use Rattle.cvd_steps.proofs.FirstLines.{Item, Masked, item_value, masked_marks, apart_item_value}
use Rattle.cvd_steps.proofs.ItemTests.{item_stands, mask_breaks, value_breaks, masked}
use Rattle.cvd_steps.proofs.item.read_item.Goals as goal

pub returns-in_err-expect : goal.returns-in_err-expect
returns-in_err-expect c =
    let around = around_of c.args.vars.now c.args.process in
    let before = load_of c.args.sums in
    let w = c.args.width in
    let p = err_from_is_err_and c.from_residual.result c.from_residual.ensures.1 in
    rw (p.1, p.2) (refused_value Item StepItem item_value (λ q. stands before (item_line around w (item_of q.1.0 q.1.1))) (item_marks around w before)
    (λ q. item_of q.1.0 q.1.1) (λ i. (tt, (i.mask, i.value))) (λ i. refl) (λ q. refl) apart_item_value c.args.cursor.now _ _
    (refused_first (Unit {0}) (λ u. Masked) (marks (this_word (codes "item"))) (λ u. masked_marks) (apart_word (codes "item")) (λ u. (0, some_expression))
    c.args.cursor.now _ _ c.in_err-expect.ensures))

pub returns-in_err-mask : goal.returns-in_err-mask
returns-in_err-mask c =
    let around = around_of c.args.vars.now c.args.process in
    let before = load_of c.args.sums in
    let w = c.args.width in
    let a = c.in_ok-expect.ensures in
    let p = err_from_is_err_and c.from_residual-in_err-mask.result c.from_residual-in_err-mask.ensures.1 in
    rw (p.1, p.2) (refused_value Item StepItem item_value (λ q. stands before (item_line around w (item_of q.1.0 q.1.1))) (item_marks around w before)
    (λ q. item_of q.1.0 q.1.1) (λ i. (tt, (i.mask, i.value))) (λ i. refl) (λ q. refl) apart_item_value c.args.cursor.now _ _
    (refused_second (Unit {0}) (λ u. Masked) (marks (this_word (codes "item"))) (λ u. masked_marks) a.0 (apart_word (codes "item") a.0) c.args.cursor.now
    c.expect.new.cursor _ _ a.1.0
    (refused_first ℕ (λ n. Typed) (marks hex_tokens) (λ n. marks tokens_of) apart_hex (λ n. some_expression) c.expect.new.cursor _ _ c.in_err-mask.ensures)))

pub returns-in_err-value : goal.returns-in_err-value
returns-in_err-value c =
    let around = around_of c.args.vars.now c.args.process in
    let before = load_of c.args.sums in
    let w = c.args.width in
    let a = c.in_ok-expect.ensures in
    let m = c.in_ok-mask.ensures in
    let p = err_from_is_err_and c.from_residual-in_err-value.result c.from_residual-in_err-value.ensures.1 in
    rw (p.1, p.2) (refused_value Item StepItem item_value (λ q. stands before (item_line around w (item_of q.1.0 q.1.1))) (item_marks around w before)
    (λ q. item_of q.1.0 q.1.1) (λ i. (tt, (i.mask, i.value))) (λ i. refl) (λ q. refl) apart_item_value c.args.cursor.now _ _
    (refused_second (Unit {0}) (λ u. Masked) (marks (this_word (codes "item"))) (λ u. masked_marks) a.0 (apart_word (codes "item") a.0) c.args.cursor.now
    c.expect.new.cursor _ _ a.1.0
    (refused_second ℕ (λ n. Typed) (marks hex_tokens) (λ n. marks tokens_of) m.0 (apart_hex m.0) c.expect.new.cursor _ _ _ m.1.0 c.in_err-value.ensures)))

pub returns-in_default : goal.returns-in_default
returns-in_default c =
    let around = around_of c.args.vars.now c.args.process in
    let before = load_of c.args.sums in
    let w = c.args.width in
    let a = c.in_ok-expect.ensures in
    let m = c.in_ok-mask.ensures in
    let v = c.in_ok-value.ensures in
    let inner = takes_both ℕ (λ n. Typed) (marks hex_tokens) (λ n. marks tokens_of) c.expect.new.cursor _ c.read_expression.new.cursor m.0 v.0 m.1.0 v.1.0 in
    let all = takes_both (Unit {0}) (λ u. Masked) (marks (this_word (codes "item"))) (λ u. masked_marks) c.args.cursor.now c.expect.new.cursor
    c.read_expression.new.cursor a.0 (m.0, v.0) a.1.0 inner in
    refused_end Item StepItem item_value (λ q. stands before (item_line around w (item_of q.1.0 q.1.1))) (item_marks around w before)
    (λ q. item_of q.1.0 q.1.1) (λ i. (tt, (i.mask, i.value))) (λ i. refl) (λ q. refl) apart_item_value (a.0, (m.0, v.0)) _
    (mask_breaks around before w m.0 v.0 c.requires.narrow (sym c.in_default.is ∙ m.1.1)) c.args.cursor.now c.read_expression.new.cursor _ _ all
    c.refuse.ensures

pub returns-in_default-value : goal.returns-in_default-value
returns-in_default-value c =
    let around = around_of c.args.vars.now c.args.process in
    let before = load_of c.args.sums in
    let w = c.args.width in
    let a = c.in_ok-expect.ensures in
    let m = c.in_ok-mask.ensures in
    let v = c.in_ok-value.ensures in
    let none = subst (ExpressionIn around.design v.0) c.in_default-value.is (expression_in c.args.vars.now v.0 _ v.1.1) in
    let inner = takes_both ℕ (λ n. Typed) (marks hex_tokens) (λ n. marks tokens_of) c.expect.new.cursor _ c.read_expression.new.cursor m.0 v.0 m.1.0 v.1.0 in
    let all = takes_both (Unit {0}) (λ u. Masked) (marks (this_word (codes "item"))) (λ u. masked_marks) c.args.cursor.now c.expect.new.cursor
    c.read_expression.new.cursor a.0 (m.0, v.0) a.1.0 inner in
    refused_end Item StepItem item_value (λ q. stands before (item_line around w (item_of q.1.0 q.1.1))) (item_marks around w before)
    (λ q. item_of q.1.0 q.1.1) (λ i. (tt, (i.mask, i.value))) (λ i. refl) (λ q. refl) apart_item_value (a.0, (m.0, v.0)) _
    (value_breaks around before w m.0 v.0 none) c.args.cursor.now c.read_expression.new.cursor _ _ all c.refuse-in_default-value.ensures

pub returns-in_err-sums : goal.returns-in_err-sums
returns-in_err-sums c =
    let around = around_of c.args.vars.now c.args.process in
    let before = load_of c.args.sums in
    let w = c.args.width in
    let a = c.in_ok-expect.ensures in
    let m = c.in_ok-mask.ensures in
    let v = c.in_ok-value.ensures in
    let x = c.in-Some-value.value in
    let h = subst (ExpressionIn around.design v.0) c.in-Some-value.is (expression_in c.args.vars.now v.0 _ v.1.1) in
    let inner = takes_both ℕ (λ n. Typed) (marks hex_tokens) (λ n. marks tokens_of) c.expect.new.cursor _ c.read_expression.new.cursor m.0 v.0 m.1.0 v.1.0 in
    let all = takes_both (Unit {0}) (λ u. Masked) (marks (this_word (codes "item"))) (λ u. masked_marks) c.args.cursor.now c.expect.new.cursor
    c.read_expression.new.cursor a.0 (m.0, v.0) a.1.0 inner in
    let flag = ap (λ t. t && is_within (added before (own_load 0 x.nodes 0))) (c.both-holds.ensures ∙ ap (λ t. (x.width == w) && t) c.fits.ensures)
    ∙ item_stands around before w m.0 v.0 x.width c.in-Some.mask x.nodes h.stands h.width_is (sym c.in-Some.is ∙ m.1.1) h.nodes_are in
    let p = err_from_is_err_and c.from_residual-in_err-sums.result c.from_residual-in_err-sums.ensures.1 in
    rw (p.1, p.2) (refused_end Item StepItem item_value (λ q. stands before (item_line around w (item_of q.1.0 q.1.1))) (item_marks around w before)
    (λ q. item_of q.1.0 q.1.1) (λ i. (tt, (i.mask, i.value))) (λ i. refl) (λ q. refl) apart_item_value (a.0, (m.0, v.0)) _ flag
    c.args.cursor.now c.read_expression.new.cursor _ _ all c.in_err-sums.ensures)

pub returns : goal.returns
returns c =
    let around = around_of c.args.vars.now c.args.process in
    let before = load_of c.args.sums in
    let w = c.args.width in
    let a = c.in_ok-expect.ensures in
    let m = c.in_ok-mask.ensures in
    let v = c.in_ok-value.ensures in
    let x = c.in-Some-value.value in
    let h = subst (ExpressionIn around.design v.0) c.in-Some-value.is (expression_in c.args.vars.now v.0 _ v.1.1) in
    let inner = takes_both ℕ (λ n. Typed) (marks hex_tokens) (λ n. marks tokens_of) c.expect.new.cursor _ c.read_expression.new.cursor m.0 v.0 m.1.0 v.1.0 in
    let all = takes_both (Unit {0}) (λ u. Masked) (marks (this_word (codes "item"))) (λ u. masked_marks) c.args.cursor.now c.expect.new.cursor
    c.read_expression.new.cursor a.0 (m.0, v.0) a.1.0 inner in
    let flag = ap (λ t. t && is_within (added before (own_load 0 x.nodes 0))) (c.both-holds.ensures ∙ ap (λ t. (x.width == w) && t) c.fits.ensures)
    ∙ item_stands around before w m.0 v.0 x.width c.in-Some.mask x.nodes h.stands h.width_is (sym c.in-Some.is ∙ m.1.1) h.nodes_are in
    let r = c.in_ok-sums.ensures in (
      item_of m.0 v.0,
      (
        takes_line Item StepItem item_value (λ q. stands before (item_line around w (item_of q.1.0 q.1.1))) (item_marks around w before)
            (λ q. item_of q.1.0 q.1.1) (λ i. (tt, (i.mask, i.value))) (λ i. refl) (λ q. refl) apart_item_value (a.0, (m.0, v.0)) _ flag
            c.args.cursor.now c.read_expression.new.cursor _ all r.1.0,
        record {
          item_is = ap (λ k. item_of k c.into_inner.result) (masked (2 ^ 128) m.0 c.in-Some.mask (sym c.in-Some.is ∙ m.1.1))
              ∙ ap (item_of m.0) (c.into_inner.ensures ∙ h.tree_is);
          sums_are = subst (λ n. AreSums (added before (own_load 0 n 0)) c.in_ok-sums.sums) h.nodes_are r.1.1;
        },
      ),
    )
