use Rattle.std.proofs.Common.{◌-◌, refl, subst, arith}
use Rattle.std.proofs.lemmas.Result.{err_from_is_err_and}
use Rattle.design_tree.specs.declared.step.StepItem.{StepItem}
use Rattle.cvd_text.specs.Lines.{Load}
use Rattle.cvd_cursor.specs.Reads.{Refused, Takes}
use Rattle.cvd_step_laws.specs.LineMarks.{each_lines, each_load}
use Rattle.cvd_step_laws.specs.StepMarks.{item_lines_at, item_marks}
use Rattle.cvd_step_laws.proofs.PartsApart.{apart_item}
use Rattle.cvd_targets.proofs.Lists.{at_first, goes_on, finished, stopped}
use Rattle.cvd_steps.specs.Bodies.{IsItem, around_of, load_of}
use Rattle.cvd_steps.proofs.Listed.{Kept, at_first as kept_first, one_more}
use Rattle.cvd_steps.proofs.Somes.{some_item, item_long}
use Rattle.cvd_steps.proofs.item.read_items.Goals as goal

pub loop-left-init : goal.loop-left-init
loop-left-init c =
    let lines = item_lines_at (around_of c.args.vars.now c.args.process) c.args.width in
    let before = load_of c.args.sums in
    at_first StepItem Load (each_lines lines) (each_load lines) (Kept lines before c.in_ok-items.items c.args.sums) before c.args.cursor.now c.args.turns
    (kept_first lines before c.in_ok-items.items c.args.sums c.in_ok-items.ensures (record { load_is = refl; within = c.requires.sums }))

pub returns-in_err-next : goal.returns-in_err-next
returns-in_err-next c = λ n bytes are most.
    let l = c.loop-left in
    let around = around_of c.args.vars.now c.args.process in
    let lines = item_lines_at around c.args.width in
    let before = load_of c.args.sums in
    let g = l.invariant in
    let p = err_from_is_err_and c.from_residual-in_err-next.result c.from_residual-in_err-next.ensures.1 in
    rw (p.1, p.2) (stopped StepItem Load (each_lines lines) (each_load lines) (λ s. apart_item around c.args.width s) some_item
    (Kept lines before l.items l.sums) before c.args.cursor.now l.cursor _ _ c.args.turns l.left n bytes g (omega arith) are
    (subst (λ b. Refused (item_marks around c.args.width b) l.cursor c.in_err-next.field-0.0 c.read_item.new.cursor) g.held.sums_are.load_is
    c.in_err-next.ensures))

pub loop-left-preserved : goal.loop-left-preserved
loop-left-preserved c =
    let l = c.loop-left in
    let around = around_of c.args.vars.now c.args.process in
    let lines = item_lines_at around c.args.width in
    let before = load_of c.args.sums in
    let g = l.invariant in
    let r = subst (λ b. (x : StepItem) × (Takes (item_marks around c.args.width b) l.cursor c.read_item.new.cursor x
    × IsItem around c.args.width b x c.in_ok-next.next)) g.held.sums_are.load_is c.in_ok-next.ensures in
    goes_on StepItem Load (each_lines lines) (each_load lines) (Kept lines before l.items l.sums)
    (Kept lines before c.push.new.self c.in_ok-next.next.sums) before c.args.cursor.now l.cursor c.read_item.new.cursor c.args.turns l.left (l.left - 1)
    g r.0 r.1.0 (omega arith)
    (one_more lines before l.items c.push.new.self l.sums c.in_ok-next.next.sums g.items r.0 c.in_ok-next.next.item g.held
    c.in_ok-push.ensures.ok r.1.1.item_is r.1.1.sums_are)

pub returns : goal.returns
returns c = λ n bytes are most.
    let l = c.loop-left in
    let around = around_of c.args.vars.now c.args.process in
    let lines = item_lines_at around c.args.width in
    let before = load_of c.args.sums in
    let f = finished StepItem Load (each_lines lines) (each_load lines) (item_long around c.args.width) (Kept lines before l.items l.sums) before
    c.args.cursor.now l.cursor c.args.turns l.left n bytes l.invariant (omega arith) are most in
    (f.0, (f.1.0, record { items_are = f.1.1.are; sums_are = f.1.1.sums_are }))
