use Rattle.std.proofs.Common.{◌≡◌, ◌-◌, ◌++◌, ◌∷◌, [], refl, sym, ◌∙◌, ap, subst, arith}
use Rattle.std.proofs.lemmas.Result.{err_from_is_err_and}
use Rattle.design_tree.specs.declared.step.Step.{Step}
use Rattle.design_tree.specs.declared.step.StepArm.{StepArm}
use Rattle.cvd_text.specs.Lines.{Load}
use Rattle.cvd_text.specs.Steps.{spot}
use Rattle.cvd_cursor.specs.Reads.{Reads, Refused, Takes, marks}
use Rattle.cvd_cursor.proofs.Composed.{takes_both, refused_first, refused_second, takes_as, refused_by}
use Rattle.cvd_step_laws.specs.LineMarks.{each_lines, each_load}
use Rattle.cvd_step_laws.specs.StepMarks.{StepHead, StepParts, StepWhole, step_tokens, step_parts, step_whole, step_marks, arm_lines_at, arm_marks, within}
use Rattle.cvd_step_laws.proofs.BlockReads.{turn, there, takes_no_step}
use Rattle.cvd_step_laws.proofs.PartsApart.{apart_head}
use Rattle.cvd_step_laws.proofs.StepParts.{made_step, parts_of_step, step_alike, step_alike_to, some_parts}
use Rattle.cvd_step_laws.proofs.StepsApart.{apart_arm}
use Rattle.cvd_targets.proofs.Lists as lists
use Rattle.cvd_steps.specs.Bodies.{AreSums, IsArm, IsStep, around_of, load_of}
use Rattle.cvd_steps.specs.Words.{head_of}
use Rattle.cvd_steps.proofs.Blocks.{block_takes, block_no_begin, block_no_steps, tested_no_test, tested_no_left, tested_no_right, tested_takes}
use Rattle.cvd_steps.proofs.Choices.{chosen_no_line, chosen_no_arms, chosen_no_rest, chosen_takes, arm_no_line, arm_no_items, arm_no_body, arm_takes}
use Rattle.cvd_steps.proofs.Held.{still_within, if_held, case_held, arm_held}
use Rattle.cvd_steps.proofs.Listed as listed
use Rattle.cvd_steps.proofs.Somes.{some_arm, arm_long}
use Rattle.cvd_steps.proofs.Turns.{refused_at, takes_at, sums_at, end_refused, end_takes, block_sums}
use Rattle.cvd_steps.proofs.body.+step.Goals as goal

-- ---- block

pub block-returns-in_err-begin : goal.block-returns-in_err-begin
block-returns-in_err-begin t c =
    let around = around_of c.args.vars.now c.args.process in
    let p = err_from_is_err_and c.from_residual.result c.from_residual.ensures.1 in
    rw (p.1, p.2) (block_no_begin around (load_of c.args.sums) c.args.deep c.args.cursor.now _ _ c.in_err-begin.ensures.reads)

pub block-returns-in_err-body : goal.block-returns-in_err-body
block-returns-in_err-body t c =
    let around = around_of c.args.vars.now c.args.process in
    let a = c.in_ok-begin.ensures.reads in
    let p = err_from_is_err_and c.from_residual-in_err-body.result c.from_residual-in_err-body.ensures.1 in
    rw (p.1, p.2) (block_no_steps around (load_of c.args.sums) c.args.deep c.args.cursor.now c.begin.new.cursor _ _ a.0 a.1.0 c.in_err-body.ensures)

pub block-returns : goal.block-returns
block-returns t c =
    let around = around_of c.args.vars.now c.args.process in
    let a = c.in_ok-begin.ensures.reads in
    let b = c.in_ok-body.ensures in
    (b.0, (block_takes around (load_of c.args.sums) c.args.deep c.args.cursor.now c.begin.new.cursor _ a.0 b.0 a.1.0 b.1.0, b.1.1))

-- ---- steps, at first

pub all_steps-turns-init : goal.all_steps-turns-init
all_steps-turns-init t c =
    let around = around_of c.args.vars.now c.args.process in
    let w = within (load_of c.args.sums) 0 in
    record {
      takes = subst (λ l. Takes (turn around c.args.deep w) c.args.cursor.now c.args.cursor.now l) (sym c.in_ok-steps.ensures)
          (takes_no_step around c.args.deep w c.args.cursor.now);
      sums_are = subst (λ l. AreSums (there around c.args.deep w l).load c.args.sums) (sym c.in_ok-steps.ensures)
          (record { load_is = refl; within = c.requires.sums });
    }

-- ---- step

pub step-returns-in_err-word : goal.step-returns-in_err-word
step-returns-in_err-word t c =
    let around = around_of c.args.vars.now c.args.process in
    let before = load_of c.args.sums in
    let at = spot c.args.place.deep c.args.place.before in
    let p = err_from_is_err_and c.from_residual.result c.from_residual.ensures.1 in
    rw (p.1, p.2) (refused_by StepWhole Step made_step parts_of_step (step_whole around before at) (step_marks around before at) (step_alike around before at)
    (step_alike_to around before at) c.args.cursor.now _ _
    (refused_first StepHead StepParts (marks step_tokens) (step_parts around before at) apart_head some_parts c.args.cursor.now _ _ c.in_err-word.ensures))

pub step-returns-in_err-held : goal.step-returns-in_err-held
step-returns-in_err-held t c =
    let around = around_of c.args.vars.now c.args.process in
    let before = load_of c.args.sums in
    let at = spot c.args.place.deep c.args.place.before in
    let a = c.in_ok-word.ensures in
    let p = err_from_is_err_and c.from_residual-in_err-held.result c.from_residual-in_err-held.ensures.1 in
    rw (p.1, p.2) (refused_by StepWhole Step made_step parts_of_step (step_whole around before at) (step_marks around before at) (step_alike around before at)
    (step_alike_to around before at) c.args.cursor.now _ _
    (refused_second StepHead StepParts (marks step_tokens) (step_parts around before at) a.0 (apart_head a.0) c.args.cursor.now c.read_word.new.cursor _ _ a.1.0
    (subst (λ h. Refused (step_parts around before at h) c.read_word.new.cursor c.in_err-held.field-0.0 c.parts.new.cursor) a.1.1 c.in_err-held.ensures)))

pub step-returns : goal.step-returns
step-returns t c =
    let around = around_of c.args.vars.now c.args.process in
    let before = load_of c.args.sums in
    let at = spot c.args.place.deep c.args.place.before in
    let a = c.in_ok-word.ensures in
    let mid = c.read_word.new.cursor in
    let new = c.parts.new.cursor in
    let b = subst (λ h. (x : StepParts h) × (Takes (step_parts around before at h) mid new x × IsStep around before at (made_step (h, x)) c.in_ok-held.held))
    a.1.1 c.in_ok-held.ensures in
    let whole = takes_both StepHead StepParts (marks step_tokens) (step_parts around before at) c.args.cursor.now mid new a.0 b.0 a.1.0 b.1.0 in (
      made_step (a.0, b.0),
      (
        takes_as StepWhole Step made_step parts_of_step (step_whole around before at) (step_marks around before at) (step_alike around before at)
            (step_alike_to around before at) c.args.cursor.now new (a.0, b.0) whole,
        b.1.1,
      ),
    )

-- ---- tested

pub tested-returns-in_err-first : goal.tested-returns-in_err-first
tested-returns-in_err-first t c =
    let at = spot c.args.place.deep c.args.place.before in
    let p = err_from_is_err_and c.from_residual.result c.from_residual.ensures.1 in
    rw (p.1, p.2) (tested_no_test (around_of c.args.vars.now c.args.process) (load_of c.args.sums) at c.args.cursor.now _ _
    (c.in_err-first.ensures at c.may_test-allowed.ensures))

pub tested-returns-in_err-yes : goal.tested-returns-in_err-yes
tested-returns-in_err-yes t c =
    let at = spot c.args.place.deep c.args.place.before in
    let a = c.in_ok-first.ensures at c.may_test-allowed.ensures in
    let x = c.in_ok-first.first in
    let p = err_from_is_err_and c.from_residual-in_err-yes.result c.from_residual-in_err-yes.ensures.1 in
    rw (p.1, p.2) (tested_no_left (around_of c.args.vars.now c.args.process) (load_of c.args.sums) at a.0 (load_of x.sums) a.1.1.sums_are.load_is
    c.args.cursor.now c.test_line.new.cursor a.1.0 _ _ c.in_err-yes.ensures)

pub tested-returns-in_err-no : goal.tested-returns-in_err-no
tested-returns-in_err-no t c =
    let at = spot c.args.place.deep c.args.place.before in
    let a = c.in_ok-first.ensures at c.may_test-allowed.ensures in
    let b = c.in_ok-yes.ensures in
    let x = c.in_ok-first.first in
    let y = c.in_ok-yes.yes in
    let p = err_from_is_err_and c.from_residual-in_err-no.result c.from_residual-in_err-no.ensures.1 in
    rw (p.1, p.2) (tested_no_right (around_of c.args.vars.now c.args.process) (load_of c.args.sums) at a.0 (load_of x.sums) a.1.1.sums_are.load_is
    c.args.cursor.now c.test_line.new.cursor a.1.0 b.0 (load_of y.sums) b.1.1.sums_are.load_is c.block.new.cursor b.1.0 _ _ c.in_err-no.ensures)

pub tested-returns : goal.tested-returns
tested-returns t c =
    let around = around_of c.args.vars.now c.args.process in
    let before = load_of c.args.sums in
    let at = spot c.args.place.deep c.args.place.before in
    let a = c.in_ok-first.ensures at c.may_test-allowed.ensures in
    let b = c.in_ok-yes.ensures in
    let e = c.in_ok-no.ensures in
    let x = c.in_ok-first.first in
    let y = c.in_ok-yes.yes in (
      (a.0.0, (a.0.1, (b.0, e.0))),
      (
        tested_takes around before at a.0 (load_of x.sums) a.1.1.sums_are.load_is c.args.cursor.now c.test_line.new.cursor a.1.0 b.0 (load_of y.sums)
            b.1.1.sums_are.load_is c.block.new.cursor b.1.0 _ e.0 e.1.0,
        if_held around before at a.0.0 b.0 e.0 (record { test = c.into_inner.result; sums = x.sums }) y c.in_ok-no.no
            (record { test_is = c.into_inner.ensures ∙ a.1.1.test_is; sums_are = a.1.1.sums_are }) b.1.1 e.1.1,
      ),
    )

-- ---- chosen

pub chosen-returns-in_err-first : goal.chosen-returns-in_err-first
chosen-returns-in_err-first t c =
    let at = spot c.args.place.deep c.args.place.before in
    let p = err_from_is_err_and c.from_residual.result c.from_residual.ensures.1 in
    rw (p.1, p.2) (chosen_no_line (around_of c.args.vars.now c.args.process) (load_of c.args.sums) at c.args.cursor.now _ _
    (c.in_err-first.ensures.reads at c.may_go-allowed.ensures))

pub chosen-returns-in_err-arms : goal.chosen-returns-in_err-arms
chosen-returns-in_err-arms t c =
    let at = spot c.args.place.deep c.args.place.before in
    let a = c.in_ok-first.ensures.reads at c.may_go-allowed.ensures in
    let held = a.1.1.1.1 in
    let x = c.in_ok-first.first in
    let p = err_from_is_err_and c.from_residual-in_err-arms.result c.from_residual-in_err-arms.ensures.1 in
    rw (p.1, p.2) (chosen_no_arms (around_of c.args.vars.now c.args.process) (load_of c.args.sums) at a.0 (load_of x.sums) held.sums_are.load_is x.width
    held.width_is c.args.cursor.now c.case_line.new.cursor a.1.0 _ _
    (c.in_err-arms.ensures a.0.0 a.1.1.0 held.turns_are a.1.1.1.0))

pub chosen-returns-in_err-rest : goal.chosen-returns-in_err-rest
chosen-returns-in_err-rest t c =
    let at = spot c.args.place.deep c.args.place.before in
    let a = c.in_ok-first.ensures.reads at c.may_go-allowed.ensures in
    let held = a.1.1.1.1 in
    let x = c.in_ok-first.first in
    let b = c.in_ok-arms.ensures a.0.0 a.1.1.0 held.turns_are a.1.1.1.0 in
    let y = c.in_ok-arms.arms in
    let p = err_from_is_err_and c.from_residual-in_err-rest.result c.from_residual-in_err-rest.ensures.1 in
    rw (p.1, p.2) (chosen_no_rest (around_of c.args.vars.now c.args.process) (load_of c.args.sums) at a.0 (load_of x.sums) held.sums_are.load_is x.width
    held.width_is c.args.cursor.now c.case_line.new.cursor a.1.0 b.0 (load_of y.sums) b.1.1.sums_are.load_is c.all_arms.new.cursor b.1.0 _ _
    c.in_err-rest.ensures)

pub chosen-returns : goal.chosen-returns
chosen-returns t c =
    let around = around_of c.args.vars.now c.args.process in
    let before = load_of c.args.sums in
    let at = spot c.args.place.deep c.args.place.before in
    let a = c.in_ok-first.ensures.reads at c.may_go-allowed.ensures in
    let held = a.1.1.1.1 in
    let x = c.in_ok-first.first in
    let b = c.in_ok-arms.ensures a.0.0 a.1.1.0 held.turns_are a.1.1.1.0 in
    let y = c.in_ok-arms.arms in
    let e = c.in_ok-rest.ensures in (
      (a.0.0, (a.0.1.0, (a.0.1.1, (b.0, e.0)))),
      (
        chosen_takes around before at a.0 (load_of x.sums) held.sums_are.load_is x.width held.width_is c.args.cursor.now c.case_line.new.cursor a.1.0 b.0
            (load_of y.sums) b.1.1.sums_are.load_is c.all_arms.new.cursor b.1.0 _ e.0 e.1.0,
        case_held around before at a.0.0 a.1.1.0 a.0.1.0 b.0.items e.0
            (record { on = c.into_inner.result; width = x.width; turns = x.turns; sums = x.sums }) y c.in_ok-rest.rest
            (record { on_is = c.into_inner.ensures ∙ held.on_is; width_is = held.width_is; turns_are = held.turns_are; sums_are = held.sums_are }) b.1.1 e.1.1,
      ),
    )

-- ---- arm

pub arm-returns-in_err-turns : goal.arm-returns-in_err-turns
arm-returns-in_err-turns t c =
    let p = err_from_is_err_and c.from_residual.result c.from_residual.ensures.1 in
    rw (p.1, p.2) (arm_no_line (around_of c.args.vars.now c.args.process) c.args.each.width c.args.each.deep (load_of c.args.sums) c.args.cursor.now _ _
    c.in_err-turns.ensures)

pub arm-returns-in_err-held : goal.arm-returns-in_err-held
arm-returns-in_err-held t c =
    let a = c.in_ok-turns.ensures in
    let p = err_from_is_err_and c.from_residual-in_err-held.result c.from_residual-in_err-held.ensures.1 in
    rw (p.1, p.2) (arm_no_items (around_of c.args.vars.now c.args.process) c.args.each.width c.args.each.deep (load_of c.args.sums) a.0 c.args.cursor.now
    c.arm_line.new.cursor a.1.0 _ _ (c.in_err-held.ensures a.0.1.0 a.1.1.0 a.1.1.1.1 a.1.1.1.0))

pub arm-returns-in_err-body : goal.arm-returns-in_err-body
arm-returns-in_err-body t c =
    let a = c.in_ok-turns.ensures in
    let b = c.in_ok-held.ensures a.0.1.0 a.1.1.0 a.1.1.1.1 a.1.1.1.0 in
    let p = err_from_is_err_and c.from_residual-in_err-body.result c.from_residual-in_err-body.ensures.1 in
    rw (p.1, p.2) (arm_no_body (around_of c.args.vars.now c.args.process) c.args.each.width c.args.each.deep (load_of c.args.sums) a.0 c.args.cursor.now
    c.arm_line.new.cursor a.1.0 b.0 (load_of c.in_ok-held.held.sums) b.1.1.sums_are.load_is c.read_items.new.cursor b.1.0 _ _ c.in_err-body.ensures)

pub arm-returns : goal.arm-returns
arm-returns t c =
    let around = around_of c.args.vars.now c.args.process in
    let before = load_of c.args.sums in
    let w = c.args.each.width in
    let deep = c.args.each.deep in
    let a = c.in_ok-turns.ensures in
    let b = c.in_ok-held.ensures a.0.1.0 a.1.1.0 a.1.1.1.1 a.1.1.1.0 in
    let e = c.in_ok-body.ensures in
    let y = c.in_ok-held.held in (
      _,
      (
        arm_takes around w deep before a.0 c.args.cursor.now c.arm_line.new.cursor a.1.0 b.0 (load_of y.sums) b.1.1.sums_are.load_is c.read_items.new.cursor
            b.1.0 _ e.0 e.1.0,
        arm_held around w deep before (a.0.0, (a.0.1.0, (a.0.1.1, (b.0, e.0)))) y c.in_ok-body.body b.1.1 e.1.1,
      ),
    )

-- ---- steps

pub all_steps-step-requires : goal.all_steps-step-requires
all_steps-step-requires t c =
    let l = c.turns in
    (omega arith, (c.requires.few, (c.requires.variables, (still_within _ l.sums l.invariant.sums_are, c.requires.deep))))

pub all_steps-returns-in_err-next : goal.all_steps-returns-in_err-next
all_steps-returns-in_err-next t c =
    let l = c.turns in
    let around = around_of c.args.vars.now c.args.process in
    let p = err_from_is_err_and c.from_residual-in_err-next.result c.from_residual-in_err-next.ensures.1 in
    rw (p.1, p.2) (refused_at around c.args.deep (load_of c.args.sums) l.steps (load_of l.sums) c.len.result l.invariant.sums_are.load_is c.len.ensures
    c.args.cursor.now l.cursor _ _ l.invariant.takes (sym c.at_end.ensures ∙ c.turns-test.true) c.in_err-next.ensures)

pub all_steps-turns-preserved : goal.all_steps-turns-preserved
all_steps-turns-preserved t c =
    let l = c.turns in
    let around = around_of c.args.vars.now c.args.process in
    let start = load_of c.args.sums in
    let deep = c.args.deep in
    let a = c.in_ok-next.ensures in
    let steps = l.steps ++ a.0 ∷ [] in
    let is : c.push.new.self ≡ steps = c.in_ok-push.ensures.ok ∙ ap (λ z. l.steps ++ z ∷ []) a.1.1.step_is in
    record {
      takes = subst (λ s. Takes (turn around deep (within start 0)) c.args.cursor.now c.step.new.cursor s) (sym is)
          (takes_at around deep start l.steps (load_of l.sums) c.len.result l.invariant.sums_are.load_is c.len.ensures a.0 c.args.cursor.now l.cursor
          c.step.new.cursor l.invariant.takes a.1.0);
      sums_are = subst (λ s. AreSums (there around deep (within start 0) s).load c.in_ok-next.next.sums) (sym is)
          (sums_at around deep start l.steps (load_of l.sums) c.len.result l.invariant.sums_are.load_is c.len.ensures a.0 c.in_ok-next.next.sums
          a.1.1.sums_are);
    }

pub all_steps-returns-in_err-end : goal.all_steps-returns-in_err-end
all_steps-returns-in_err-end t c =
    let l = c.turns in
    let around = around_of c.args.vars.now c.args.process in
    let p = err_from_is_err_and c.from_residual-in_err-end.result c.from_residual-in_err-end.ensures.1 in
    rw (p.1, p.2) (end_refused around c.args.deep (load_of c.args.sums) l.steps (load_of l.sums) c.len-2.result l.invariant.sums_are.load_is c.len-2.ensures
    c.args.cursor.now l.cursor _ _ l.invariant.takes (sym c.at_end.ensures ∙ c.turns-test.false) (c.in_err-end.ensures around refl))

pub all_steps-returns : goal.all_steps-returns
all_steps-returns t c =
    let l = c.turns in
    let around = around_of c.args.vars.now c.args.process in
    let start = load_of c.args.sums in
    let b = c.in_ok-end.ensures around refl in (
      l.steps,
      (
        end_takes around c.args.deep start l.steps (load_of l.sums) c.len-2.result l.invariant.sums_are.load_is c.len-2.ensures c.args.cursor.now l.cursor _
            l.invariant.takes b.1.0,
        record { steps_are = refl; sums_are = block_sums around c.args.deep start l.steps l.sums l.invariant.sums_are },
      ),
    )

-- ---- arms

pub all_arms-loop-left-init : goal.all_arms-loop-left-init
all_arms-loop-left-init t c =
    let lines = arm_lines_at (around_of c.args.vars.now c.args.process) c.args.each.width c.args.each.deep in
    let before = load_of c.args.sums in
    lists.at_first StepArm Load (each_lines lines) (each_load lines) (listed.Kept lines before c.in_ok-arms.arms c.args.sums) before c.args.cursor.now
    c.args.each.turns (listed.at_first lines before c.in_ok-arms.arms c.args.sums c.in_ok-arms.ensures (record { load_is = refl; within = c.requires.sums }))

pub all_arms-returns-in_err-next : goal.all_arms-returns-in_err-next
all_arms-returns-in_err-next t c = λ n bytes are most.
    let l = c.loop-left in
    let around = around_of c.args.vars.now c.args.process in
    let w = c.args.each.width in
    let deep = c.args.each.deep in
    let lines = arm_lines_at around w deep in
    let before = load_of c.args.sums in
    let g = l.invariant in
    let p = err_from_is_err_and c.from_residual-in_err-next.result c.from_residual-in_err-next.ensures.1 in
    rw (p.1, p.2) (lists.stopped StepArm Load (each_lines lines) (each_load lines) (λ s. apart_arm around w deep s) some_arm
    (listed.Kept lines before l.arms l.sums) before c.args.cursor.now l.cursor _ _ c.args.each.turns l.left n bytes g (omega arith) are
    (subst (λ b. Refused (arm_marks around w deep b) l.cursor c.in_err-next.field-0.0 c.arm.new.cursor) g.held.sums_are.load_is c.in_err-next.ensures))

pub all_arms-loop-left-preserved : goal.all_arms-loop-left-preserved
all_arms-loop-left-preserved t c =
    let l = c.loop-left in
    let around = around_of c.args.vars.now c.args.process in
    let w = c.args.each.width in
    let deep = c.args.each.deep in
    let lines = arm_lines_at around w deep in
    let before = load_of c.args.sums in
    let g = l.invariant in
    let r = subst (λ b. (x : StepArm) × (Takes (arm_marks around w deep b) l.cursor c.arm.new.cursor x
    × IsArm around w deep b x c.in_ok-next.next)) g.held.sums_are.load_is c.in_ok-next.ensures in
    lists.goes_on StepArm Load (each_lines lines) (each_load lines) (listed.Kept lines before l.arms l.sums)
    (listed.Kept lines before c.push.new.self c.in_ok-next.next.sums) before c.args.cursor.now l.cursor c.arm.new.cursor c.args.each.turns l.left (l.left - 1)
    g r.0 r.1.0 (omega arith)
    (listed.one_more lines before l.arms c.push.new.self l.sums c.in_ok-next.next.sums g.items r.0 c.in_ok-next.next.arm g.held
    c.in_ok-push.ensures.ok r.1.1.arm_is r.1.1.sums_are)

pub all_arms-returns : goal.all_arms-returns
all_arms-returns t c = λ n bytes are most.
    let l = c.loop-left in
    let around = around_of c.args.vars.now c.args.process in
    let w = c.args.each.width in
    let deep = c.args.each.deep in
    let lines = arm_lines_at around w deep in
    let before = load_of c.args.sums in
    let f = lists.finished StepArm Load (each_lines lines) (each_load lines) (arm_long around w deep) (listed.Kept lines before l.arms l.sums) before
    c.args.cursor.now l.cursor c.args.each.turns l.left n bytes l.invariant (omega arith) are most in
    (f.0, (f.1.0, record { arms_are = f.1.1.are; sums_are = f.1.1.sums_are }))

-- ---- what follows the first word

pub parts-returns-in-Set : goal.parts-returns-in-Set
parts-returns-in-Set t c =
    let around = around_of c.args.vars.now c.args.process in
    let before = load_of c.args.sums in
    let at = spot c.args.place.deep c.args.place.before in
    subst (λ w. Reads (step_parts around before at (head_of w)) (λ p held. IsStep around before at (made_step (head_of w, p)) held) c.args.cursor.now
    c.set.result c.set.new.cursor) (sym c.in-Set.is) c.set.ensures

pub parts-returns-in-Later : goal.parts-returns-in-Later
parts-returns-in-Later t c =
    let around = around_of c.args.vars.now c.args.process in
    let before = load_of c.args.sums in
    let at = spot c.args.place.deep c.args.place.before in
    subst (λ w. Reads (step_parts around before at (head_of w)) (λ p held. IsStep around before at (made_step (head_of w, p)) held) c.args.cursor.now
    c.later.result c.later.new.cursor) (sym c.in-Later.is) c.later.ensures

pub parts-returns-in-If : goal.parts-returns-in-If
parts-returns-in-If t c =
    let around = around_of c.args.vars.now c.args.process in
    let before = load_of c.args.sums in
    let at = spot c.args.place.deep c.args.place.before in
    subst (λ w. Reads (step_parts around before at (head_of w)) (λ p held. IsStep around before at (made_step (head_of w, p)) held) c.args.cursor.now
    c.tested.result c.tested.new.cursor) (sym c.in-If.is) c.tested.ensures

pub parts-returns-in-Case : goal.parts-returns-in-Case
parts-returns-in-Case t c =
    let around = around_of c.args.vars.now c.args.process in
    let before = load_of c.args.sums in
    let at = spot c.args.place.deep c.args.place.before in
    subst (λ w. Reads (step_parts around before at (head_of w)) (λ p held. IsStep around before at (made_step (head_of w, p)) held) c.args.cursor.now
    c.chosen.result c.chosen.new.cursor) (sym c.in-Case.is) c.chosen.ensures

pub parts-returns-in-Show : goal.parts-returns-in-Show
parts-returns-in-Show t c =
    let around = around_of c.args.vars.now c.args.process in
    let before = load_of c.args.sums in
    let at = spot c.args.place.deep c.args.place.before in
    subst (λ w. Reads (step_parts around before at (head_of w)) (λ p held. IsStep around before at (made_step (head_of w, p)) held) c.args.cursor.now
    c.show.result c.show.new.cursor) (sym c.in-Show.is) c.show.ensures

pub parts-returns-in-Finish : goal.parts-returns-in-Finish
parts-returns-in-Finish t c =
    let around = around_of c.args.vars.now c.args.process in
    let before = load_of c.args.sums in
    let at = spot c.args.place.deep c.args.place.before in
    subst (λ w. Reads (step_parts around before at (head_of w)) (λ p held. IsStep around before at (made_step (head_of w, p)) held) c.args.cursor.now
    c.finish.result c.finish.new.cursor) (sym c.in-Finish.is) c.finish.ensures

pub parts-returns-in-Stop : goal.parts-returns-in-Stop
parts-returns-in-Stop t c =
    let around = around_of c.args.vars.now c.args.process in
    let before = load_of c.args.sums in
    let at = spot c.args.place.deep c.args.place.before in
    subst (λ w. Reads (step_parts around before at (head_of w)) (λ p held. IsStep around before at (made_step (head_of w, p)) held) c.args.cursor.now
    c.stop.result c.stop.new.cursor) (sym c.in-Stop.is) c.stop.ensures

pub parts-returns-in-Count : goal.parts-returns-in-Count
parts-returns-in-Count t c =
    let around = around_of c.args.vars.now c.args.process in
    let before = load_of c.args.sums in
    let at = spot c.args.place.deep c.args.place.before in
    subst (λ w. Reads (step_parts around before at (head_of w)) (λ p held. IsStep around before at (made_step (head_of w, p)) held) c.args.cursor.now
    c.count.result c.count.new.cursor) (sym c.in-Count.is) c.count.ensures

-- ---- what blocks ask for

pub arm-block-requires : goal.arm-block-requires
arm-block-requires t c =
    let a = c.in_ok-turns.ensures in
    let b = c.in_ok-held.ensures a.0.1.0 a.1.1.0 a.1.1.1.1 a.1.1.1.0 in (
      omega (arith, c.requires.deep),
      (c.requires.few, (c.requires.variables, (still_within _ c.in_ok-held.held.sums b.1.1.sums_are, omega (arith, c.requires.deep)))),
    )

pub chosen-block-requires : goal.chosen-block-requires
chosen-block-requires t c =
    let at = spot c.args.place.deep c.args.place.before in
    let a = c.in_ok-first.ensures.reads at c.may_go-allowed.ensures in
    let b = c.in_ok-arms.ensures a.0.0 a.1.1.0 a.1.1.1.1.turns_are a.1.1.1.0 in (
      omega (arith, c.requires.deep),
      (c.requires.few, (c.requires.variables, (still_within _ c.in_ok-arms.arms.sums b.1.1.sums_are, omega (arith, c.requires.deep)))),
    )
