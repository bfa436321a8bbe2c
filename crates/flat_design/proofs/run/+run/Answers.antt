use Rattle.std.proofs.Common.{◌≡◌, ◌∙◌, ap, sym, subst, arith, rules, ◌≤◌, ◌+◌, ◌<◌, length, drop, slice_index_or}
use Rattle.design_tree.specs.declared.step.Step.{the_lemmas}
use Rattle.design_meaning.specs.Steps.{does, all_do}
use Rattle.flat_design.specs.Effects.{added}
use Rattle.std.specs.Prelude.{flat_map}
use Rattle.design_meaning.specs.Texts.{piece_text}
use Rattle.design_meaning.specs.Writes.{target_widths}
use Rattle.flat_design.specs.InDesign.{CanRun, AreArmsIn}
use Rattle.design_state.proofs.Turns.{drop_here}
use Rattle.flat_design.proofs.Rooms.{added_more}
use Rattle.flat_design.proofs.StepsIn as inside
use Rattle.flat_design.proofs.Within.{can_rest}
use Rattle.flat_design.proofs.run.+run.Goals as goal

pub run_steps-run_step-requires : goal.run_steps-run_step-requires
run_steps-run_step-requires t c =
    let x = c.step-item.result in
    let rest = drop (c.loop-step.step-index + 1) c.args.steps.now in
    let e = drop_here c.args.steps.now c.loop-step.step-index x c.loop-step-test.true c.step-item.is in
    let inv = rw e at c.loop-step.invariant in (
      first_of (search (rules, the_lemmas), grind (arith, the_lemmas)),
      inside.can_first c.loop-step.state c.loop-step.effects x rest inv.can,
    )

pub run_steps-loop-step-preserved : goal.run_steps-loop-step-preserved
run_steps-loop-step-preserved t c =
    let x = c.step-item.result in
    let s = c.loop-step.state in
    let old = c.loop-step.effects in
    let rest = drop (c.loop-step.step-index + 1) c.args.steps.now in
    let e = drop_here c.args.steps.now c.loop-step.step-index x c.loop-step-test.true c.step-item.is in
    let inv = rw e at c.loop-step.invariant in
    record {
      state = ap (λ u. (all_do rest u).state) c.run_step.ensures.state ∙ inv.state;
      effects = ap (λ u. added c.run_step.new.effects (all_do rest u)) c.run_step.ensures.state
          ∙ ap (λ f. added f (all_do rest (does x s).state)) c.run_step.ensures.effects
          ∙ added_more old (does x s) (all_do rest (does x s).state) ∙ inv.effects;
      can = rw (c.run_step.ensures.state, c.run_step.ensures.effects) (can_rest s old x rest inv.can);
    }

pub run_step-set-requires-clause-widths : goal.run_step-set-requires-clause-widths
run_step-set-requires-clause-widths t c =
    let s = c.args.state.now in
    let v = c.value-bits.result in
    let k = inside.set_parts s c.args.effects.now c.in-Set.targets c.in-Set.from (rw c.in-Set.is at c.requires) in
    ap (target_widths s) c.as_slice.ensures ∙ k.2 v.width v.bits c.value-bits.ensures

pub run_step-set-requires-clause-room : goal.run_step-set-requires-clause-room
run_step-set-requires-clause-room t c =
    let e = c.args.effects.now in
    subst (λ ts. length e.updates + length ts ≤ e.room.updates) (sym c.as_slice.ensures)
    (inside.set_room c.args.state.now e c.in-Set.targets c.in-Set.from (rw c.in-Set.is at c.requires))

pub run_step-later-requires-clause-widths : goal.run_step-later-requires-clause-widths
run_step-later-requires-clause-widths t c =
    let s = c.args.state.now in
    let v = c.value-bits-in-Later.result in
    let k = inside.later_parts s c.args.effects.now c.in-Later.targets c.in-Later.from (rw c.in-Later.is at c.requires) in
    ap (target_widths s) c.as_slice-in-Later.ensures ∙ k.2 v.width v.bits c.value-bits-in-Later.ensures

pub run_step-later-requires-clause-room : goal.run_step-later-requires-clause-room
run_step-later-requires-clause-room t c =
    let e = c.args.effects.now in
    subst (λ ts. length e.updates + length ts ≤ e.room.updates) (sym c.as_slice-in-Later.ensures)
    (inside.later_room c.args.state.now e c.in-Later.targets c.in-Later.from (rw c.in-Later.is at c.requires))

pub run_step-run_steps-requires : goal.run_step-run_steps-requires
run_step-run_steps-requires t c = (
  first_of (search (rules, the_lemmas), grind (arith, the_lemmas)),
  subst (CanRun c.args.state.now c.args.effects.now) (sym c.as_slice-then-is_zero.ensures)
      (inside.if_right c.args.state.now c.args.effects.now c.in-If.test c.in-If.yes c.in-If.no (rw c.in-If.is at c.requires)),
)

pub run_step-run_steps-requires-in-If : goal.run_step-run_steps-requires-in-If
run_step-run_steps-requires-in-If t c = (
  first_of (search (rules, the_lemmas), grind (arith, the_lemmas)),
  subst (CanRun c.args.state.now c.args.effects.now) (sym c.as_slice-in-If.ensures)
      (inside.if_left c.args.state.now c.args.effects.now c.in-If.test c.in-If.yes c.in-If.no (rw c.in-If.is at c.requires)),
)

pub run_step-chosen_arm-at-requires : goal.run_step-chosen_arm-at-requires
run_step-chosen_arm-at-requires t c =
    subst (AreArmsIn c.args.state.now) (sym c.as_slice-in-Case.ensures)
    (inside.case_items c.args.state.now c.args.effects.now c.in-Case.on c.in-Case.arms c.in-Case.rest (rw c.in-Case.is at c.requires))

pub run_step-run_steps-requires-then-at-len : goal.run_step-run_steps-requires-then-at-len
run_step-run_steps-requires-then-at-len t c =
    let arms = c.in-Case.arms in
    let at = c.chosen_arm-at.result in
    let d = c.index-as_slice-at.result in
    let body : c.as_slice-then-at-len-2.result.now ≡ (slice_index_or arms at d).body =
    c.as_slice-then-at-len-2.ensures ∙ ap (λ l. (slice_index_or l at d).body) c.as_slice-then-at-len.ensures in
    let within : at < length arms = rw c.len.ensures at c.if-at-len.true in (
      first_of (search (rules, the_lemmas), grind (arith, the_lemmas)),
      subst (CanRun c.args.state.now c.args.effects.now) (sym body)
          (inside.case_arm c.args.state.now c.args.effects.now c.in-Case.on arms c.in-Case.rest at d within (rw c.in-Case.is at c.requires)),
    )

pub run_step-run_steps-requires-in-Case : goal.run_step-run_steps-requires-in-Case
run_step-run_steps-requires-in-Case t c = (
  first_of (search (rules, the_lemmas), grind (arith, the_lemmas)),
  subst (CanRun c.args.state.now c.args.effects.now) (sym c.as_slice-in-Case-2.ensures)
      (inside.case_rest c.args.state.now c.args.effects.now c.in-Case.on c.in-Case.arms c.in-Case.rest (rw c.in-Case.is at c.requires)),
)

pub run_step-show-requires-clause-room : goal.run_step-show-requires-clause-room
run_step-show-requires-clause-room t c =
    let s = c.args.state.now in
    let e = c.args.effects.now in
    subst (λ ps. length e.text + length (flat_map (piece_text s) ps) ≤ e.room.bytes) (sym c.as_slice-in-Show.ensures)
    (inside.show_room s e c.in-Show.pieces (rw c.in-Show.is at c.requires))
