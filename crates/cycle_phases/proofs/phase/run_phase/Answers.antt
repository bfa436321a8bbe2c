use Rattle.std.proofs.Common.{◌≡◌, ◌∙◌, sym, ap, subst, ℕ, List, ◌+◌, ◌<◌, ◌≤◌, true, false, length, slice_index_or, arith}
use Rattle.std.proofs.lemmas.List.{get_or_default}
use Rattle.design_tree.specs.declared.design.Process.{Process}
use Rattle.design_meaning.specs.Steps.{run_of}
use Rattle.design_meaning.specs.Processes.{kind_of, process_of, no_process}
use Rattle.design_meaning.specs.RunLaws.{after}
use Rattle.flat_design.specs.Effects.{added}
use Rattle.cycle_phases.specs.Phases.{runs_in}
use Rattle.cycle_phases.proofs.Passing.{never_runs}
use Rattle.cycle_phases.proofs.Turning.{Turning, begins, one_turn, no_turn, no_turns}
use Rattle.cycle_phases.proofs.phase.run_phase.Goals as goal
use Rattle.cycle_phases.proofs.phase.run_phase.Goals.{then-has_kind, else-has_kind}

pub process-init : goal.process-init
process-init g c =
    let d = c.args.design.now in
    let sort = runs_in c.args.phase in
    let s = c.args.now.now in
    let next = c.next_before-at.result in
    let many : length c.as_slice-processes.result.now ≡ length d.processes = ap (λ (ps : List Process). length ps) c.as_slice-processes.ensures in
    let within : next ≤ length d.processes = omega (arith, many, c.next_before-at.ensures.end) in
    record {
      turning = no_turns sort d s 0 next s c.clear.new.self c.args.steps.now c.args.steps.now (omega arith) within
          (λ k from lt. never_runs c.args.phase (kind_of d k) (c.requires.others k (omega (arith, lt, within)) (c.next_before-at.ensures.between k from lt)))
          (begins sort d s c.clear.new.self c.args.effects.now.room c.args.steps.now c.requires.of_design c.clear.ensures c.requires.room);
      within = within;
    }

pub process-preserved : goal.process-preserved
process-preserved g c =
    let d = c.args.design.now in
    let sort = runs_in c.args.phase in
    let s = c.args.now.now in
    let n = c.process.at in
    let old = c.args.steps.now in
    let t = c.process.invariant.turning in
    let same = c.as_slice-processes.ensures in
    let item = c.index-processes-at.result in
    let many : length c.as_slice-processes.result.now ≡ length d.processes = ap (λ (ps : List Process). length ps) same in
    let here : n < length d.processes = omega (arith, c.process-test.true, many) in
    let is : slice_index_or c.as_slice-processes.result.now n item ≡ process_of d n =
    ap (λ ps. slice_index_or ps n item) same ∙ get_or_default d.processes n item no_process here in
    let next = c.next_before-at-in-process.result in
    let within : next ≤ length d.processes = omega (arith, many, c.next_before-at-in-process.ensures.end) in
    let none = λ (k : ℕ) (from : n + 1 ≤ k) (lt : k < next).
    never_runs c.args.phase (kind_of d k) (c.requires.others k (omega (arith, lt, within)) (c.next_before-at-in-process.ensures.between k from lt)) in
    elim c.if-has_kind.branch [
      | then-has_kind w ↦
          let kind : sort (process_of d n).kind ≡ true = sym (ap (λ p. sort p.kind) is) ∙ sym c.has_kind.ensures ∙ w.if-has_kind.true in
          let run = run_of (process_of d n) c.process.now in
          let one = one_turn sort d s n c.process.now c.process.effects old c.process.steps here t c.requires.valid kind in
          record {
            turning = no_turns sort d s (n + 1) next c.if-has_kind.now c.if-has_kind.effects old c.if-has_kind.steps
                c.next_before-at-in-process.ensures.from within none
                (subst (λ u. Turning sort d s (n + 1) u c.if-has_kind.effects old c.if-has_kind.steps) (sym (w.now-is ∙ w.run_process.ensures.state))
                (subst (λ e. Turning sort d s (n + 1) (after d n c.process.now) e old c.if-has_kind.steps) (sym (w.effects-is ∙ w.run_process.ensures.effects))
                (subst (λ k. Turning sort d s (n + 1) (after d n c.process.now) (added c.process.effects run) old k) (sym (w.steps-is
                ∙ w.run_process.ensures.ticks)) one)));
            within = within;
          }
      | else-has_kind w ↦
          let kind : sort (process_of d n).kind ≡ false = sym (ap (λ p. sort p.kind) is) ∙ sym c.has_kind.ensures ∙ w.if-has_kind.false in
          let one = no_turn sort d s n c.process.now c.process.effects old c.process.steps here t kind in
          record {
            turning = no_turns sort d s (n + 1) next c.if-has_kind.now c.if-has_kind.effects old c.if-has_kind.steps
                c.next_before-at-in-process.ensures.from within none
                (subst (λ u. Turning sort d s (n + 1) u c.if-has_kind.effects old c.if-has_kind.steps) (sym w.now-is)
                (subst (λ e. Turning sort d s (n + 1) c.process.now e old c.if-has_kind.steps) (sym w.effects-is)
                (subst (λ k. Turning sort d s (n + 1) c.process.now c.process.effects old k) (sym w.steps-is) one)));
            within = within;
          }
    ]
