use Rattle.std.proofs.Common.{Ok, Err, ◌≡◌, Some, ap, sym, ◌∙◌, w32, rules}
use Rattle.std.proofs.lemmas.Int.{to_z-of_z}
use Rattle.scope_meaning.specs.Heads.{genvar_value}
use Rattle.walk_state.specs.declared.left.LoopPasses.{LoopPasses}
use Rattle.walk_steps.proofs.Refusals.{is_refused, step_refused}
use Rattle.walk_loops.proofs.Passes.{of_step, judged_as, frames_before}
use Rattle.walk_loops.proofs.turns.step_on.Goals as goal

pub returns-in_ok-to_turn-in-Ok : goal.returns-in_ok-to_turn-in-Ok
returns-in_ok-to_turn-in-Ok c = λ design top done here at tasks s.
    let w = c.args.walk.now in
    let t = of_step w s in
    let h = judged_as design here t.place (λ names step next. genvar_value names step ≡ Some next) (Ok c.in-Ok.next)
    (to_z-of_z w32 c.args.value c.ranges.value) (ap (λ (p : LoopPasses). p.place) c.deref.ensures ∙ t.is_loop.first)
    (ap (λ (p : LoopPasses). p.name.now) c.deref-2.ensures ∙ t.is_loop.name) (ap (λ (p : LoopPasses). p.step.now) c.deref-3.ensures ∙ t.is_loop.step)
    (c.in-Ok.ensures design here t.place (frames_before here t.place t.a w.next c.as_slice.result.now w.names.items t.midway.names c.as_slice.ensures.value)) in
    c.in_ok-to_turn-in-Ok.ensures design top done here t.place t.a t.l c.args.value t.under t.midway h.0
    (h.1 ∙ ap Some (sym (to_z-of_z w32 c.in-Ok.next (search rules)))) t.is_loop

pub returns-in-Err : goal.returns-in-Err
returns-in-Err c = λ design top done here at tasks s.
    let w = c.args.walk.now in
    let t = of_step w s in
    is_refused c.in-Err.fault (step_refused t.midway.stands)
    (judged_as design here t.place (λ names step next. genvar_value names step ≡ Some next) (Err c.in-Err.fault)
    (to_z-of_z w32 c.args.value c.ranges.value) (ap (λ (p : LoopPasses). p.place) c.deref.ensures ∙ t.is_loop.first)
    (ap (λ (p : LoopPasses). p.name.now) c.deref-2.ensures ∙ t.is_loop.name) (ap (λ (p : LoopPasses). p.step.now) c.deref-3.ensures ∙ t.is_loop.step)
    (c.in-Err.ensures design here t.place (frames_before here t.place t.a w.next c.as_slice.result.now w.names.items t.midway.names c.as_slice.ensures.value)))
