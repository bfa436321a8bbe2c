use Rattle.std.proofs.Common.{Ok, Err, ◌≡◌, Some, ap, ◌∙◌, w32}
use Rattle.std.proofs.lemmas.Int.{to_z-of_z}
use Rattle.scope_meaning.specs.Heads.{test_of}
use Rattle.walk_moves.proofs.Moving.{ended_loop}
use Rattle.walk_state.specs.declared.left.LoopPasses.{LoopPasses}
use Rattle.walk_steps.proofs.Refusals.{is_refused, turn_refused}
use Rattle.walk_loops.proofs.Passes.{of_turn, judged_as, at_value, frames_before}
use Rattle.walk_loops.proofs.turns.step_turn.Goals as goal

pub returns-then-holds : goal.returns-then-holds
returns-then-holds c = λ design top done here at tasks s.
    let w = c.args.walk.now in
    let t = of_turn w s in
    let h = judged_as design here t.place (λ names test holds. test_of names test ≡ Some holds) (Ok c.in-Ok.holds)
    (to_z-of_z w32 c.args.value c.ranges.value) (ap (λ (p : LoopPasses). p.place) c.deref.ensures ∙ t.is_loop.first)
    (ap (λ (p : LoopPasses). p.name.now) c.deref-2.ensures ∙ t.is_loop.name) (ap (λ (p : LoopPasses). p.test.now) c.deref-3.ensures ∙ t.is_loop.test)
    (c.in-Ok.ensures design here t.place (frames_before here t.place t.a w.next c.as_slice.result.now w.names.items t.midway.names c.as_slice.ensures.value)) in
    at_value design top done here t.place t.a t.l t.under w (to_z-of_z w32 c.args.value c.ranges.value)
    (λ m unrefused holds. c.into_pass.ensures design top done here t.place t.a t.l t.under m t.is_loop unrefused holds)
    t.midway h.0 (h.1 ∙ ap Some c.if-holds.true)

pub returns-in-Ok : goal.returns-in-Ok
returns-in-Ok c = λ design top done here at tasks s.
    let w = c.args.walk.now in
    let t = of_turn w s in
    let h = judged_as design here t.place (λ names test holds. test_of names test ≡ Some holds) (Ok c.in-Ok.holds)
    (to_z-of_z w32 c.args.value c.ranges.value) (ap (λ (p : LoopPasses). p.place) c.deref.ensures ∙ t.is_loop.first)
    (ap (λ (p : LoopPasses). p.name.now) c.deref-2.ensures ∙ t.is_loop.name) (ap (λ (p : LoopPasses). p.test.now) c.deref-3.ensures ∙ t.is_loop.test)
    (c.in-Ok.ensures design here t.place (frames_before here t.place t.a w.next c.as_slice.result.now w.names.items t.midway.names c.as_slice.ensures.value)) in
    ended_loop t.midway h.0 (h.1 ∙ ap Some c.if-holds.false)

pub returns : goal.returns
returns c = λ design top done here at tasks s.
    let w = c.args.walk.now in
    let t = of_turn w s in
    is_refused c.in-Err.fault (turn_refused t.midway.stands)
    (judged_as design here t.place (λ names test holds. test_of names test ≡ Some holds) (Err c.in-Err.fault)
    (to_z-of_z w32 c.args.value c.ranges.value) (ap (λ (p : LoopPasses). p.place) c.deref.ensures ∙ t.is_loop.first)
    (ap (λ (p : LoopPasses). p.name.now) c.deref-2.ensures ∙ t.is_loop.name) (ap (λ (p : LoopPasses). p.test.now) c.deref-3.ensures ∙ t.is_loop.test)
    (c.in-Err.ensures design here t.place (frames_before here t.place t.a w.next c.as_slice.result.now w.names.items t.midway.names c.as_slice.ensures.value)))
