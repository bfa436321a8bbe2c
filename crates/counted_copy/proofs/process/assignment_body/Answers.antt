use Rattle.std.proofs.Common.{◌≡◌, ◌+◌, ◌≤◌, true, length, take, [], ◌∷◌, ◌++◌, sym, subst, ◌∙◌, ap, arith}
use Rattle.std.specs.List.{list_all}
use Rattle.counted_copy.specs.Blocks.{is_uncounted}
use Rattle.counted_copy.proofs.CountedProcesses as processes
use Rattle.counted_copy.proofs.CountedSteps.{next_front}
use Rattle.counted_copy.proofs.Uncounted as parts
use Rattle.counted_copy.proofs.process.assignment_body.Goals as goal

pub counted_step-requires-clause-uncounted : goal.counted_step-requires-clause-uncounted
counted_step-requires-clause-uncounted c =
    parts.one_of is_uncounted c.as_slice-step-items.result.now c.loop-step.step-index c.step-item.result c.loop-step-test.true c.step-item.is
    (subst (λ xs. list_all is_uncounted xs ≡ true) (sym c.as_slice-step-items.ensures) (processes.body_without c.args.process.now c.requires.uncounted))

pub counted_step-requires-clause-room : goal.counted_step-requires-clause-room
counted_step-requires-clause-room c =
    let e = processes.no_arms_at c.args.process.now c.as_slice-step-items.result.now c.loop-step.step-index c.step-item.result c.as_slice-step-items.ensures
    c.requires.uncounted
    c.requires.kind c.loop-step-test.true c.step-item.is in
    let h = c.requires.room in
    omega arith

pub loop-step-preserved : goal.loop-step-preserved
loop-step-preserved c =
    let none = processes.no_arms_at c.args.process.now c.as_slice-step-items.result.now c.loop-step.step-index c.step-item.result c.as_slice-step-items.ensures
    c.requires.uncounted c.requires.kind c.loop-step-test.true c.step-item.is in
    c.in_ok-push.ensures.ok
    ∙ (ap (λ xs. xs ++ c.in_ok-copy.copy.step ∷ []) c.loop-step.invariant
    ∙ (ap (λ x. take c.loop-step.step-index c.args.process.now.body ++ x ∷ []) (c.in_ok-copy.ensures.plain none)
    ∙ (ap (λ xs. take c.loop-step.step-index xs ++ c.step-item.result ∷ []) (sym c.as_slice-step-items.ensures)
    ∙ (next_front c.as_slice-step-items.result.now c.loop-step.step-index c.step-item.result c.loop-step-test.true c.step-item.is
    ∙ ap (take (c.loop-step.step-index + 1)) c.as_slice-step-items.ensures))))
