use Rattle.std.proofs.Common.{◌≡◌, sym, subst, ◌<◌, ◌≤◌, length, get_or, List, arith}
use Rattle.cov_types.specs.declared.var.Var.{Var}
use Rattle.design_tree.specs.declared.step.Step.{Step}
use Rattle.design_tree.specs.declared.design.Process.{Process}
use Rattle.circuit_run.specs.States.{State}
use Rattle.design_meaning.specs.States.{IsStateOf}
use Rattle.design_state.proofs.LaidStarts.{start_is_state}
use Rattle.flow_uses.specs.Gathers.{AreStepsIn, IsGathered}
use Rattle.flow_uses.proofs.Whole.{AreDone, body_in, variables_of, one_done}
use Rattle.flow_uses.proofs.all.all_uses.Goals as goal

pub uses_of-requires-clause-steps : goal.uses_of-requires-clause-steps
uses_of-requires-clause-steps c =
    let lt : c.loop-process.process-index < length c.args.design.now.processes = subst (λ (ps : List Process). c.loop-process.process-index < length ps)
    c.as_slice-process-items.ensures c.loop-process-test.true in
    let is : c.process-item.result ≡ get_or c.args.design.now.processes c.loop-process.process-index c.process-item.result =
    subst (λ (ps : List Process). c.process-item.result ≡ get_or ps c.loop-process.process-index c.process-item.result) c.as_slice-process-items.ensures
    c.process-item.is in
    let state : IsStateOf c.args.design.now c.in_ok-state.state =
    subst (IsStateOf c.args.design.now) (sym c.in_ok-state.ensures) (start_is_state c.args.design.now (variables_of c.args.design.now c.requires.valid)) in
    subst (AreStepsIn c.in_ok-state.state) (sym c.as_slice.ensures) (body_in c.args.design.now c.requires.valid c.in_ok-state.state state
    c.loop-process.process-index c.process-item.result lt is)

pub loop-process-preserved : goal.loop-process-preserved
loop-process-preserved c =
    let lt : c.loop-process.process-index < length c.args.design.now.processes = subst (λ (ps : List Process). c.loop-process.process-index < length ps)
    c.as_slice-process-items.ensures c.loop-process-test.true in
    let is : c.process-item.result ≡ get_or c.args.design.now.processes c.loop-process.process-index c.process-item.result =
    subst (λ (ps : List Process). c.process-item.result ≡ get_or ps c.loop-process.process-index c.process-item.result) c.as_slice-process-items.ensures
    c.process-item.is in
    let g : IsGathered c.args.design.now.vars c.process-item.result.body c.in_ok-uses.uses =
    subst (λ steps. IsGathered c.args.design.now.vars steps c.in_ok-uses.uses) c.as_slice.ensures
    (subst (λ vars. IsGathered vars c.as_slice.result.now c.in_ok-uses.uses) c.as_slice-in-loop-process.ensures c.in_ok-uses.ensures) in
    rw c.in_ok-push.ensures.items
    (one_done c.args.design.now c.loop-process.all.items c.in_ok-uses.uses c.loop-process.process-index c.process-item.result lt is g c.loop-process.invariant)

pub returns-clause-uses : goal.returns-clause-uses
returns-clause-uses c p lt =
    let past : length c.args.design.now.processes ≤ c.loop-process.process-index = subst (λ (ps : List Process). length ps ≤ c.loop-process.process-index)
    c.as_slice-process-items.ensures c.loop-process-test.false in
    c.loop-process.invariant.uses p (omega (arith, lt, past))
