use Rattle.std.proofs.Common.{◌≡◌, ◌∙◌, ap, sym, subst, ◌+◌, ◌<◌, length, slice_index_or, drop}
use Rattle.design_state.proofs.Turns.{drop_here}
use Rattle.flat_design.specs.Needed.{room_seen, StepsIn}
use Rattle.flat_design.proofs.Rooms.{sum_none}
use Rattle.flat_design.proofs.NeedsIn.{past_end, process_formed, process_steps, next_process}
use Rattle.flat_design.proofs.needs.design_needs.Goals as goal

pub steps_need-requires : goal.steps_need-requires
steps_need-requires c =
    let d = c.args.design.now in
    let p = c.process-item.result in
    let i = c.loop-process.process-index in
    let is : p ≡ slice_index_or d.processes i p = c.process-item.is ∙ ap (λ ps. slice_index_or ps i p) c.loop-process.invariant.same in
    let lt : i < length d.processes = subst (λ ps. i < length ps) c.loop-process.invariant.same c.loop-process-test.true in
    subst (StepsIn c.args.state.now) (sym c.as_slice.ensures) (process_steps d c.args.state.now p c.requires.valid c.requires.of_design i lt is)

pub loop-process-preserved : goal.loop-process-preserved
loop-process-preserved c =
    let d = c.args.design.now in
    let p = c.process-item.result in
    let i = c.loop-process.process-index in
    let items = c.as_slice-process-items.result.now in
    let rest = drop (i + 1) items in
    let is : p ≡ slice_index_or d.processes i p = c.process-item.is ∙ ap (λ ps. slice_index_or ps i p) c.loop-process.invariant.same in
    let lt : i < length d.processes = subst (λ ps. i < length ps) c.loop-process.invariant.same c.loop-process-test.true in
    let e = drop_here items i p c.loop-process-test.true c.process-item.is in
    let inv = rw e at c.loop-process.invariant.needs in
    let more = rw c.as_slice.ensures at c.in_ok-more.ensures in
    record {
      needs = next_process d p rest (room_seen c.loop-process.all) (room_seen c.in_ok-more.more) _ (room_seen c.in_ok-all.all) inv
          (more d c.requires.valid.0.counters c.requires.of_design (process_formed d p c.requires.valid i lt is)) c.in_ok-all.ensures;
      same = c.loop-process.invariant.same;
    }

pub returns : goal.returns
returns c =
    let e = past_end c.as_slice-process-items.result.now c.loop-process.process-index c.loop-process-test.false in
    let inv = rw e at c.loop-process.invariant.needs in
    sym (sum_none (room_seen c.loop-process.all)) ∙ inv
