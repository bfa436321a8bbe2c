use Rattle.std.proofs.Common.{◌≡◌, ◌∙◌, sym, ap, subst, ◌<◌, ◌≤◌, length, slice_index_or, arith}
use Rattle.std.proofs.lemmas.List.{get_or_default}
use Rattle.design_meaning.specs.Steps.{run_of}
use Rattle.design_meaning.specs.Processes.{process_of}
use Rattle.flat_design.specs.Effects.{added, empty, room_of, HasRoom}
use Rattle.flat_design.proofs.RoomLaws.{room_for_each}
use Rattle.flat_design.proofs.RunWithin.{runs_within}
use Rattle.cycle_parts.specs.Raised.{none_raised}
use Rattle.cycle_settle.proofs.along.run_kept.Goals as goal

pub run_process-requires-clause-room : goal.run_process-requires-clause-room
run_process-requires-clause-room g c =
    let d = c.args.design.now in
    let p = c.args.p in
    subst (λ e. HasRoom e (room_of d (process_of d p))) (sym (c.clear.ensures ∙ ap empty c.requires.room)) (room_for_each d p c.requires.process)

pub keep-requires : goal.keep-requires
keep-requires g c =
    let d = c.args.design.now in
    let p = c.args.p in
    let kept = c.args.kept.now in
    let x = c.index-kept-p.result in
    let run = run_of (process_of d p) c.args.now.now in
    let raised : c.raised.result.now ≡ run.notes =
    c.raised.ensures ∙ ap (λ e. e.raised) (c.run_process.ensures.effects ∙ ap (λ e. added e run) c.clear.ensures) in
    let few : length run.notes ≤ (room_of d (process_of d p)).counters =
    (runs_within d p c.args.now.now c.requires.valid c.requires.of_design c.requires.process).counters in
    let here : p < length kept = omega (arith, c.requires.process, c.requires.rooms.as_many) in
    let room : (slice_index_or kept p x).room ≡ (room_of d (process_of d p)).counters =
    ap (λ k. k.room) (get_or_default kept p x (none_raised 0) here) ∙ c.requires.rooms.rooms p c.requires.process in
    omega (arith, ap length raised, few, room)
