use Rattle.std.proofs.Common.{◌≡◌, ◌∙◌, ap, sym, subst, slice_index_or}
use Rattle.std.proofs.lemmas.List.{get_or_default}
use Rattle.design_meaning.specs.Processes.{process_of, no_process}
use Rattle.flat_design.specs.Effects.{room_of}
use Rattle.flat_design.specs.Needed.{StepsIn}
use Rattle.flat_design.proofs.NeedsIn.{process_formed, process_steps}
use Rattle.flat_design.proofs.needs.counter_room.Goals as goal

pub steps_need-requires : goal.steps_need-requires
steps_need-requires c =
    let d = c.args.design.now in
    let p = c.index-as_slice-p.result in
    let is : p ≡ slice_index_or d.processes c.args.p p = c.index-as_slice-p.is ∙ ap (λ ps. slice_index_or ps c.args.p p) c.as_slice.ensures in
    subst (StepsIn c.args.state.now) (sym c.as_slice-2.ensures)
    (process_steps d c.args.state.now p c.requires.valid c.requires.of_design c.args.p c.requires.process is)

pub returns : goal.returns
returns c =
    let d = c.args.design.now in
    let p = c.index-as_slice-p.result in
    let is : p ≡ slice_index_or d.processes c.args.p p = c.index-as_slice-p.is ∙ ap (λ ps. slice_index_or ps c.args.p p) c.as_slice.ensures in
    let same : p ≡ process_of d c.args.p = is ∙ get_or_default d.processes c.args.p p no_process c.requires.process in
    let needs = rw c.as_slice-2.ensures at c.in_ok-needs.ensures in
    ap (λ r. r.counters) (needs d c.requires.valid.0.counters c.requires.of_design (process_formed d p c.requires.valid c.args.p c.requires.process is))
    ∙ ap (λ q. (room_of d q).counters) same
