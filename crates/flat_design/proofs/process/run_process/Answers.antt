use Rattle.std.proofs.Common.{◌≡◌, ◌∙◌, ap, sym, subst, slice_index_or}
use Rattle.std.proofs.lemmas.List.{get_or_default}
use Rattle.design_meaning.specs.Processes.{process_of, no_process}
use Rattle.flat_design.specs.Effects.{HasRoom, room_of}
use Rattle.flat_design.specs.InDesign.{CanRun}
use Rattle.flat_design.proofs.NeedsIn.{process_can}
use Rattle.flat_design.proofs.process.run_process.Goals as goal

pub run_steps-requires : goal.run_steps-requires
run_steps-requires g c =
    let d = c.args.design.now in
    let s = c.args.state.now in
    let e = c.args.effects.now in
    let p = c.index-as_slice-p.result in
    let is : p ≡ slice_index_or d.processes c.args.p p = c.index-as_slice-p.is ∙ ap (λ ps. slice_index_or ps c.args.p p) c.as_slice.ensures in
    let same : process_of d c.args.p ≡ p = get_or_default d.processes c.args.p no_process p c.requires.process ∙ sym is in
    let room : HasRoom e (room_of d p) = subst (λ q. HasRoom e (room_of d q)) same c.requires.room in
    subst (CanRun s e) (sym c.as_slice-2.ensures) (process_can d s e p c.requires.valid c.requires.of_design c.args.p c.requires.process is room)
