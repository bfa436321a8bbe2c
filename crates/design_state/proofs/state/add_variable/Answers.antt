use Rattle.std.proofs.Common.{◌≡◌, ◌∙◌, ap, ℕ, ◌+◌, length, replicate, arith}
use Rattle.std.proofs.lemmas.List.{length-replicate}
use Rattle.design_state.specs.declared.state.Slot.{Slot}
use Rattle.design_state.proofs.LaidStarts.{more_laid, more_split, start_bounds, all_same}
use Rattle.design_state.proofs.state.add_variable.Goals as goal

pub returns-clause-laid : goal.returns-clause-laid
returns-clause-laid c =
    let v = c.args.var.now in
    let words = c.args.words.now.items in
    let b = start_bounds v c.requires.variable in
    let slot : Slot = record { base = length c.as_slice-base.result.now; count = v.words; width = v.width } in
    let base : slot.base ≡ 0 + length words = ap length c.as_slice-base.ensures.value ∙ omega arith in
    rw (c.in_ok-push.ensures.items, c.in_ok-put_words.ensures)
    (more_laid 0 c.args.slots.now.items words slot (replicate v.words v.start) c.requires.laid base b.0 b.1 (length-replicate {A = ℕ} v.words v.start)
    (all_same _ v.start v.words b.2))

pub returns-clause-split : goal.returns-clause-split
returns-clause-split c =
    let v = c.args.var.now in
    let slot : Slot = record { base = length c.as_slice-base.result.now; count = v.words; width = v.width } in
    rw (c.in_ok-push.ensures.items, c.in_ok-put_words.ensures)
    (more_split 0 c.args.slots.now.items c.args.words.now.items slot (replicate v.words v.start) c.requires.laid (length-replicate {A = ℕ} v.words v.start))
