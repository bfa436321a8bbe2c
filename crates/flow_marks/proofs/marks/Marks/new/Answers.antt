use Rattle.flow_marks.specs.Slots.{IsLayout}
use Rattle.flow_marks.proofs.Started.{none_kept}
use Rattle.flow_marks.proofs.marks.Marks.new.Goals as goal

pub invariant_of-result : goal.invariant_of-result
invariant_of-result c =
    let l : IsLayout c.args.vars.now c.in_ok-slots.field-0.slots.items c.in_ok-slots.field-0.bits c.in_ok-slots.field-0.columns = c.in_ok-slots.ensures in
    rw (c.in_ok-bits.ensures.items_if_clones_equal (λ y h. h), c.in_ok-counts.ensures.items_if_clones_equal (λ y h. h), l.slots_are, l.bits_are, l.columns_are)
    (none_kept c.args.vars.now c.requires)
