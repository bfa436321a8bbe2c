use Rattle.std.proofs.Common.{arith, sym, ap, ◌∙◌, subst, ◌+◌, ◌*◌, get_or, false}
use Rattle.std.proofs.lemmas.List.{get_or_default}
use Rattle.flow_marks.specs.Slots.{IsIn}
use Rattle.flow_marks.specs.Sets.{MarkSet, has}
use Rattle.flow_marks.proofs.Kept.{bit_of, number_read, number_inside}
use Rattle.flow_marks.proofs.marks.Marks.has.Goals as goal

pub overflow_add-slot : goal.overflow_add-slot
overflow_add-slot c =
    let h : IsIn c.self.inside.slots.items (bit_of c.args.var c.args.word c.args.place) = subst (λ (m : MarkSet). IsIn m.slots (bit_of c.args.var
    c.args.word c.args.place)) (sym c.self.view_is) c.requires in
    omega (
      arith,
      number_inside c.self.inside.slots.items c.self.inside.bits.items c.self.inside.counts.items c.self.invariant c.args.var c.args.word
          c.args.place c.index-slot.result.now h c.index-slot.ensures,
      c.self.inside.bits.ok.0,
      c.self.inside.bits.ok.1,
      c.self.inside.bits.small,
    )

pub index-requires : goal.index-requires
index-requires c =
    let h : IsIn c.self.inside.slots.items (bit_of c.args.var c.args.word c.args.place) = subst (λ (m : MarkSet). IsIn m.slots (bit_of c.args.var
    c.args.word c.args.place)) (sym c.self.view_is) c.requires in
    omega (
      arith,
      number_inside c.self.inside.slots.items c.self.inside.bits.items c.self.inside.counts.items c.self.invariant c.args.var c.args.word
          c.args.place c.index-slot.result.now h c.index-slot.ensures,
      c.self.inside.bits.ok.0,
    )

pub returns : goal.returns
returns c =
    let h : IsIn c.self.inside.slots.items (bit_of c.args.var c.args.word c.args.place) = subst (λ (m : MarkSet). IsIn m.slots (bit_of c.args.var
    c.args.word c.args.place)) (sym c.self.view_is) c.requires in
    c.index.ensures
    ∙ get_or_default c.self.inside.bits.items (c.index-slot.result.now.bit + (c.args.word * c.index-slot.result.now.width + c.args.place))
    c.index.result.now false (number_inside c.self.inside.slots.items c.self.inside.bits.items c.self.inside.counts.items c.self.invariant c.args.var
    c.args.word c.args.place c.index-slot.result.now h c.index-slot.ensures)
    ∙ ap (λ i. get_or c.self.inside.bits.items i false) (number_read c.self.inside.slots.items c.self.inside.bits.items c.self.inside.counts.items
    c.self.invariant c.args.var c.args.word c.args.place c.index-slot.result.now h c.index-slot.ensures)
    ∙ ap (λ (m : MarkSet). has m (bit_of c.args.var c.args.word c.args.place)) c.self.view_is
