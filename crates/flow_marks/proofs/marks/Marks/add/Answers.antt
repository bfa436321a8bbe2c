use Rattle.std.proofs.Common.{arith, sym, ap, ◌∙◌, subst, ◌≡◌, ◌<◌, ◌≤◌, ◌+◌, ◌*◌, get_or, set, true, false, ◌||◌}
use Rattle.std.proofs.lemmas.List.{get_or_default}
use Rattle.circuit_run.specs.States.{Bit}
use Rattle.flow_marks.specs.Slots.{IsIn, slot_of, number, is_same}
use Rattle.flow_marks.specs.Sets.{MarkSet, IsColumn, has, marked, column_of}
use Rattle.flow_marks.proofs.Kept.{bit_of, number_read, number_inside, column_read, column_inside, count_read, added_kept, added_room, added_has, there_has}
use Rattle.flow_marks.proofs.marks.Marks.add.Goals as goal

pub overflow_add-number-2 : goal.overflow_add-number-2
overflow_add-number-2 c =
    let h : IsIn c.self.inside.slots.items (bit_of c.args.var c.args.word c.args.place) = subst (λ (m : MarkSet). IsIn m.slots (bit_of c.args.var
    c.args.word c.args.place)) (sym c.self.view_is) c.requires in
    omega (
      arith,
      number_inside c.self.inside.slots.items c.self.inside.bits.items c.self.inside.counts.items c.self.invariant c.args.var c.args.word
          c.args.place c.index-slot.result.now h c.index-slot.ensures,
      c.self.inside.bits.ok.0,
      c.self.inside.bits.ok.1,
      c.self.inside.bits.small,
    )

pub index-requires : goal.index-requires
index-requires c =
    let h : IsIn c.self.inside.slots.items (bit_of c.args.var c.args.word c.args.place) = subst (λ (m : MarkSet). IsIn m.slots (bit_of c.args.var
    c.args.word c.args.place)) (sym c.self.view_is) c.requires in
    omega (
      arith,
      number_inside c.self.inside.slots.items c.self.inside.bits.items c.self.inside.counts.items c.self.invariant c.args.var c.args.word
          c.args.place c.index-slot.result.now h c.index-slot.ensures,
      c.self.inside.bits.ok.0,
    )

pub index_mut-requires : goal.index_mut-requires
index_mut-requires c =
    let h : IsIn c.self.inside.slots.items (bit_of c.args.var c.args.word c.args.place) = subst (λ (m : MarkSet). IsIn m.slots (bit_of c.args.var
    c.args.word c.args.place)) (sym c.self.view_is) c.requires in
    omega (
      arith,
      number_inside c.self.inside.slots.items c.self.inside.bits.items c.self.inside.counts.items c.self.invariant c.args.var c.args.word
          c.args.place c.index-slot.result.now h c.index-slot.ensures,
      c.self.inside.bits.ok.0,
    )

pub overflow_add-slot : goal.overflow_add-slot
overflow_add-slot c =
    let h : IsIn c.self.inside.slots.items (bit_of c.args.var c.args.word c.args.place) = subst (λ (m : MarkSet). IsIn m.slots (bit_of c.args.var
    c.args.word c.args.place)) (sym c.self.view_is) c.requires in
    let i : IsColumn c.self.inside.slots.items c.args.var c.args.place = record { of_variable = h.of_variable; in_width = h.in_width } in
    omega (
      arith,
      column_inside c.self.inside.slots.items c.self.inside.bits.items c.self.inside.counts.items c.self.invariant c.args.var c.args.place
          c.index-slot.result.now i c.index-slot.ensures,
      c.self.inside.counts.ok.0,
      c.self.inside.counts.ok.1,
      c.self.inside.counts.small,
    )

pub index_mut-requires-then-not-index : goal.index_mut-requires-then-not-index
index_mut-requires-then-not-index c =
    let h : IsIn c.self.inside.slots.items (bit_of c.args.var c.args.word c.args.place) = subst (λ (m : MarkSet). IsIn m.slots (bit_of c.args.var
    c.args.word c.args.place)) (sym c.self.view_is) c.requires in
    let i : IsColumn c.self.inside.slots.items c.args.var c.args.place = record { of_variable = h.of_variable; in_width = h.in_width } in
    omega (
      arith,
      column_inside c.self.inside.slots.items c.self.inside.bits.items c.self.inside.counts.items c.self.invariant c.args.var c.args.place
          c.index-slot.result.now i c.index-slot.ensures,
      c.self.inside.counts.ok.0,
    )

pub overflow_add-index_mut : goal.overflow_add-index_mut
overflow_add-index_mut c =
    let h : IsIn c.self.inside.slots.items (bit_of c.args.var c.args.word c.args.place) = subst (λ (m : MarkSet). IsIn m.slots (bit_of c.args.var
    c.args.word c.args.place)) (sym c.self.view_is) c.requires in
    let i : IsColumn c.self.inside.slots.items c.args.var c.args.place = record { of_variable = h.of_variable; in_width = h.in_width } in
    let f : get_or c.self.inside.bits.items (number c.self.inside.slots.items (bit_of c.args.var c.args.word c.args.place)) false ≡ false =
    ap (λ i. get_or c.self.inside.bits.items i false) (sym (number_read c.self.inside.slots.items c.self.inside.bits.items c.self.inside.counts.items
    c.self.invariant c.args.var c.args.word c.args.place c.index-slot.result.now h c.index-slot.ensures))
    ∙ get_or_default c.self.inside.bits.items (c.index-slot.result.now.bit + (c.args.word * c.index-slot.result.now.width + c.args.place)) false
    c.index.result.now (number_inside c.self.inside.slots.items c.self.inside.bits.items c.self.inside.counts.items c.self.invariant c.args.var
    c.args.word c.args.place c.index-slot.result.now h c.index-slot.ensures)
    ∙ sym c.index.ensures ∙ c.if-not-index.true in
    let n : c.index_mut-then-not-index.result.now ≡ marked (column_of c.self.inside.slots.items c.self.inside.bits.items c.args.var c.args.place) (slot_of
    c.self.inside.slots.items c.args.var).words =
    count_read c.self.inside.slots.items c.self.inside.bits.items c.self.inside.counts.items c.self.invariant c.args.var c.args.place
    c.index_mut-then-not-index.result.now c.index-slot.result.now i c.index-slot.ensures c.index_mut-then-not-index.ensures.value in
    let m : (slot_of c.self.inside.slots.items c.args.var).words ≤ 65536 = c.self.invariant.laid.few c.args.var h.of_variable in
    let l : c.index_mut-then-not-index.result.now < (slot_of c.self.inside.slots.items c.args.var).words = added_room c.self.inside.slots.items
    c.self.inside.bits.items c.self.inside.counts.items c.self.invariant (bit_of c.args.var c.args.word c.args.place)
    c.index_mut-then-not-index.result.now h f n in
    omega arith

pub invariant_of-self : goal.invariant_of-self
invariant_of-self c =
    let h : IsIn c.self.inside.slots.items (bit_of c.args.var c.args.word c.args.place) = subst (λ (m : MarkSet). IsIn m.slots (bit_of c.args.var
    c.args.word c.args.place)) (sym c.self.view_is) c.requires in
    let i : IsColumn c.self.inside.slots.items c.args.var c.args.place = record { of_variable = h.of_variable; in_width = h.in_width } in
    let f : get_or c.self.inside.bits.items (number c.self.inside.slots.items (bit_of c.args.var c.args.word c.args.place)) false ≡ false =
    ap (λ i. get_or c.self.inside.bits.items i false) (sym (number_read c.self.inside.slots.items c.self.inside.bits.items c.self.inside.counts.items
    c.self.invariant c.args.var c.args.word c.args.place c.index-slot.result.now h c.index-slot.ensures))
    ∙ get_or_default c.self.inside.bits.items (c.index-slot.result.now.bit + (c.args.word * c.index-slot.result.now.width + c.args.place)) false
    c.index.result.now (number_inside c.self.inside.slots.items c.self.inside.bits.items c.self.inside.counts.items c.self.invariant c.args.var
    c.args.word c.args.place c.index-slot.result.now h c.index-slot.ensures)
    ∙ sym c.index.ensures ∙ c.if-not-index.true in
    let n : c.index_mut-then-not-index.result.now ≡ marked (column_of c.self.inside.slots.items c.self.inside.bits.items c.args.var c.args.place) (slot_of
    c.self.inside.slots.items c.args.var).words =
    count_read c.self.inside.slots.items c.self.inside.bits.items c.self.inside.counts.items c.self.invariant c.args.var c.args.place
    c.index_mut-then-not-index.result.now c.index-slot.result.now i c.index-slot.ensures c.index_mut-then-not-index.ensures.value in
    rw (
      number_read c.self.inside.slots.items c.self.inside.bits.items c.self.inside.counts.items c.self.invariant c.args.var c.args.word c.args.place
          c.index-slot.result.now h c.index-slot.ensures,
      column_read c.self.inside.slots.items c.self.inside.bits.items c.self.inside.counts.items
          c.self.invariant c.args.var c.args.place c.index-slot.result.now i c.index-slot.ensures,
    ) (added_kept c.self.inside.slots.items
    c.self.inside.bits.items c.self.inside.counts.items c.self.invariant (bit_of c.args.var c.args.word c.args.place)
    c.index_mut-then-not-index.result.now h f n)

pub returns-then-not-index-clause-bits : goal.returns-then-not-index-clause-bits
returns-then-not-index-clause-bits c =
    let h : IsIn c.self.inside.slots.items (bit_of c.args.var c.args.word c.args.place) = subst (λ (m : MarkSet). IsIn m.slots (bit_of c.args.var
    c.args.word c.args.place)) (sym c.self.view_is) c.requires in
    subst (λ (m : MarkSet). (x : Bit) → IsIn m.slots x → get_or (set c.self.inside.bits.items (c.index-slot.result.now.bit + (c.args.word *
    c.index-slot.result.now.width + c.args.place)) true) (number c.self.inside.slots.items x) false ≡ (is_same (bit_of c.args.var c.args.word
    c.args.place) x || has m x)) c.self.view_is
    (λ x i. rw (number_read c.self.inside.slots.items c.self.inside.bits.items c.self.inside.counts.items c.self.invariant c.args.var c.args.word
    c.args.place c.index-slot.result.now h c.index-slot.ensures) (added_has c.self.inside.slots.items c.self.inside.bits.items
    c.self.inside.counts.items c.self.invariant (bit_of c.args.var c.args.word c.args.place) x h i))

pub returns-else-not-index-clause-bits : goal.returns-else-not-index-clause-bits
returns-else-not-index-clause-bits c =
    let h : IsIn c.self.inside.slots.items (bit_of c.args.var c.args.word c.args.place) = subst (λ (m : MarkSet). IsIn m.slots (bit_of c.args.var
    c.args.word c.args.place)) (sym c.self.view_is) c.requires in
    let f : get_or c.self.inside.bits.items (number c.self.inside.slots.items (bit_of c.args.var c.args.word c.args.place)) false ≡ true =
    ap (λ i. get_or c.self.inside.bits.items i false) (sym (number_read c.self.inside.slots.items c.self.inside.bits.items c.self.inside.counts.items
    c.self.invariant c.args.var c.args.word c.args.place c.index-slot.result.now h c.index-slot.ensures))
    ∙ get_or_default c.self.inside.bits.items (c.index-slot.result.now.bit + (c.args.word * c.index-slot.result.now.width + c.args.place)) false
    c.index.result.now (number_inside c.self.inside.slots.items c.self.inside.bits.items c.self.inside.counts.items c.self.invariant c.args.var
    c.args.word c.args.place c.index-slot.result.now h c.index-slot.ensures)
    ∙ sym c.index.ensures ∙ c.if-not-index.false in
    subst (λ (m : MarkSet). (x : Bit) → IsIn m.slots x → has m x ≡ (is_same (bit_of c.args.var c.args.word c.args.place) x || has m x)) c.self.view_is (λ x
    i. there_has c.self.inside.slots.items c.self.inside.bits.items c.self.inside.counts.items c.self.invariant (bit_of c.args.var c.args.word
    c.args.place) x h i f)
