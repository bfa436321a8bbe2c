use Rattle.std.proofs.Common.{◌≡◌, ◌∙◌, ap, subst, refl, List, length, arith}
use Rattle.flow_marks.specs.declared.slot.Slot.{Slot}
use Rattle.flow_marks.specs.Slots.{before, size, wide}
use Rattle.flow_edges.specs.declared.stretch.Stretch.{Stretch}
use Rattle.flow_hubs.specs.Adding.{Adds}
use Rattle.flow_edges.specs.Stretches.{IsAmong, bits_of, columns_of}
use Rattle.flow_edges.proofs.Numbers.{IsInside, column_stretch, bit_stretch}
use Rattle.flow_edges.proofs.Noting.{notes_word, notes_whole}
use Rattle.flow_edges.proofs.owners.own_span.Goals as goal

pub note_all-requires : goal.note_all-requires
note_all-requires c =
    let e : c.columns_of-columns.result ≡ columns_of c.args.owners.now.slots.items c.args.span =
    c.columns_of-columns.ensures ∙ ap (λ (slots : List Slot). columns_of slots c.args.span) c.as_slice.ensures.value in
    let i : IsInside c.columns_of-columns.result (before wide c.args.owners.now.slots.items (length c.args.owners.now.slots.items)) =
    column_stretch c.args.owners.now.slots.items c.args.span c.columns_of-columns.result e c.requires.table.numbered c.requires.span in
    record { order = i.order; inside = omega (arith, i.below, c.requires.table.columns) }

pub note_all-requires-2 : goal.note_all-requires-2
note_all-requires-2 c =
    let e : c.columns_of-columns.result ≡ columns_of c.args.owners.now.slots.items c.args.span =
    c.columns_of-columns.ensures ∙ ap (λ (slots : List Slot). columns_of slots c.args.span) c.as_slice.ensures.value in
    let i : IsInside c.columns_of-columns.result (before wide c.args.owners.now.slots.items (length c.args.owners.now.slots.items)) =
    column_stretch c.args.owners.now.slots.items c.args.span c.columns_of-columns.result e c.requires.table.numbered c.requires.span in
    record { order = i.order; inside = omega (arith, i.below, c.requires.table.whole) }

pub note_all-requires-then-span : goal.note_all-requires-then-span
note_all-requires-then-span c =
    let e : c.bits_of-bits.result ≡ bits_of c.args.owners.now.slots.items c.args.span =
    c.bits_of-bits.ensures ∙ ap (λ (slots : List Slot). bits_of slots c.args.span) c.as_slice-then-span.ensures.value in
    let i : IsInside c.bits_of-bits.result (before size c.args.owners.now.slots.items (length c.args.owners.now.slots.items)) =
    bit_stretch c.args.owners.now.slots.items c.args.span c.bits_of-bits.result e c.requires.table.numbered c.requires.span (omega (arith, c.if-span.true)) in
    record { order = i.order; inside = omega (arith, i.below, c.requires.table.bits) }

pub returns-then-span : goal.returns-then-span
returns-then-span c =
    let columns : c.columns_of-columns.result ≡ columns_of c.args.owners.now.slots.items c.args.span =
    c.columns_of-columns.ensures ∙ ap (λ (slots : List Slot). columns_of slots c.args.span) c.as_slice.ensures.value in
    let bits : c.bits_of-bits.result ≡ bits_of c.args.owners.now.slots.items c.args.span =
    c.bits_of-bits.ensures ∙ ap (λ (slots : List Slot). bits_of slots c.args.span) c.as_slice-then-span.ensures.value in
    notes_word c.args.owners.now
    (record { slots = c.args.owners.now.slots; bits = c.note_all-then-span.new.rows; whole = c.args.owners.now.whole; columns = c.note_all.new.rows })
    c.args.span c.args.p refl refl (omega (arith, c.if-span.true))
    (subst (λ (r : Stretch). Adds c.args.owners.now.bits c.note_all-then-span.new.rows (λ i x. IsAmong r i × (x ≡ c.args.p))) bits
    c.in_ok-note_all-2.ensures)
    (subst (λ (r : Stretch). Adds c.args.owners.now.columns c.note_all.new.rows (λ i x. IsAmong r i × (x ≡ c.args.p))) columns
    c.in_ok-note_all.ensures)

pub returns : goal.returns
returns c =
    let columns : c.columns_of-columns.result ≡ columns_of c.args.owners.now.slots.items c.args.span =
    c.columns_of-columns.ensures ∙ ap (λ (slots : List Slot). columns_of slots c.args.span) c.as_slice.ensures.value in
    notes_whole c.args.owners.now
    (record { slots = c.args.owners.now.slots; bits = c.args.owners.now.bits; whole = c.note_all-2.new.rows; columns = c.note_all.new.rows })
    c.args.span c.args.p refl refl (λ one. absurd (omega (arith, c.if-span.false, one)))
    (subst (λ (r : Stretch). Adds c.args.owners.now.whole c.note_all-2.new.rows (λ i x. IsAmong r i × (x ≡ c.args.p))) columns
    c.in_ok-note_all-3.ensures)
    (subst (λ (r : Stretch). Adds c.args.owners.now.columns c.note_all.new.rows (λ i x. IsAmong r i × (x ≡ c.args.p))) columns
    c.in_ok-note_all.ensures)
