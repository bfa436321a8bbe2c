use Rattle.std.proofs.Common.{◌≡◌, ◌∙◌, sym, ap, subst, refl, length, List, arith}
use Rattle.design_tree.specs.declared.design.Design.{Design}
use Rattle.flow_marks.specs.declared.slot.Slot.{Slot}
use Rattle.flow_marks.specs.declared.span.Span.{Span}
use Rattle.flow_marks.specs.Slots.{IsSpan, before, size, wide}
use Rattle.flow_edges.specs.declared.owners.Owners.{Owners}
use Rattle.flow_edges.specs.Stretches.{bits_of, columns_of}
use Rattle.flow_edges.specs.Owning.{IsOfWord, slots_of}
use Rattle.flow_edges.proofs.Numbers.{IsInside}
use Rattle.flow_edges.proofs.Linked.{in_slots, columns_inside, bits_inside, rows_are, span_word}
use Rattle.flow_edges.proofs.links.link_word.Goals as goal

pub columns_of-columns-requires-clause-span : goal.columns_of-columns-requires-clause-span
columns_of-columns-requires-clause-span c =
    let d : Design = c.args.design.now in
    let o : Owners = c.args.owners.now in
    let s : Span = c.args.span in
    let slots : c.as_slice-slots.result.now ≡ slots_of d = c.as_slice-slots.ensures.value ∙ c.requires.owners.slots in
    subst (λ (slots : List Slot). IsSpan slots s) (sym slots) (in_slots d o c.requires.owners s c.requires.span c.args.q)

pub bits_of-bits-requires-clause-span : goal.bits_of-bits-requires-clause-span
bits_of-bits-requires-clause-span c =
    let d : Design = c.args.design.now in
    let o : Owners = c.args.owners.now in
    let s : Span = c.args.span in
    let slots : c.as_slice-slots.result.now ≡ slots_of d = c.as_slice-slots.ensures.value ∙ c.requires.owners.slots in
    subst (λ (slots : List Slot). IsSpan slots s) (sym slots) (in_slots d o c.requires.owners s c.requires.span c.args.q)

pub link_rows-requires-clause-inside : goal.link_rows-requires-clause-inside
link_rows-requires-clause-inside c =
    let d : Design = c.args.design.now in
    let o : Owners = c.args.owners.now in
    let s : Span = c.args.span in
    let slots : c.as_slice-slots.result.now ≡ slots_of d = c.as_slice-slots.ensures.value ∙ c.requires.owners.slots in
    let bits : c.bits_of-bits.result ≡ bits_of (slots_of d) s =
    c.bits_of-bits.ensures ∙ ap (λ (slots : List Slot). bits_of slots s) slots in
    let one : IsOfWord s = omega (arith, c.requires.one) in
    let i : IsInside c.bits_of-bits.result (before size o.slots.items (length o.slots.items)) =
    bits_inside d o c.requires.owners s c.requires.span c.args.q c.bits_of-bits.result one bits in
    omega (arith, i.below, c.requires.owners.table.bits)

pub link_rows-requires-clause-below : goal.link_rows-requires-clause-below
link_rows-requires-clause-below c = c.requires.owners.bits_below

pub link_rows-requires-2-clause-inside : goal.link_rows-requires-2-clause-inside
link_rows-requires-2-clause-inside c =
    let d : Design = c.args.design.now in
    let o : Owners = c.args.owners.now in
    let s : Span = c.args.span in
    let slots : c.as_slice-slots.result.now ≡ slots_of d = c.as_slice-slots.ensures.value ∙ c.requires.owners.slots in
    let columns : c.columns_of-columns.result ≡ columns_of (slots_of d) s =
    c.columns_of-columns.ensures ∙ ap (λ (slots : List Slot). columns_of slots s) slots in
    let i : IsInside c.columns_of-columns.result (before wide o.slots.items (length o.slots.items)) =
    columns_inside d o c.requires.owners s c.requires.span c.args.q c.columns_of-columns.result columns in
    omega (arith, i.below, c.requires.owners.table.whole)

pub link_rows-requires-2-clause-below : goal.link_rows-requires-2-clause-below
link_rows-requires-2-clause-below c = c.requires.owners.whole_below

pub returns : goal.returns
returns c =
    let d : Design = c.args.design.now in
    let o : Owners = c.args.owners.now in
    let s : Span = c.args.span in
    let slots : c.as_slice-slots.result.now ≡ slots_of d = c.as_slice-slots.ensures.value ∙ c.requires.owners.slots in
    let columns : c.columns_of-columns.result ≡ columns_of (slots_of d) s =
    c.columns_of-columns.ensures ∙ ap (λ (slots : List Slot). columns_of slots s) slots in
    let bits : c.bits_of-bits.result ≡ bits_of (slots_of d) s =
    c.bits_of-bits.ensures ∙ ap (λ (slots : List Slot). bits_of slots s) slots in
    let one : IsOfWord s = omega (arith, c.requires.one) in
    span_word d o c.requires.owners s c.requires.span c.args.q one c.args.next.now.items c.link_rows.new.next.items
    c.link_rows-2.new.next.items
    (rows_are d o.bits o.bits c.bits_of-bits.result (bits_of (slots_of d) s) c.args.q c.args.next.now.items
    c.link_rows.new.next.items refl bits c.in_ok-link_rows.ensures)
    (rows_are d o.whole o.whole c.columns_of-columns.result (columns_of (slots_of d) s) c.args.q c.link_rows.new.next.items
    c.link_rows-2.new.next.items refl columns c.in_ok-link_rows-2.ensures)
