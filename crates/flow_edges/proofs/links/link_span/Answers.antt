use Rattle.std.proofs.Common.{◌≡◌, ◌∙◌, sym, ap, subst, refl, arith, List, length}
use Rattle.flow_hubs.specs.Adding.{Adds}
use Rattle.flow_marks.specs.declared.slot.Slot.{Slot}
use Rattle.flow_marks.specs.Slots.{IsSpan, before, wide}
use Rattle.flow_edges.specs.declared.stretch.Stretch.{Stretch}
use Rattle.flow_edges.specs.Stretches.{IsAmong, columns_of}
use Rattle.flow_edges.specs.Owning.{slots_of}
use Rattle.flow_edges.proofs.Numbers.{IsInside}
use Rattle.flow_edges.proofs.Linked.{in_slots, columns_within}
use Rattle.flow_edges.proofs.Grown.{grows_word, grows_all}
use Rattle.flow_edges.proofs.links.link_span.Goals as goal

pub link_word-requires-clause-many : goal.link_word-requires-clause-many
link_word-requires-clause-many c = c.requires.sized.next

pub columns_of-columns-requires-clause-span : goal.columns_of-columns-requires-clause-span
columns_of-columns-requires-clause-span c =
    subst (λ (slots : List Slot). IsSpan slots c.args.span) (sym (c.as_slice.ensures.value ∙ c.requires.owners.slots))
    (in_slots c.args.design.now c.args.owners.now c.requires.owners c.args.span c.requires.span c.args.q)

pub note_all-requires : goal.note_all-requires
note_all-requires c =
    let e : c.columns_of-columns.result ≡ columns_of (slots_of c.args.design.now) c.args.span =
    c.columns_of-columns.ensures ∙ ap (λ (slots : List Slot). columns_of slots c.args.span) (c.as_slice.ensures.value ∙ c.requires.owners.slots) in
    let i : IsInside c.columns_of-columns.result (before wide (slots_of c.args.design.now) (length (slots_of c.args.design.now))) =
    columns_within c.args.design.now c.args.owners.now c.requires.owners c.args.span c.requires.span c.args.q c.columns_of-columns.result e in
    record { order = i.order; inside = omega (arith, i.below, c.requires.sized.readers) }

pub returns-then-span : goal.returns-then-span
returns-then-span c =
    grows_word c.args.design.now c.args.links.now (record { next = c.link_word.new.next; readers = c.args.links.now.readers }) c.args.span c.args.q
    (omega (arith, c.if-span.true)) refl c.in_ok-link_word.ensures

pub returns : goal.returns
returns c =
    let e : c.columns_of-columns.result ≡ columns_of (slots_of c.args.design.now) c.args.span =
    c.columns_of-columns.ensures ∙ ap (λ (slots : List Slot). columns_of slots c.args.span) (c.as_slice.ensures.value ∙ c.requires.owners.slots) in
    grows_all c.args.design.now c.args.links.now (record { next = c.args.links.now.next; readers = c.note_all.new.rows }) c.args.span c.args.q
    (λ one. absurd (omega (arith, c.if-span.false, one))) refl
    (subst (λ (r : Stretch). Adds c.args.links.now.readers c.note_all.new.rows (λ i x. IsAmong r i × (x ≡ c.args.q))) e
    c.in_ok-note_all.ensures)
