use Rattle.std.proofs.Common.{◌≡◌, ◌∙◌, sym, subst, ap, arith, List, length}
use Rattle.std.proofs.lemmas.List.{get_or_read}
use Rattle.flow_marks.specs.declared.slot.Slot.{Slot}
use Rattle.flow_marks.specs.Slots.{before, wide}
use Rattle.flow_uses.specs.Uses.{AreUsesOf, no_uses}
use Rattle.flow_edges.specs.Linking.{AreSized}
use Rattle.flow_edges.specs.Owning.{slots_of}
use Rattle.flow_edges.proofs.Grown.{ReadBelow, none_read, one_read, all_read, still_sized}
use Rattle.flow_edges.proofs.links.links_of.Goals as goal

pub loop-q-init : goal.loop-q-init
loop-q-init c = none_read c.args.design.now c.args.uses.now c.in_ok-links.links

pub link_process-requires-clause-uses : goal.link_process-requires-clause-uses
link_process-requires-clause-uses c =
    subst (AreUsesOf c.args.design.now c.loop-q.q)
    (sym (get_or_read c.args.uses.now c.loop-q.q c.index-uses-q.result c.loop-q-test.true c.index-uses-q.is no_uses))
    (c.requires.uses c.loop-q.q (omega (arith, c.loop-q-test.true, c.requires.many)))

pub link_process-requires-clause-sized : goal.link_process-requires-clause-sized
link_process-requires-clause-sized c =
    let wide_is : before wide c.args.owners.now.slots.items (length c.args.owners.now.slots.items)
    ≡ before wide (slots_of c.args.design.now) (length (slots_of c.args.design.now)) =
    ap (λ (slots : List Slot). before wide slots (length slots)) c.requires.owners.slots in
    let sized : AreSized c.args.design.now c.in_ok-links.links = record {
      next = c.in_ok-links.ensures.next ∙ c.requires.many;
      readers = omega (arith, c.in_ok-links.ensures.readers, c.len.ensures, c.requires.owners.table.columns, wide_is);
    } in
    still_sized c.args.design.now c.in_ok-links.links c.loop-q.links (ReadBelow c.args.design.now c.args.uses.now c.loop-q.q) sized c.loop-q.invariant

pub loop-q-preserved : goal.loop-q-preserved
loop-q-preserved c =
    one_read c.args.design.now c.args.uses.now c.in_ok-links.links c.loop-q.links c.link_process.new.links c.loop-q.q c.index-uses-q.result
    (get_or_read c.args.uses.now c.loop-q.q c.index-uses-q.result c.loop-q-test.true c.index-uses-q.is no_uses)
    c.loop-q.invariant c.in_ok-link_process.ensures

pub returns : goal.returns
returns c =
    let wide_is : before wide c.args.owners.now.slots.items (length c.args.owners.now.slots.items)
    ≡ before wide (slots_of c.args.design.now) (length (slots_of c.args.design.now)) =
    ap (λ (slots : List Slot). before wide slots (length slots)) c.requires.owners.slots in
    let sized : AreSized c.args.design.now c.in_ok-links.links = record {
      next = c.in_ok-links.ensures.next ∙ c.requires.many;
      readers = omega (arith, c.in_ok-links.ensures.readers, c.len.ensures, c.requires.owners.table.columns, wide_is);
    } in
    all_read c.args.design.now c.args.uses.now c.in_ok-links.links c.loop-q.links c.loop-q.q (omega (arith, c.loop-q-test.false, c.requires.many)) sized
    c.in_ok-links.ensures.none c.in_ok-links.ensures.unread c.loop-q.invariant
