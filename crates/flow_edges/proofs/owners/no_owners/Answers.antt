use Rattle.std.proofs.Common.{◌≡◌, ◌∙◌, sym, ap, subst, length, List}
use Rattle.flow_marks.specs.declared.slot.Slot.{Slot}
use Rattle.flow_marks.specs.Slots.{before, size, wide, all_bits, all_columns, IsLayout}
use Rattle.flow_edges.specs.Stretches.{AreNumbered}
use Rattle.flow_edges.proofs.Layouts.{are_numbered, bits_before, columns_before}
use Rattle.flow_edges.proofs.owners.no_owners.Goals as goal

pub returns : goal.returns
returns c =
    let l : IsLayout c.args.vars.now c.in_ok-slots.field-0.slots.items c.in_ok-slots.field-0.bits c.in_ok-slots.field-0.columns = c.in_ok-slots.ensures in
    let bits : before size c.in_ok-slots.field-0.slots.items (length c.in_ok-slots.field-0.slots.items) ≡ all_bits c.args.vars.now =
    ap (λ (slots : List Slot). before size slots (length slots)) l.slots_are ∙ bits_before c.args.vars.now c.requires in
    let columns : before wide c.in_ok-slots.field-0.slots.items (length c.in_ok-slots.field-0.slots.items) ≡ all_columns c.args.vars.now =
    ap (λ (slots : List Slot). before wide slots (length slots)) l.slots_are ∙ columns_before c.args.vars.now c.requires in
    record {
      slots = l.slots_are;
      table = record {
        numbered = subst AreNumbered (sym l.slots_are) (are_numbered c.args.vars.now c.requires);
        bits = c.in_ok-bits.ensures.many ∙ (l.bits_are ∙ sym bits);
        whole = c.in_ok-whole.ensures.many ∙ (l.columns_are ∙ sym columns);
        columns = c.in_ok-columns.ensures.many ∙ (l.columns_are ∙ sym columns);
      };
      bits = c.in_ok-bits.ensures.empty;
      whole = c.in_ok-whole.ensures.empty;
      columns = c.in_ok-columns.ensures.empty;
    }
