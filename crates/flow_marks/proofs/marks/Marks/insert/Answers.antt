use Rattle.std.proofs.Common.{◌≡◌, ◌∙◌, sym, ap, subst, refl, arith, ◌||◌, List}
use Rattle.flow_marks.specs.declared.slot.Slot.{Slot}
use Rattle.flow_marks.specs.Slots.{IsIn, IsSpan, is_in, column, columns}
use Rattle.flow_marks.specs.Sets.{has}
use Rattle.flow_marks.proofs.Tests.{column_more, no_column, or_assoc}
use Rattle.flow_marks.proofs.marks.Marks.insert.Goals as goal

pub loop-place-init : goal.loop-place-init
loop-place-init c = record { slots = refl; bits = λ b h. rw (no_column c.args.span b) refl }

pub loop-place-preserved : goal.loop-place-preserved
loop-place-preserved c = record {
  slots = c.insert_column.ensures.slots ∙ c.loop-place.invariant.slots;
  bits = λ b h.
      c.insert_column.ensures.bits b (subst (λ (z : List Slot). IsIn z b) (sym c.loop-place.invariant.slots) h)
      ∙ ap (λ z. is_in (column c.args.span c.loop-place.place c.args.span.word_end) b || z) (c.loop-place.invariant.bits b h)
      ∙ or_assoc (is_in (column c.args.span c.loop-place.place c.args.span.word_end) b) (is_in (columns c.args.span c.loop-place.place) b) (has
      c.args.self.now b)
      ∙ ap (λ z. z || has c.args.self.now b) (sym (column_more c.args.span c.loop-place.place b (omega arith)));
}

pub insert_column-requires-clause-span : goal.insert_column-requires-clause-span
insert_column-requires-clause-span c = subst (λ (z : List Slot). IsSpan z c.args.span) (sym c.loop-place.invariant.slots) c.requires

pub returns-clause-bits : goal.returns-clause-bits
returns-clause-bits c = λ b h.
    let e : c.loop-place.place ≡ c.args.span.place_end = omega (arith, c.requires.places) in
    c.loop-place.invariant.bits b h ∙ ap (λ p. is_in (columns c.args.span p) b || has c.args.self.now b) e
