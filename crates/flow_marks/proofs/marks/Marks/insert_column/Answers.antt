use Rattle.std.proofs.Common.{◌≡◌, ◌∙◌, sym, ap, subst, refl, arith, ◌||◌, List}
use Rattle.flow_marks.specs.declared.slot.Slot.{Slot}
use Rattle.flow_marks.specs.Slots.{IsIn, is_in, is_same, column}
use Rattle.flow_marks.specs.Sets.{has}
use Rattle.flow_marks.proofs.Kept.{bit_of}
use Rattle.flow_marks.proofs.Tests.{word_more, no_word, or_assoc}
use Rattle.flow_marks.proofs.marks.Marks.insert_column.Goals as goal

pub loop-word-init : goal.loop-word-init
loop-word-init c = record { slots = refl; bits = λ b h. rw (no_word c.args.span c.args.place b) refl }

pub loop-word-preserved : goal.loop-word-preserved
loop-word-preserved c = record {
  slots = c.add.ensures.slots ∙ c.loop-word.invariant.slots;
  bits = λ b h.
      c.add.ensures.bits b (subst (λ (z : List Slot). IsIn z b) (sym c.loop-word.invariant.slots) h)
      ∙ ap (λ z. is_same (bit_of c.args.span.var c.loop-word.word c.args.place) b || z) (c.loop-word.invariant.bits b h)
      ∙ or_assoc (is_same (bit_of c.args.span.var c.loop-word.word c.args.place) b) (is_in (column c.args.span c.args.place c.loop-word.word) b) (has
      c.args.self.now b)
      ∙ ap (λ z. z || has c.args.self.now b) (sym (word_more c.args.span c.args.place c.loop-word.word b (omega arith)));
}

pub add-requires : goal.add-requires
add-requires c = subst (λ (z : List Slot). IsIn z (bit_of c.args.span.var c.loop-word.word c.args.place)) (sym c.loop-word.invariant.slots)
    (record {
      of_variable = c.requires.span.of_variable;
      of_word = omega (arith, c.requires.span.of_words);
      in_width = omega (arith, c.requires.span.in_width, c.requires.place);
    })
