use Rattle.std.proofs.Common.{◌≡◌, sym, subst, arith, ◌+◌, ◌||◌, List, [], ◌∷◌}
use Rattle.flow_marks.specs.declared.slot.Slot.{Slot}
use Rattle.flow_marks.specs.Slots.{IsIn, is_in, row}
use Rattle.flow_marks.specs.Takes.{Takes, is_listed, spot_bit}
use Rattle.flow_marks.proofs.Taking.{takes_none, takes_more, takes_same, one_place}
use Rattle.flow_marks.proofs.Tests.{no_place}
use Rattle.flow_marks.proofs.trail.take_span.Goals as goal

pub loop-place-init : goal.loop-place-init
loop-place-init c = takes_none c.args.marks.now c.args.trail.now.items (is_in (row c.args.span c.args.span.word c.args.span.place))
    (λ b h e. absurd (cc (e, no_place c.args.span c.args.span.word b)))

pub take-requires : goal.take-requires
take-requires c = subst (λ (z : List Slot). IsIn z (spot_bit (record { var = c.args.span.var; word = c.args.span.word; place = c.loop-place.place }))) (sym
    c.loop-place.invariant.slots)
    (record {
      of_variable = c.requires.span.of_variable;
      of_word = omega (arith, c.requires.span.of_words, c.requires.one);
      in_width = omega (
        arith,
        c.requires.span.in_width,
      );
    })

pub loop-place-preserved : goal.loop-place-preserved
loop-place-preserved c =
    takes_same c.args.marks.now c.take.new.marks c.args.trail.now.items c.take.new.trail.items
    (λ b. is_in (row c.args.span c.args.span.word c.loop-place.place) b || is_listed (record {
      var = c.args.span.var;
      word = c.args.span.word;
      place =
          c.loop-place.place;
    } ∷ []) b)
    (is_in (row c.args.span c.args.span.word (c.loop-place.place + 1)))
    (λ b h. one_place c.args.span c.loop-place.place b (omega arith))
    (takes_more c.args.marks.now c.loop-place.marks c.take.new.marks c.args.trail.now.items c.loop-place.trail.items c.take.new.trail.items
    (is_in (row c.args.span c.args.span.word c.loop-place.place)) (λ b. is_listed (record {
      var = c.args.span.var;
      word = c.args.span.word;
      place =
          c.loop-place.place;
    } ∷ []) b)
    c.loop-place.invariant c.in_ok-take.ensures)

pub returns : goal.returns
returns c =
    let e : c.loop-place.place ≡ c.args.span.place_end = omega (arith, c.requires.span.places) in
    let f : c.args.span.word + 1 ≡ c.args.span.word_end = omega (arith, c.requires.one) in
    subst (λ n. Takes c.args.marks.now c.loop-place.marks c.args.trail.now.items c.loop-place.trail.items (is_in (record c.args.span {
      word_end = n;
      place_end = c.args.span.place_end;
    }))) f
    (subst (λ p. Takes c.args.marks.now c.loop-place.marks c.args.trail.now.items c.loop-place.trail.items (is_in (row c.args.span c.args.span.word p))) e
    c.loop-place.invariant)
