use Rattle.std.proofs.Common.{◌≡◌, ◌∙◌, sym, refl, arith, inl, inr}
use Rattle.std.proofs.lemmas.Bool.{cases_lt}
use Rattle.flow_marks.proofs.Kept.{bit_of}
use Rattle.flow_marks.proofs.Tests.{is_within}
use Rattle.flow_marks.proofs.marks.Marks.meets_word.Goals as goal

pub has-requires : goal.has-requires
has-requires c = record {
  of_variable = c.requires.span.of_variable;
  of_word = omega (arith, c.requires.span.of_words, c.requires.one);
  in_width = omega (arith, c.requires.span.in_width);
}

pub loop-place-preserved : goal.loop-place-preserved
loop-place-preserved c = λ p a b. elim (cases_lt p c.loop-place.place) [
  | inl h ↦ c.loop-place.invariant p a h
  | inr h ↦ (let e : p ≡ c.loop-place.place = omega arith in rw e (sym c.has.ensures ∙ c.if-has.false))
]

pub returns-then-has : goal.returns-then-has
returns-then-has c = (
  λ t. record {
    common = bit_of c.args.span.var c.args.span.word c.loop-place.place;
    here = record {
      of_variable = c.requires.span.of_variable;
      of_word = omega (arith, c.requires.span.of_words, c.requires.one);
      in_width = omega (arith, c.requires.span.in_width);
    };
    within = is_within c.args.span c.args.span.word c.loop-place.place (omega arith) (omega (arith, c.requires.one)) (omega arith) (omega arith);
    in_set = sym c.has.ensures ∙ c.if-has.true;
  },
  λ t. refl,
)
