use Rattle.std.proofs.Common.{◌≡◌, sym, subst, refl, arith, ◌<◌, inl, inr, true}
use Rattle.std.proofs.lemmas.Bool.{cases_lt}
use Rattle.flow_marks.specs.Slots.{slot_of}
use Rattle.flow_marks.specs.Sets.{has, HasInColumn}
use Rattle.flow_marks.proofs.Kept.{bit_of}
use Rattle.flow_marks.proofs.Tests.{Within, within, is_within}
use Rattle.flow_marks.proofs.marks.Marks.meets_columns.Goals as goal

pub has_in_column-requires : goal.has_in_column-requires
has_in_column-requires c = record { of_variable = c.requires.span.of_variable; in_width = omega (arith, c.requires.span.in_width) }

pub loop-place-preserved : goal.loop-place-preserved
loop-place-preserved c = λ p a b x. elim (cases_lt p c.loop-place.place) [
  | inl h ↦ c.loop-place.invariant p a h x
  | inr h ↦ (let e : p ≡ c.loop-place.place = omega arith in
      let y : c.has_in_column.result ≡ true = c.has_in_column.ensures.1 (subst (λ q. HasInColumn c.args.self.now c.args.span.var q) e x) in absurd (cc (
        y,
        c.if-has_in_column.false,
      )))
]

pub returns-then-has_in_column : goal.returns-then-has_in_column
returns-then-has_in_column c =
    let x : HasInColumn c.args.self.now c.args.span.var c.loop-place.place = c.has_in_column.ensures.0 c.if-has_in_column.true in
    let l : x.0 < (slot_of c.args.self.now.slots c.args.span.var).words = x.1 in (
      λ t. record {
        common = bit_of c.args.span.var x.0 c.loop-place.place;
        here = record { of_variable = c.requires.span.of_variable; of_word = l; in_width = omega (arith, c.requires.span.in_width) };
        within = is_within c.args.span x.0 c.loop-place.place (omega (arith, c.requires.all.0)) (omega (arith, c.requires.all.1)) (omega arith) (omega arith);
        in_set = x.2;
      },
      λ t. refl,
    )

pub returns : goal.returns
returns c = (
  λ t. absurd (cc t),
  λ m.
      let i : Within c.args.span m.common = within c.args.span m.common m.within in
      absurd (c.loop-place.invariant m.common.place i.place (omega (arith, i.place_end, c.requires.span.places)) (
        m.common.word,
        subst (λ v. m.common.word < (slot_of c.args.self.now.slots v).words) (sym i.var) m.here.of_word,
        subst (λ v. has c.args.self.now (bit_of v m.common.word m.common.place) ≡ true) (sym i.var) m.in_set,
      )),
)
