use Rattle.std.proofs.Common.{◌∙◌, ap, sym, subst, arith, rules}
use Rattle.design_tree.specs.declared.typed.Typed.{the_lemmas}
use Rattle.design_meaning.specs.Values.{value_in}
use Rattle.design_state.specs.InDesign.{IsTypedIn}
use Rattle.design_state.proofs.Typings as typing
use Rattle.design_state.proofs.evaluate.+value.Goals as goal

pub position_at-value-requires : goal.position_at-value-requires
position_at-value-requires t c = (
  first_of (search (rules, the_lemmas), grind (arith, the_lemmas)),
  subst (IsTypedIn c.args.state.now) (sym c.get.ensures) (typing.of_index c.args.state.now c.args.at.now c.requires),
)

pub value-invariant_of-result : goal.value-invariant_of-result
value-invariant_of-result t c =
    let k = typing.number_width c.args.state.now c.in-Number.width c.in-Number.value (rw c.in-Number.is at c.requires) in
    record { at_least = k.0; at_most = k.1; fits = k.2 }

pub value-word-requires : goal.value-word-requires
value-word-requires t c = typing.var_within c.args.state.now c.in-Var.var (rw c.in-Var.is at c.requires)

pub value-word-requires-in-Word : goal.value-word-requires-in-Word
value-word-requires-in-Word t c = typing.word_within c.args.state.now c.in-Word.var c.in-Word.at (rw c.in-Word.is at c.requires)

pub value-position_at-requires : goal.value-position_at-requires
value-position_at-requires t c = (
  first_of (search (rules, the_lemmas), grind (arith, the_lemmas)),
  typing.word_index c.args.state.now c.in-Word.var c.in-Word.at (rw c.in-Word.is at c.requires),
)

pub value-position_at-requires-in-Part : goal.value-position_at-requires-in-Part
value-position_at-requires-in-Part t c = (
  first_of (search (rules, the_lemmas), grind (arith, the_lemmas)),
  typing.part_index c.args.state.now c.in-Part.width c.in-Part.of c.in-Part.at (rw c.in-Part.is at c.requires),
)

pub value-selected-requires-clause-some : goal.value-selected-requires-clause-some
value-selected-requires-clause-some t c = (typing.part_width c.args.state.now c.in-Part.width c.in-Part.of c.in-Part.at (rw c.in-Part.is at c.requires)).0

pub value-selected-requires-clause-most : goal.value-selected-requires-clause-most
value-selected-requires-clause-most t c = (typing.part_width c.args.state.now c.in-Part.width c.in-Part.of c.in-Part.at (rw c.in-Part.is at c.requires)).1

pub value-value-requires : goal.value-value-requires
value-value-requires t c = (
  first_of (search (rules, the_lemmas), grind (arith, the_lemmas)),
  subst (IsTypedIn c.args.state.now) (sym c.get.ensures)
      (typing.part_of c.args.state.now c.in-Part.width c.in-Part.of c.in-Part.at (rw c.in-Part.is at c.requires)),
)

pub value-value-requires-in-ZeroExtend : goal.value-value-requires-in-ZeroExtend
value-value-requires-in-ZeroExtend t c = (
  first_of (search (rules, the_lemmas), grind (arith, the_lemmas)),
  subst (IsTypedIn c.args.state.now) (sym c.get-in-ZeroExtend.ensures)
      (typing.zero_of c.args.state.now c.in-ZeroExtend.width c.in-ZeroExtend.of (rw c.in-ZeroExtend.is at c.requires)),
)

pub value-extend-requires-clause-at_least : goal.value-extend-requires-clause-at_least
value-extend-requires-clause-at_least t c =
    let v = c.value-in-ZeroExtend.result in
    (typing.zero_width c.args.state.now c.in-ZeroExtend.width c.in-ZeroExtend.of v.width v.bits (rw c.in-ZeroExtend.is at c.requires)
    (ap (value_in c.args.state.now) (sym c.get-in-ZeroExtend.ensures) ∙ c.value-in-ZeroExtend.ensures)).0

pub value-extend-requires-clause-at_most : goal.value-extend-requires-clause-at_most
value-extend-requires-clause-at_most t c =
    let v = c.value-in-ZeroExtend.result in
    (typing.zero_width c.args.state.now c.in-ZeroExtend.width c.in-ZeroExtend.of v.width v.bits (rw c.in-ZeroExtend.is at c.requires)
    (ap (value_in c.args.state.now) (sym c.get-in-ZeroExtend.ensures) ∙ c.value-in-ZeroExtend.ensures)).1

pub value-value-requires-in-SignExtend : goal.value-value-requires-in-SignExtend
value-value-requires-in-SignExtend t c = (
  first_of (search (rules, the_lemmas), grind (arith, the_lemmas)),
  subst (IsTypedIn c.args.state.now) (sym c.get-in-SignExtend.ensures)
      (typing.sign_of c.args.state.now c.in-SignExtend.width c.in-SignExtend.of (rw c.in-SignExtend.is at c.requires)),
)

pub value-extend-requires-in-SignExtend-clause-at_least : goal.value-extend-requires-in-SignExtend-clause-at_least
value-extend-requires-in-SignExtend-clause-at_least t c =
    let v = c.value-in-SignExtend.result in
    (typing.sign_width c.args.state.now c.in-SignExtend.width c.in-SignExtend.of v.width v.bits (rw c.in-SignExtend.is at c.requires)
    (ap (value_in c.args.state.now) (sym c.get-in-SignExtend.ensures) ∙ c.value-in-SignExtend.ensures)).0

pub value-extend-requires-in-SignExtend-clause-at_most : goal.value-extend-requires-in-SignExtend-clause-at_most
value-extend-requires-in-SignExtend-clause-at_most t c =
    let v = c.value-in-SignExtend.result in
    (typing.sign_width c.args.state.now c.in-SignExtend.width c.in-SignExtend.of v.width v.bits (rw c.in-SignExtend.is at c.requires)
    (ap (value_in c.args.state.now) (sym c.get-in-SignExtend.ensures) ∙ c.value-in-SignExtend.ensures)).1

pub value-value-requires-in-Truncate : goal.value-value-requires-in-Truncate
value-value-requires-in-Truncate t c = (
  first_of (search (rules, the_lemmas), grind (arith, the_lemmas)),
  subst (IsTypedIn c.args.state.now) (sym c.get-in-Truncate.ensures)
      (typing.truncate_of c.args.state.now c.in-Truncate.width c.in-Truncate.of (rw c.in-Truncate.is at c.requires)),
)

pub value-truncate-requires-clause-at_least : goal.value-truncate-requires-clause-at_least
value-truncate-requires-clause-at_least t c =
    let v = c.value-in-Truncate.result in
    (typing.truncate_width c.args.state.now c.in-Truncate.width c.in-Truncate.of v.width v.bits (rw c.in-Truncate.is at c.requires)
    (ap (value_in c.args.state.now) (sym c.get-in-Truncate.ensures) ∙ c.value-in-Truncate.ensures)).0

pub value-truncate-requires-clause-at_most : goal.value-truncate-requires-clause-at_most
value-truncate-requires-clause-at_most t c =
    let v = c.value-in-Truncate.result in
    (typing.truncate_width c.args.state.now c.in-Truncate.width c.in-Truncate.of v.width v.bits (rw c.in-Truncate.is at c.requires)
    (ap (value_in c.args.state.now) (sym c.get-in-Truncate.ensures) ∙ c.value-in-Truncate.ensures)).1

pub value-value-requires-in-Unary : goal.value-value-requires-in-Unary
value-value-requires-in-Unary t c = (
  first_of (search (rules, the_lemmas), grind (arith, the_lemmas)),
  subst (IsTypedIn c.args.state.now) (sym c.get-in-Unary.ensures)
      (typing.unary_of c.args.state.now c.in-Unary.op c.in-Unary.of (rw c.in-Unary.is at c.requires)),
)

pub value-value-requires-in-Binary : goal.value-value-requires-in-Binary
value-value-requires-in-Binary t c = (
  first_of (search (rules, the_lemmas), grind (arith, the_lemmas)),
  subst (IsTypedIn c.args.state.now) (sym c.get-in-Binary.ensures)
      (typing.binary_left c.args.state.now c.in-Binary.op c.in-Binary.left c.in-Binary.right (rw c.in-Binary.is at c.requires)),
)

pub value-value-requires-in-Binary-2 : goal.value-value-requires-in-Binary-2
value-value-requires-in-Binary-2 t c = (
  first_of (search (rules, the_lemmas), grind (arith, the_lemmas)),
  subst (IsTypedIn c.args.state.now) (sym c.get-in-Binary-2.ensures)
      (typing.binary_right c.args.state.now c.in-Binary.op c.in-Binary.left c.in-Binary.right (rw c.in-Binary.is at c.requires)),
)

pub value-binary-requires : goal.value-binary-requires
value-binary-requires t c =
    let v = c.value-in-Binary.result in
    let w = c.value-in-Binary-2.result in
    typing.binary_widths c.args.state.now c.in-Binary.op c.in-Binary.left c.in-Binary.right v.width v.bits w.width w.bits (rw c.in-Binary.is at c.requires)
    (ap (value_in c.args.state.now) (sym c.get-in-Binary.ensures) ∙ c.value-in-Binary.ensures)
    (ap (value_in c.args.state.now) (sym c.get-in-Binary-2.ensures) ∙ c.value-in-Binary-2.ensures)

pub value-value-requires-in-Join : goal.value-value-requires-in-Join
value-value-requires-in-Join t c = (
  first_of (search (rules, the_lemmas), grind (arith, the_lemmas)),
  subst (IsTypedIn c.args.state.now) (sym c.get-in-Join.ensures)
      (typing.join_high c.args.state.now c.in-Join.high c.in-Join.low (rw c.in-Join.is at c.requires)),
)

pub value-value-requires-in-Join-2 : goal.value-value-requires-in-Join-2
value-value-requires-in-Join-2 t c = (
  first_of (search (rules, the_lemmas), grind (arith, the_lemmas)),
  subst (IsTypedIn c.args.state.now) (sym c.get-in-Join-2.ensures)
      (typing.join_low c.args.state.now c.in-Join.high c.in-Join.low (rw c.in-Join.is at c.requires)),
)

pub value-concat-requires : goal.value-concat-requires
value-concat-requires t c =
    let v = c.value-in-Join.result in
    let w = c.value-in-Join-2.result in
    typing.join_width c.args.state.now c.in-Join.high c.in-Join.low v.width v.bits w.width w.bits (rw c.in-Join.is at c.requires)
    (ap (value_in c.args.state.now) (sym c.get-in-Join.ensures) ∙ c.value-in-Join.ensures)
    (ap (value_in c.args.state.now) (sym c.get-in-Join-2.ensures) ∙ c.value-in-Join-2.ensures)

pub value-value-requires-in-Repeat : goal.value-value-requires-in-Repeat
value-value-requires-in-Repeat t c = (
  first_of (search (rules, the_lemmas), grind (arith, the_lemmas)),
  subst (IsTypedIn c.args.state.now) (sym c.get-in-Repeat.ensures)
      (typing.repeat_of c.args.state.now c.in-Repeat.count c.in-Repeat.of (rw c.in-Repeat.is at c.requires)),
)

pub value-repeated-requires-clause-some : goal.value-repeated-requires-clause-some
value-repeated-requires-clause-some t c =
    let v = c.value-in-Repeat.result in
    (typing.repeat_width c.args.state.now c.in-Repeat.count c.in-Repeat.of v.width v.bits (rw c.in-Repeat.is at c.requires)
    (ap (value_in c.args.state.now) (sym c.get-in-Repeat.ensures) ∙ c.value-in-Repeat.ensures)).0

pub value-repeated-requires-clause-most : goal.value-repeated-requires-clause-most
value-repeated-requires-clause-most t c =
    let v = c.value-in-Repeat.result in
    (typing.repeat_width c.args.state.now c.in-Repeat.count c.in-Repeat.of v.width v.bits (rw c.in-Repeat.is at c.requires)
    (ap (value_in c.args.state.now) (sym c.get-in-Repeat.ensures) ∙ c.value-in-Repeat.ensures)).1

pub value-value-requires-in-Choose : goal.value-value-requires-in-Choose
value-value-requires-in-Choose t c = (
  first_of (search (rules, the_lemmas), grind (arith, the_lemmas)),
  subst (IsTypedIn c.args.state.now) (sym c.get-in-Choose.ensures)
      (typing.choose_test c.args.state.now c.in-Choose.test c.in-Choose.yes c.in-Choose.no (rw c.in-Choose.is at c.requires)),
)

pub value-value-requires-then-value-eq0 : goal.value-value-requires-then-value-eq0
value-value-requires-then-value-eq0 t c = (
  first_of (search (rules, the_lemmas), grind (arith, the_lemmas)),
  subst (IsTypedIn c.args.state.now) (sym c.get-then-value-eq0.ensures)
      (typing.choose_right c.args.state.now c.in-Choose.test c.in-Choose.yes c.in-Choose.no (rw c.in-Choose.is at c.requires)),
)

pub value-value-requires-in-Choose-2 : goal.value-value-requires-in-Choose-2
value-value-requires-in-Choose-2 t c = (
  first_of (search (rules, the_lemmas), grind (arith, the_lemmas)),
  subst (IsTypedIn c.args.state.now) (sym c.get-in-Choose-2.ensures)
      (typing.choose_left c.args.state.now c.in-Choose.test c.in-Choose.yes c.in-Choose.no (rw c.in-Choose.is at c.requires)),
)
