use Rattle.std.proofs.Common.{◌≡◌, ◌∙◌, sym, ap, subst, arith, rules, ◌<◌, length}
use Rattle.design_tree.specs.declared.typed.Typed.{the_lemmas}
use Rattle.design_meaning.specs.Spans.{places_from}
use Rattle.design_state.specs.InDesign.{IsTypedIn, IsIndexIn}
use Rattle.design_state.specs.Positions.{offset}
use Rattle.design_state.proofs.Typings as typing
use Rattle.flow_spans.specs.Clips.{word_asked, places_asked}
use Rattle.flow_spans.specs.Asked.{constant}
use Rattle.flow_spans.proofs.Arms as arm
use Rattle.flow_spans.proofs.ReadBits as bits
use Rattle.flow_spans.proofs.reads.+reads.Goals as goal

pub fixed_position-reads_at-requires : goal.fixed_position-reads_at-requires
fixed_position-reads_at-requires t c = (
  first_of (search (rules, the_lemmas), grind (arith, the_lemmas)),
  (
    c.requires.known,
    subst (IsTypedIn
        c.args.state.now) (sym c.get.ensures) (typing.of_index c.args.state.now c.args.at.now c.requires.index),
  ),
)

pub fixed_position-returns-then-branch-clause-constant : goal.fixed_position-returns-then-branch-clause-constant
fixed_position-returns-then-branch-clause-constant t c = bits.position_is c.args.state.now c.args.at.now (offset c.position_at.result) (sym
    c.if-branch.true ∙ c.in_ok-reads_at.ensures.constant ∙ ap constant c.get.ensures) c.position_at.ensures

pub fixed_position-returns-then-branch-clause-reads : goal.fixed_position-returns-then-branch-clause-reads
fixed_position-returns-then-branch-clause-reads t c = arm.index_adds c.args.vars.now c.args.out.now.items c.reads_at.new.out.items c.args.at.now
    c.get.result.now c.get.ensures c.in_ok-reads_at.ensures.reads

pub fixed_position-returns-clause-reads : goal.fixed_position-returns-clause-reads
fixed_position-returns-clause-reads t c = arm.index_adds c.args.vars.now c.args.out.now.items c.reads_at.new.out.items c.args.at.now c.get.result.now
    c.get.ensures c.in_ok-reads_at.ensures.reads

pub reads_at-returns-in-Number-clause-reads : goal.reads_at-returns-in-Number-clause-reads
reads_at-returns-in-Number-clause-reads t c = arm.number_adds c.args.vars.now c.args.out.now.items c.in-Number.width c.in-Number.value c.args.e.now
    (places_asked c.args.asked) c.in-Number.is

pub reads_at-add-requires-clause-var : goal.reads_at-add-requires-clause-var
reads_at-add-requires-clause-var t c =
    let lt : c.in-Var.var < length c.args.state.now = typing.var_within c.args.state.now c.in-Var.var (rw c.in-Var.is at c.requires.typed) in
    subst (λ n. c.in-Var.var < n) c.requires.known.state.as_many lt

pub reads_at-returns-in-Var-clause-reads : goal.reads_at-returns-in-Var-clause-reads
reads_at-returns-in-Var-clause-reads t c = arm.var_adds c.args.vars.now c.args.out.now.items c.add.new.out.items c.in-Var.var c.args.e.now (places_asked
    c.args.asked) c.in-Var.is c.in_ok-add-in-Var.ensures

pub reads_at-fixed_position-requires : goal.reads_at-fixed_position-requires
reads_at-fixed_position-requires t c = (
  first_of (search (rules, the_lemmas), grind (arith, the_lemmas)),
  (
    c.requires.known,
    typing.word_index
        c.args.state.now c.in-Word.var c.in-Word.at (rw c.in-Word.is at c.requires.typed),
  ),
)

pub reads_at-add-requires-in-Word-clause-var : goal.reads_at-add-requires-in-Word-clause-var
reads_at-add-requires-in-Word-clause-var t c =
    let lt : c.in-Word.var < length c.args.state.now = typing.word_within c.args.state.now c.in-Word.var c.in-Word.at (rw c.in-Word.is at c.requires.typed) in
    subst (λ n. c.in-Word.var < n) c.requires.known.state.as_many lt

pub reads_at-returns-in-Word-clause-reads : goal.reads_at-returns-in-Word-clause-reads
reads_at-returns-in-Word-clause-reads t c = arm.word_adds c.args.vars.now c.args.out.now.items c.fixed_position.new.out.items c.add-in-Word.new.out.items
    c.in-Word.var c.in-Word.at c.args.e.now (places_asked c.args.asked) (word_asked c.in_ok-word-in-Word.word) c.in-Word.is
    c.in_ok-word-in-Word.ensures.constant c.in_ok-word-in-Word.ensures.reads c.in_ok-add-in-Word.ensures

pub reads_at-fixed_position-requires-in-Part : goal.reads_at-fixed_position-requires-in-Part
reads_at-fixed_position-requires-in-Part t c = (
  first_of (search (rules, the_lemmas), grind (arith, the_lemmas)),
  (
    c.requires.known,
    typing.part_index
        c.args.state.now c.in-Part.width c.in-Part.of c.in-Part.at (rw c.in-Part.is at c.requires.typed),
  ),
)

pub reads_at-reads_at-requires : goal.reads_at-reads_at-requires
reads_at-reads_at-requires t c = (
  first_of (search (rules, the_lemmas), grind (arith, the_lemmas)),
  (
    c.requires.known,
    subst (IsTypedIn c.args.state.now)
        (sym c.get.ensures) (typing.part_of c.args.state.now c.in-Part.width c.in-Part.of c.in-Part.at (rw c.in-Part.is at c.requires.typed)),
  ),
)

pub reads_at-returns-then-constant-clause-reads : goal.reads_at-returns-then-constant-clause-reads
reads_at-returns-then-constant-clause-reads t c = arm.part_adds c.args.vars.now c.args.out.now.items c.fixed_position-in-Part.new.out.items
    c.reads_at.new.out.items c.in-Part.width c.in-Part.of c.in-Part.at c.args.e.now c.get.result.now (places_asked c.args.asked) (places_asked
    c.places_of.result) c.in-Part.is c.get.ensures
    (c.places_of.ensures ∙ ap (λ p. places_from p c.in-Part.width) c.in_ok-at-in-Part.ensures.constant) c.in_ok-at-in-Part.ensures.reads
    c.in_ok-constant-in-Part.ensures.reads

pub reads_at-returns-else-constant-clause-reads : goal.reads_at-returns-else-constant-clause-reads
reads_at-returns-else-constant-clause-reads t c = arm.part_adds c.args.vars.now c.args.out.now.items c.fixed_position-in-Part.new.out.items
    c.reads_at.new.out.items c.in-Part.width c.in-Part.of c.in-Part.at c.args.e.now c.get.result.now (places_asked c.args.asked) (places_asked
    c.places_of.result) c.in-Part.is c.get.ensures
    (c.places_of.ensures ∙ ap (λ p. places_from p c.in-Part.width) c.in_ok-at-in-Part.ensures.constant) c.in_ok-at-in-Part.ensures.reads
    c.in_ok-constant-in-Part.ensures.reads

pub reads_at-reads_at-requires-in-ZeroExtend : goal.reads_at-reads_at-requires-in-ZeroExtend
reads_at-reads_at-requires-in-ZeroExtend t c = (
  first_of (search (rules, the_lemmas), grind (arith, the_lemmas)),
  (
    c.requires.known,
    subst (IsTypedIn
        c.args.state.now) (sym c.get-in-ZeroExtend.ensures) (typing.zero_of c.args.state.now c.in-ZeroExtend.width c.in-ZeroExtend.of (rw c.in-ZeroExtend.is at
        c.requires.typed)),
  ),
)

pub reads_at-returns-in-ZeroExtend-clause-reads : goal.reads_at-returns-in-ZeroExtend-clause-reads
reads_at-returns-in-ZeroExtend-clause-reads t c = arm.zero_adds c.args.vars.now c.args.out.now.items c.reads_at-in-ZeroExtend.new.out.items
    c.in-ZeroExtend.width c.in-ZeroExtend.of c.args.e.now c.get-in-ZeroExtend.result.now (places_asked c.args.asked) c.in-ZeroExtend.is
    c.get-in-ZeroExtend.ensures c.in_ok-constant-in-ZeroExtend.ensures.reads

pub reads_at-reads_at-requires-in-SignExtend : goal.reads_at-reads_at-requires-in-SignExtend
reads_at-reads_at-requires-in-SignExtend t c = (
  first_of (search (rules, the_lemmas), grind (arith, the_lemmas)),
  (
    c.requires.known,
    subst (IsTypedIn
        c.args.state.now) (sym c.get-in-SignExtend.ensures) (typing.sign_of c.args.state.now c.in-SignExtend.width c.in-SignExtend.of (rw c.in-SignExtend.is at
        c.requires.typed)),
  ),
)

pub reads_at-returns-in-SignExtend-clause-reads : goal.reads_at-returns-in-SignExtend-clause-reads
reads_at-returns-in-SignExtend-clause-reads t c = arm.sign_adds c.args.vars.now c.args.out.now.items c.reads_at-in-SignExtend.new.out.items
    c.in-SignExtend.width c.in-SignExtend.of c.args.e.now c.get-in-SignExtend.result.now (places_asked c.args.asked) c.in-SignExtend.is
    c.get-in-SignExtend.ensures c.in_ok-constant-in-SignExtend.ensures.reads

pub reads_at-reads_at-requires-in-Truncate : goal.reads_at-reads_at-requires-in-Truncate
reads_at-reads_at-requires-in-Truncate t c = (
  first_of (search (rules, the_lemmas), grind (arith, the_lemmas)),
  (
    c.requires.known,
    subst (IsTypedIn
        c.args.state.now) (sym c.get-in-Truncate.ensures) (typing.truncate_of c.args.state.now c.in-Truncate.width c.in-Truncate.of (rw c.in-Truncate.is at
        c.requires.typed)),
  ),
)

pub reads_at-returns-in-Truncate-clause-reads : goal.reads_at-returns-in-Truncate-clause-reads
reads_at-returns-in-Truncate-clause-reads t c = arm.truncate_adds c.args.vars.now c.args.out.now.items c.reads_at-in-Truncate.new.out.items
    c.in-Truncate.width c.in-Truncate.of c.args.e.now c.get-in-Truncate.result.now (places_asked c.args.asked) c.in-Truncate.is c.get-in-Truncate.ensures
    c.in_ok-constant-in-Truncate.ensures.reads

pub reads_at-reads_at-requires-in-Unary : goal.reads_at-reads_at-requires-in-Unary
reads_at-reads_at-requires-in-Unary t c = (
  first_of (search (rules, the_lemmas), grind (arith, the_lemmas)),
  (
    c.requires.known,
    subst (IsTypedIn
        c.args.state.now) (sym c.get-in-Unary.ensures) (typing.unary_of c.args.state.now c.in-Unary.op c.in-Unary.of (rw c.in-Unary.is at c.requires.typed)),
  ),
)

pub reads_at-returns-in-Unary-clause-reads : goal.reads_at-returns-in-Unary-clause-reads
reads_at-returns-in-Unary-clause-reads t c = arm.unary_adds c.args.vars.now c.args.out.now.items c.reads_at-in-Unary.new.out.items c.in-Unary.op
    c.in-Unary.of c.args.e.now c.get-in-Unary.result.now (places_asked c.args.asked) c.in-Unary.is c.get-in-Unary.ensures
    c.in_ok-constant-in-Unary.ensures.reads

pub reads_at-reads_at-requires-in-Repeat : goal.reads_at-reads_at-requires-in-Repeat
reads_at-reads_at-requires-in-Repeat t c = (
  first_of (search (rules, the_lemmas), grind (arith, the_lemmas)),
  (
    c.requires.known,
    subst (IsTypedIn
        c.args.state.now) (sym c.get-in-Repeat.ensures) (typing.repeat_of c.args.state.now c.in-Repeat.count c.in-Repeat.of (rw c.in-Repeat.is at
        c.requires.typed)),
  ),
)

pub reads_at-returns-in-Repeat-clause-reads : goal.reads_at-returns-in-Repeat-clause-reads
reads_at-returns-in-Repeat-clause-reads t c = arm.repeat_adds c.args.vars.now c.args.out.now.items c.reads_at-in-Repeat.new.out.items c.in-Repeat.count
    c.in-Repeat.of c.args.e.now c.get-in-Repeat.result.now (places_asked c.args.asked) c.in-Repeat.is c.get-in-Repeat.ensures
    c.in_ok-constant-in-Repeat.ensures.reads

pub reads_at-reads_at-requires-in-Binary : goal.reads_at-reads_at-requires-in-Binary
reads_at-reads_at-requires-in-Binary t c = (
  first_of (search (rules, the_lemmas), grind (arith, the_lemmas)),
  (
    c.requires.known,
    subst (IsTypedIn
        c.args.state.now) (sym c.get-in-Binary.ensures) (typing.binary_left c.args.state.now c.in-Binary.op c.in-Binary.left c.in-Binary.right (rw
        c.in-Binary.is at c.requires.typed)),
  ),
)

pub reads_at-reads_at-requires-in-Binary-2 : goal.reads_at-reads_at-requires-in-Binary-2
reads_at-reads_at-requires-in-Binary-2 t c = (
  first_of (search (rules, the_lemmas), grind (arith, the_lemmas)),
  (
    c.requires.known,
    subst (IsTypedIn
        c.args.state.now) (sym c.get-in-Binary-2.ensures) (typing.binary_right c.args.state.now c.in-Binary.op c.in-Binary.left c.in-Binary.right (rw
        c.in-Binary.is at c.requires.typed)),
  ),
)

pub reads_at-returns-then-first-clause-reads : goal.reads_at-returns-then-first-clause-reads
reads_at-returns-then-first-clause-reads t c = arm.binary_adds c.args.vars.now c.args.out.now.items c.reads_at-in-Binary.new.out.items
    c.reads_at-in-Binary-2.new.out.items c.in-Binary.op c.in-Binary.left c.in-Binary.right c.args.e.now c.get-in-Binary.result.now
    c.get-in-Binary-2.result.now (places_asked c.args.asked)
    c.in-Binary.is c.get-in-Binary.ensures c.get-in-Binary-2.ensures c.in_ok-first-in-Binary.ensures.reads c.in_ok-second-in-Binary.ensures.reads

pub reads_at-returns-else-first-clause-reads : goal.reads_at-returns-else-first-clause-reads
reads_at-returns-else-first-clause-reads t c = arm.binary_adds c.args.vars.now c.args.out.now.items c.reads_at-in-Binary.new.out.items
    c.reads_at-in-Binary-2.new.out.items c.in-Binary.op c.in-Binary.left c.in-Binary.right c.args.e.now c.get-in-Binary.result.now
    c.get-in-Binary-2.result.now (places_asked c.args.asked)
    c.in-Binary.is c.get-in-Binary.ensures c.get-in-Binary-2.ensures c.in_ok-first-in-Binary.ensures.reads c.in_ok-second-in-Binary.ensures.reads

pub reads_at-reads_at-requires-in-Join : goal.reads_at-reads_at-requires-in-Join
reads_at-reads_at-requires-in-Join t c = (
  first_of (search (rules, the_lemmas), grind (arith, the_lemmas)),
  (
    c.requires.known,
    subst (IsTypedIn
        c.args.state.now) (sym c.get-in-Join.ensures) (typing.join_high c.args.state.now c.in-Join.high c.in-Join.low (rw c.in-Join.is at c.requires.typed)),
  ),
)

pub reads_at-reads_at-requires-in-Join-2 : goal.reads_at-reads_at-requires-in-Join-2
reads_at-reads_at-requires-in-Join-2 t c = (
  first_of (search (rules, the_lemmas), grind (arith, the_lemmas)),
  (
    c.requires.known,
    subst (IsTypedIn
        c.args.state.now) (sym c.get-in-Join-2.ensures) (typing.join_low c.args.state.now c.in-Join.high c.in-Join.low (rw c.in-Join.is at c.requires.typed)),
  ),
)

pub reads_at-returns-then-first-2-clause-reads : goal.reads_at-returns-then-first-2-clause-reads
reads_at-returns-then-first-2-clause-reads t c = arm.join_adds c.args.vars.now c.args.out.now.items c.reads_at-in-Join.new.out.items
    c.reads_at-in-Join-2.new.out.items c.in-Join.high c.in-Join.low c.args.e.now c.get-in-Join.result.now c.get-in-Join-2.result.now (places_asked c.args.asked)
    c.in-Join.is c.get-in-Join.ensures c.get-in-Join-2.ensures c.in_ok-first-in-Join.ensures.reads c.in_ok-second-in-Join.ensures.reads

pub reads_at-returns-else-first-2-clause-reads : goal.reads_at-returns-else-first-2-clause-reads
reads_at-returns-else-first-2-clause-reads t c = arm.join_adds c.args.vars.now c.args.out.now.items c.reads_at-in-Join.new.out.items
    c.reads_at-in-Join-2.new.out.items c.in-Join.high c.in-Join.low c.args.e.now c.get-in-Join.result.now c.get-in-Join-2.result.now (places_asked c.args.asked)
    c.in-Join.is c.get-in-Join.ensures c.get-in-Join-2.ensures c.in_ok-first-in-Join.ensures.reads c.in_ok-second-in-Join.ensures.reads

pub reads_at-reads_at-requires-in-Choose : goal.reads_at-reads_at-requires-in-Choose
reads_at-reads_at-requires-in-Choose t c = (
  first_of (search (rules, the_lemmas), grind (arith, the_lemmas)),
  (
    c.requires.known,
    subst (IsTypedIn
        c.args.state.now) (sym c.get-in-Choose.ensures) (typing.choose_test c.args.state.now c.in-Choose.test c.in-Choose.yes c.in-Choose.no (rw c.in-Choose.is
        at c.requires.typed)),
  ),
)

pub reads_at-reads_at-requires-in-Choose-2 : goal.reads_at-reads_at-requires-in-Choose-2
reads_at-reads_at-requires-in-Choose-2 t c = (
  first_of (search (rules, the_lemmas), grind (arith, the_lemmas)),
  (
    c.requires.known,
    subst (IsTypedIn
        c.args.state.now) (sym c.get-in-Choose-2.ensures) (typing.choose_left c.args.state.now c.in-Choose.test c.in-Choose.yes c.in-Choose.no (rw
        c.in-Choose.is at c.requires.typed)),
  ),
)

pub reads_at-reads_at-requires-in-Choose-3 : goal.reads_at-reads_at-requires-in-Choose-3
reads_at-reads_at-requires-in-Choose-3 t c = (
  first_of (search (rules, the_lemmas), grind (arith, the_lemmas)),
  (
    c.requires.known,
    subst (IsTypedIn
        c.args.state.now) (sym c.get-in-Choose-3.ensures) (typing.choose_right c.args.state.now c.in-Choose.test c.in-Choose.yes c.in-Choose.no (rw
        c.in-Choose.is at c.requires.typed)),
  ),
)

pub reads_at-returns-then-second-clause-reads : goal.reads_at-returns-then-second-clause-reads
reads_at-returns-then-second-clause-reads t c = arm.choose_adds c.args.vars.now c.args.out.now.items c.reads_at-in-Choose.new.out.items
    c.reads_at-in-Choose-2.new.out.items c.reads_at-in-Choose-3.new.out.items c.in-Choose.test c.in-Choose.yes c.in-Choose.no c.args.e.now
    c.get-in-Choose.result.now
    c.get-in-Choose-2.result.now c.get-in-Choose-3.result.now (places_asked c.args.asked) c.in-Choose.is c.get-in-Choose.ensures c.get-in-Choose-2.ensures
    c.get-in-Choose-3.ensures c.in_ok-first-in-Choose.ensures.reads c.in_ok-second-in-Choose.ensures.reads c.in_ok-third-in-Choose.ensures.reads

pub reads_at-returns-else-second-clause-reads : goal.reads_at-returns-else-second-clause-reads
reads_at-returns-else-second-clause-reads t c = arm.choose_adds c.args.vars.now c.args.out.now.items c.reads_at-in-Choose.new.out.items
    c.reads_at-in-Choose-2.new.out.items c.reads_at-in-Choose-3.new.out.items c.in-Choose.test c.in-Choose.yes c.in-Choose.no c.args.e.now
    c.get-in-Choose.result.now
    c.get-in-Choose-2.result.now c.get-in-Choose-3.result.now (places_asked c.args.asked) c.in-Choose.is c.get-in-Choose.ensures c.get-in-Choose-2.ensures
    c.get-in-Choose-3.ensures c.in_ok-first-in-Choose.ensures.reads c.in_ok-second-in-Choose.ensures.reads c.in_ok-third-in-Choose.ensures.reads
