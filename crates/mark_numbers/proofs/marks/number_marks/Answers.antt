use Rattle.std.proofs.Common.{ℕ, ◌+◌, [], ◌∷◌, ◌++◌, take, sym, subst, ap, ◌∙◌, arith}
use Rattle.mark_numbers.proofs.Counting as counting
use Rattle.mark_numbers.proofs.marks.number_marks.Goals as goal

pub loop-mark-init : goal.loop-mark-init
loop-mark-init c = counting.none_yet c.args.first c.args.marks.now c.new-numbers.result c.new-numbers.ensures

pub loop-mark-preserved : goal.loop-mark-preserved
loop-mark-preserved c =
    subst (λ (k : ℕ). counting.AreNumbered (take (c.loop-mark.mark-index + 1) c.args.marks.now) c.args.first (c.loop-mark.next + k) c.push.new.self)
    (sym c.from-next.ensures)
    (counting.next_mark c.args.marks.now c.loop-mark.mark-index c.args.first c.loop-mark.next c.loop-mark.numbers c.push.new.self
    c.loop-mark-test.true c.loop-mark.invariant
    (c.in_ok-push.ensures.ok ∙ ap (λ x. c.loop-mark.numbers ++ x ∷ []) c.then_some.ensures))

pub overflow_add-next : goal.overflow_add-next
overflow_add-next c =
    let e = c.from-next.ensures in
    let h = counting.room_for_one c.args.marks.now c.loop-mark.mark-index c.args.first c.loop-mark.next c.loop-mark.numbers c.loop-mark-test.true
    c.loop-mark.invariant in
    omega (arith, c.requires)

pub returns : goal.returns
returns c =
    counting.all_numbered c.args.marks.now c.loop-mark.mark-index c.args.first c.loop-mark.next c.loop-mark.numbers c.loop-mark-test.false
    c.loop-mark.invariant
