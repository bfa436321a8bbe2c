use Rattle.std.proofs.Common.{refl, sym, ◌∙◌}
use Rattle.cvd_expressions.proofs.Parts.{none_of, tells, operand, typed_join, width_join, depth_join}
use Rattle.cvd_expressions.proofs.many.join.Goals as goal

pub returns-then-not-is_width : goal.returns-then-not-is_width
returns-then-not-is_width c = λ d h k.
    none_of d _ (typed_join d c.args.high.tree c.args.low.tree _ _ _ _ (operand d c.args.high h c.args.high.tree refl)
    (operand d c.args.low k c.args.low.tree refl) ∙ sym c.is_width.ensures ∙ c.if-not-is_width.true)

pub returns : goal.returns
returns c =
    let x = c.args.high.tree in
    let y = c.args.low.tree in
    tells c.finished.result _ _
    (λ held f. λ d h k.
    let o = operand d c.args.high h x refl in
    let p = operand d c.args.low k y refl in
    f d (typed_join d x y _ _ _ _ o p ∙ sym c.is_width.ensures ∙ c.if-not-is_width.false) (width_join d x y _ _ _ _ o p)
    (c.above.ensures ∙ depth_join d x y _ _ _ _ o p))
    c.finished.ensures
