use Rattle.std.proofs.Common.{refl, sym, ◌∙◌, arith}
use Rattle.cvd_expressions.proofs.Parts.{none_of, tells, operand, typed_part, width_part, depth_part}
use Rattle.cvd_expressions.proofs.many.part.Goals as goal

pub returns-then-not-is_width : goal.returns-then-not-is_width
returns-then-not-is_width c = λ d h k.
    none_of d _ (typed_part d c.args.width c.args.low c.args.signed c.args.of.tree c.args.value.tree _ _ _ _
    (operand d c.args.of h c.args.of.tree refl) (operand d c.args.value k c.args.value.tree refl) (omega arith) ∙ sym c.is_width.ensures
    ∙ c.if-not-is_width.true)

pub returns : goal.returns
returns c =
    let w = c.args.width in
    let low = c.args.low in
    let x = c.args.of.tree in
    let y = c.args.value.tree in
    tells c.finished.result _ _
    (λ held f. λ d h k.
    let o = operand d c.args.of h x refl in
    let p = operand d c.args.value k y refl in
    f d (typed_part d w low c.args.signed x y _ _ _ _ o p (omega arith) ∙ sym c.is_width.ensures ∙ c.if-not-is_width.false)
    (width_part d w low c.args.signed x y) (c.above.ensures ∙ depth_part d w low c.args.signed x y _ _ _ _ o p))
    c.finished.ensures
