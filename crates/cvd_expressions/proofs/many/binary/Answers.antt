use Rattle.std.proofs.Common.{refl, sym, ◌∙◌}
use Rattle.cvd_expressions.proofs.Parts.{none_of, tells, operand, typed_binary, width_binary, depth_binary}
use Rattle.cvd_expressions.proofs.many.binary.Goals as goal

pub returns-then-not-may_meet : goal.returns-then-not-may_meet
returns-then-not-may_meet c = λ d h k.
    none_of d _ (typed_binary d c.args.op c.args.left.tree c.args.right.tree _ _ _ _ (operand d c.args.left h c.args.left.tree refl)
    (operand d c.args.right k c.args.right.tree refl) ∙ sym c.may_meet.ensures ∙ c.if-not-may_meet.true)

pub returns : goal.returns
returns c =
    let op = c.args.op in
    let x = c.args.left.tree in
    let y = c.args.right.tree in
    tells c.finished.result _ _
    (λ held f. λ d h k.
    let o = operand d c.args.left h x refl in
    let p = operand d c.args.right k y refl in
    f d (typed_binary d op x y _ _ _ _ o p ∙ sym c.may_meet.ensures ∙ c.if-not-may_meet.false)
    (c.binary_width.ensures ∙ width_binary d op x y _ _ o) (c.above.ensures ∙ depth_binary d op x y _ _ _ _ o p))
    c.finished.ensures
