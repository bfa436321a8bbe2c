use Rattle.std.proofs.Common.{refl, sym, ◌∙◌}
use Rattle.cvd_expressions.proofs.Parts.{none_of, tells, operand, typed_choice, width_choice, depth_choice}
use Rattle.cvd_expressions.proofs.many.choice.Goals as goal

pub returns-then-not-may_choose : goal.returns-then-not-may_choose
returns-then-not-may_choose c = λ d h k l.
    none_of d _ (typed_choice d c.args.test.tree c.args.yes.tree c.args.no.tree _ _ _ _ _ _ (operand d c.args.test h c.args.test.tree refl)
    (operand d c.args.yes k c.args.yes.tree refl) (operand d c.args.no l c.args.no.tree refl) ∙ sym c.may_choose.ensures ∙ c.if-not-may_choose.true)

pub returns : goal.returns
returns c =
    let x = c.args.test.tree in
    let y = c.args.yes.tree in
    let z = c.args.no.tree in
    tells c.finished.result _ _
    (λ held f. λ d h k l.
    let o = operand d c.args.test h x refl in
    let p = operand d c.args.yes k y refl in
    let q = operand d c.args.no l z refl in
    f d (typed_choice d x y z _ _ _ _ _ _ o p q ∙ sym c.may_choose.ensures ∙ c.if-not-may_choose.false)
    (width_choice d x y z _ _ p) (c.above_all.ensures ∙ depth_choice d x y z _ _ _ _ _ _ o p q))
    c.finished.ensures
