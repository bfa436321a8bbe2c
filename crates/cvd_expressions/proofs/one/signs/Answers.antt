use Rattle.std.proofs.Common.{refl, sym, ◌∙◌}
use Rattle.cvd_expressions.proofs.Parts.{none_of, tells, operand, typed_signs, width_signs, depth_signs}
use Rattle.cvd_expressions.proofs.one.signs.Goals as goal

pub returns-then-not-may_extend : goal.returns-then-not-may_extend
returns-then-not-may_extend c = λ d h.
    none_of d _ (typed_signs d c.args.width c.args.of.tree _ _ (operand d c.args.of h c.args.of.tree refl) ∙ sym c.may_extend.ensures ∙
    c.if-not-may_extend.true)

pub returns : goal.returns
returns c =
    let x = c.args.of.tree in
    let w = c.args.width in
    tells c.finished.result _ _
    (λ held f. λ d h.
    let o = operand d c.args.of h x refl in
    f d (typed_signs d w x _ _ o ∙ sym c.may_extend.ensures ∙ c.if-not-may_extend.false) (width_signs d w x) (depth_signs d w x _ _ o))
    c.finished.ensures
