use Rattle.std.proofs.Common.{refl, sym, ◌∙◌}
use Rattle.cvd_expressions.proofs.Parts.{none_of, tells, operand, typed_cut, width_cut, depth_cut}
use Rattle.cvd_expressions.proofs.one.cut.Goals as goal

pub returns-then-not-may_cut : goal.returns-then-not-may_cut
returns-then-not-may_cut c = λ d h.
    none_of d _ (typed_cut d c.args.width c.args.of.tree _ _ (operand d c.args.of h c.args.of.tree refl) ∙ sym c.may_cut.ensures ∙ c.if-not-may_cut.true)

pub returns : goal.returns
returns c =
    let x = c.args.of.tree in
    let w = c.args.width in
    tells c.finished.result _ _
    (λ held f. λ d h.
    let o = operand d c.args.of h x refl in
    f d (typed_cut d w x _ _ o ∙ sym c.may_cut.ensures ∙ c.if-not-may_cut.false) (width_cut d w x) (depth_cut d w x _ _ o))
    c.finished.ensures
