use Rattle.std.proofs.Common.{sym, ◌∙◌}
use Rattle.cvd_expressions.proofs.Parts.{none_of, tells, typed_number, width_number, depth_number}
use Rattle.cvd_expressions.proofs.one.number.Goals as goal

pub returns-then-not-may_be_number : goal.returns-then-not-may_be_number
returns-then-not-may_be_number c = λ d.
    none_of d _ (typed_number d c.args.width c.args.value ∙ sym c.may_be_number.ensures ∙ c.if-not-may_be_number.true)

pub returns : goal.returns
returns c =
    let w = c.args.width in
    let n = c.args.value in
    tells c.finished.result _ _
    (λ held f. λ d. f d (typed_number d w n ∙ sym c.may_be_number.ensures ∙ c.if-not-may_be_number.false) (width_number d w n) (depth_number d w n))
    c.finished.ensures
