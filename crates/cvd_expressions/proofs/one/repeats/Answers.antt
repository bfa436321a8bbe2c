use Rattle.std.proofs.Common.{refl, sym, ◌∙◌}
use Rattle.cvd_expressions.proofs.Parts.{none_of, tells, operand, typed_repeat, width_repeat, depth_repeat}
use Rattle.cvd_expressions.proofs.one.repeats.Goals as goal

pub returns-then-not-is_width : goal.returns-then-not-is_width
returns-then-not-is_width c = λ d h.
    none_of d _ (typed_repeat d c.args.count c.args.of.tree _ _ (operand d c.args.of h c.args.of.tree refl) ∙ sym c.is_width.ensures ∙ c.if-not-is_width.true)

pub returns : goal.returns
returns c =
    let x = c.args.of.tree in
    let n = c.args.count in
    tells c.finished.result _ _
    (λ held f. λ d h.
    let o = operand d c.args.of h x refl in
    f d (typed_repeat d n x _ _ o ∙ sym c.is_width.ensures ∙ c.if-not-is_width.false) (width_repeat d n x _ _ o) (depth_repeat d n x _ _ o))
    c.finished.ensures
