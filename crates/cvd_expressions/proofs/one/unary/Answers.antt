use Rattle.std.proofs.Common.{refl, ◌∙◌}
use Rattle.cvd_expressions.proofs.Parts.{tells, operand, typed_unary, width_unary, depth_unary}
use Rattle.cvd_expressions.proofs.one.unary.Goals as goal

pub returns : goal.returns
returns c =
    let x = c.args.of.tree in
    let op = c.args.op in
    tells c.finished.result _ _
    (λ held f. λ d h.
    let o = operand d c.args.of h x refl in
    f d (typed_unary d op x _ _ o) (c.unary_width.ensures ∙ width_unary d op x _ _ o) (depth_unary d op x _ _ o))
    c.finished.ensures
