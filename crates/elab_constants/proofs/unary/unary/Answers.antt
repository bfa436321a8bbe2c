use Rattle.std.proofs.Common.{ap, ◌∙◌, false, []}
use Rattle.source_meaning.specs.Meaning.{own}
use Rattle.elab_constants.specs.Operators.{reduction}
use Rattle.elab_constants.proofs.Sizes.{number_is}
use Rattle.elab_constants.proofs.Operators.{reduction_is}
use Rattle.elab_constants.proofs.unary.unary.Goals as goal

pub returns-in-Minus : goal.returns-in-Minus
returns-in-Minus c = λ a s. rw c.in-Minus.is (c.negative.ensures a s)

pub returns-in-Complement : goal.returns-in-Complement
returns-in-Complement c = λ a s. rw c.in-Complement.is (c.complement.ensures a s)

pub returns-in_default : goal.returns-in_default
returns-in_default c = λ a s.
    let op = c.args.op in
    let bits = c.own.result in
    reduction_is op a c.number.result c.in_default.not-Plus c.in_default.not-Minus c.in_default.not-Complement
    (number_is 1 (reduction op a.size (own a [])) false c.number.result c.reduction.result.width c.reduction.result.bits c.number.ensures
    c.reduction.ensures.width
    (c.reduction.ensures.value ∙ ap (λ w. reduction op w bits.bits) (c.own.ensures.width ∙ s.size) ∙ ap (reduction op a.size) (c.own.ensures.value a s)))
