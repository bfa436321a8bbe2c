use Rattle.std.proofs.Common.{◌≡◌, sym, subst, Option}
use Rattle.std.specs.Prelude.{IfOk}
use Rattle.vlog_tree.specs.declared.expression.RangeExpr.{RangeExpr}
use Rattle.flat_source_meaning.specs.Variables.{span_or_scalar}
use Rattle.flat_variables.specs.Sizes.{span_of}
use Rattle.flat_variables.proofs.size.declared_size.Goals as goal

pub returns-in-Some-clause-value : goal.returns-in-Some-clause-value
returns-in-Some-clause-value g c = λ known h.
    subst (λ (x : Option RangeExpr). IfOk c.of_range.result (λ size. span_of size ≡ span_or_scalar known x)) (sym c.in-Some.is)
    (c.of_range.ensures.value known h)
