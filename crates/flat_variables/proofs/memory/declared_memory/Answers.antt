use Rattle.std.proofs.Common.{◌≡◌, sym, subst, Option}
use Rattle.std.specs.Prelude.{IfOk}
use Rattle.vlog_tree.specs.declared.expression.RangeExpr.{RangeExpr}
use Rattle.scope_meaning.specs.Constants.{and_then}
use Rattle.scope_meaning.specs.Ranges.{words}
use Rattle.flat_variables.specs.Sizes.{words_of}
use Rattle.flat_variables.proofs.memory.declared_memory.Goals as goal

pub returns-in-Some : goal.returns-in-Some
returns-in-Some g c = λ known h.
    subst (λ (x : Option RangeExpr). IfOk c.of_range.result (λ memory. words_of memory ≡ and_then x (words known))) (sym c.in-Some.is)
    (c.of_range.ensures known h)
