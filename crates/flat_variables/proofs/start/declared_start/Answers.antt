use Rattle.std.proofs.Common.{◌≡◌, sym, subst, Option}
use Rattle.std.specs.Prelude.{IfOk}
use Rattle.vlog_tree.specs.declared.expression.Expr.{Expr}
use Rattle.flat_source_meaning.specs.Variables.{start_of}
use Rattle.flat_variables.proofs.start.declared_start.Goals as goal

pub returns-in-Some : goal.returns-in-Some
returns-in-Some g c = λ known h.
    subst (λ (x : Option Expr). IfOk c.value_of.result (λ value. value ≡ start_of known c.args.width x)) (sym c.in-Some.is) (c.value_of.ensures known h)
