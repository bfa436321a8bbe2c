use Rattle.std.proofs.Common.{◌≡◌, subst, map}
use Rattle.std.specs.Prelude.{IfOk}
use Rattle.cov_types.specs.declared.kind.VarKind.TheVariants as kind
use Rattle.scope_meaning.specs.Ranges.{Span}
use Rattle.flat_source_meaning.specs.Variables.{variable}
use Rattle.flat_variables.proofs.declared.wires.Goals as goal

pub returns : goal.returns
returns g c = λ known h.
    subst (λ (s : Span). IfOk c.with_wires.result (λ all. all ≡ map (λ w. variable c.args.scope kind.Wire c.args.signed s w.name 0) c.args.wires.now))
    (c.in_ok-size.ensures.value known h) c.with_wires.ensures
