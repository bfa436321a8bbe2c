use Rattle.std.proofs.Common.{◌≡◌, subst, map}
use Rattle.std.specs.Prelude.{IfOk}
use Rattle.scope_meaning.specs.Ranges.{Span}
use Rattle.flat_source_meaning.specs.Variables.{reg_variable}
use Rattle.flat_variables.proofs.declared.regs.Goals as goal

pub returns : goal.returns
returns g c = λ known h.
    subst (λ (s : Span). IfOk c.with_regs.result (λ all. all ≡ map (reg_variable known c.args.scope c.args.signed s) c.args.regs.now))
    (c.in_ok-size.ensures.value known h) (c.with_regs.ensures known h)
