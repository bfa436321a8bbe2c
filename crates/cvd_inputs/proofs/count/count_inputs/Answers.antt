use Rattle.std.proofs.Common.{sym, ◌∙◌, ap}
use Rattle.std.specs.Prelude.{count_by}
use Rattle.std.proofs.lemmas.List.{take_all}
use Rattle.cov_types.specs.declared.kind.VarKind.TheVariants as kind
use Rattle.cov_types.specs.declared.var.Var.{Var}
use Rattle.cvd_text.specs.Targets.{same_kind}
use Rattle.cvd_inputs.proofs.InputNumbers.{count_is}
use Rattle.cvd_inputs.proofs.count.count_inputs.Goals as goal

pub returns : goal.returns
returns c =
    c.loop-var.invariant.so_far
    ∙ ap (count_by (λ (v : Var). same_kind v.kind kind.Input)) (take_all c.loop-var.var-index c.args.vars.now c.loop-var-test.false)
    ∙ sym (count_is c.args.vars.now)
