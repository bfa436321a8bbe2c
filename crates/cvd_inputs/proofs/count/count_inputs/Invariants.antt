use Rattle.std.proofs.Common.{◌≡◌, ◌≤◌, take}
use Rattle.std.specs.Prelude.{count_by}
use Rattle.cov_types.specs.declared.kind.VarKind.TheVariants as kind
use Rattle.cov_types.specs.declared.var.Var.{Var}
use Rattle.cvd_text.specs.Targets.{same_kind}
use Rattle.cvd_inputs.proofs.count.count_inputs.Given as goal

abbrev pub invariant-loop-var : goal.invariant-loop-var
invariant-loop-var l = record {
  so_far : l.count ≡ count_by (λ (v : Var). same_kind v.kind kind.Input) (take l.var-index l.vars);
  few : l.count ≤ l.var-index;
}
