use Rattle.std.proofs.Common.{◌^◌, sym, ◌∙◌, ap, length}
use Rattle.std.specs.List.{slice_get}
use Rattle.circuit_run.specs.States.{no_var}
use Rattle.cov_types.specs.declared.var.Var.{Var}
use Rattle.cvd_text.specs.Targets.{same_kind}
use Rattle.design_meaning.specs.ValidProcesses.{kind_written}
use Rattle.cvd_expressions.proofs.Parts.{variable_found, variable_none}
use Rattle.cvd_targets.proofs.Lists.{both, both_false, and_false, below_some, below_none}
use Rattle.cvd_targets.proofs.Positions.{too_far}
use Rattle.cvd_targets.proofs.destination.find_named.Goals as goal

pub returns-in_default : goal.returns-in_default
returns-in_default c = λ v e.
    both_false _ _ (too_far v (length c.args.vars.now) (below_none (2 ^ 32) v (sym c.in_default.is ∙ e)) c.requires)

pub returns-in_default-variable_at : goal.returns-in_default-variable_at
returns-in_default-variable_at c = λ v e.
    let b = below_some (2 ^ 32) v c.in-Some.var (sym c.in-Some.is ∙ e) in
    both_false _ _ (variable_none c.args.vars.now v no_var (ap (slice_get c.args.vars.now) (sym b.1) ∙ sym c.variable_at.ensures ∙ c.in_default-variable_at.is))

pub returns-then-not-may_write : goal.returns-then-not-may_write
returns-then-not-may_write c = λ v e.
    let b = below_some (2 ^ 32) v c.in-Some.var (sym c.in-Some.is ∙ e) in
    let found = variable_found c.args.vars.now v c.in-Some-variable_at.found no_var (ap (slice_get c.args.vars.now) (sym b.1) ∙ sym c.variable_at.ensures
    ∙ c.in-Some-variable_at.is) in
    and_false _ _ (ap (λ (y : Var). same_kind y.kind (kind_written c.args.kind)) found.1 ∙ sym c.may_write.ensures ∙ c.if-not-may_write.true)

pub returns : goal.returns
returns c = λ v e.
    let b = below_some (2 ^ 32) v c.in-Some.var (sym c.in-Some.is ∙ e) in
    let found = variable_found c.args.vars.now v c.in-Some-variable_at.found no_var (ap (slice_get c.args.vars.now) (sym b.1) ∙ sym c.variable_at.ensures
    ∙ c.in-Some-variable_at.is) in
    record {
      var_is = b.1;
      stands = both _ _ found.0 (ap (λ (y : Var). same_kind y.kind (kind_written c.args.kind)) found.1 ∙ sym c.may_write.ensures ∙ c.if-not-may_write.false);
      found_is = found.1;
    }
