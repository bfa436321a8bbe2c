use Rattle.std.proofs.Common.{◌≡◌, ◌≤◌, true, length}
use Rattle.std.specs.Prelude.{codes}
use Rattle.cov_types.specs.declared.var.Var.{Var}
use Rattle.cvd_text.specs.Lines.{Load, no_load}
use Rattle.cvd_sections.specs.Fields.{behind_var, bits_of, load_of, var_marks}
use Rattle.cvd_sections.proofs.Counting.{Goes}
use Rattle.cvd_sections.proofs.VarSection.{section}
use Rattle.cvd_sections.proofs.var.read_vars.Given as goal

abbrev pub invariant-loop-count : goal.invariant-loop-count
invariant-loop-count l = record {
  goes : Goes Var Load var_marks behind_var (λ n. no_load) (codes "vars") (λ n. true) section l.fn.cursor l.cursor l.count (λ n. load_of l.bits) l.vars;
  bits : l.bits ≡ bits_of l.vars;
  within : l.bits ≤ 16777216;
  few : length l.vars ≤ l.bits;
}

abbrev pub decreases-loop-count : goal.decreases-loop-count
decreases-loop-count l = length l.cursor.rest
