use Rattle.std.proofs.Common.{ℕ, true, length}
use Rattle.std.specs.Prelude.{codes}
use Rattle.cvd_sections.specs.Places.{IsLastOf}
use Rattle.cvd_sections.proofs.RowSections.{Goes}
use Rattle.cvd_sections.proofs.Outputs.{each, section}
use Rattle.std.specs.Prelude.{nat_lt}
use Rattle.cvd_sections.proofs.output.read_outputs.Given as goal

abbrev pub invariant-loop-count : goal.invariant-loop-count
invariant-loop-count l = record {
  goes : Goes ℕ (each l.vars) (codes "outputs") (λ n. true) (section l.vars) l.fn.cursor l.cursor l.count l.kept;
  last : IsLastOf nat_lt (λ v. v) l.kept l.last;
}

abbrev pub decreases-loop-count : goal.decreases-loop-count
decreases-loop-count l = length l.cursor.rest
