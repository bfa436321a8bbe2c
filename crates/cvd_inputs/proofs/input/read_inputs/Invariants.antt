use Rattle.std.proofs.Common.{◌≡◌, length}
use Rattle.std.specs.Prelude.{codes}
use Rattle.cvd_text.specs.Sections.{input_numbers}
use Rattle.design_tree.specs.declared.design.Input.{Input}
use Rattle.cvd_sections.proofs.RowSections.{Goes}
use Rattle.cvd_inputs.specs.Names.{AreSeen}
use Rattle.cvd_inputs.proofs.Section.{each, may_be, section}
use Rattle.cvd_inputs.proofs.input.read_inputs.Given as goal

abbrev pub invariant-inputs : goal.invariant-inputs
invariant-inputs l = record {
  goes : Goes Input (each l.vars) (codes "inputs") (may_be l.vars) (section l.vars) l.fn.cursor l.cursor l.count l.kept;
  seen : AreSeen l.vars l.kept l.last l.names;
  all : l.all ≡ length (input_numbers l.vars);
}

abbrev pub decreases-inputs : goal.decreases-inputs
decreases-inputs l = length l.cursor.rest
