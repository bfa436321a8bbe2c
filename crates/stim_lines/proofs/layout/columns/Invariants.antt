use Rattle.std.proofs.Common.{◌≡◌, map, take}
use Rattle.design_tree.specs.declared.design.Input.{Input}
use Rattle.stim_lines.specs.Fields.{fields_of}
use Rattle.stim_lines.specs.Layouts as spec
use Rattle.stim_lines.proofs.layout.columns.Given as goal

abbrev pub invariant-loop-input : goal.invariant-loop-input
invariant-loop-input l = l.columns ≡ map (λ (i : Input). spec.column_of (fields_of l.line) i.name) (take l.input-index l.inputs)
