use Rattle.std.proofs.Common.{◌≡◌, drop}
use Rattle.std.specs.List.{list_all}
use Rattle.design_tree.specs.declared.design.Input.{Input}
use Rattle.stim_lines.specs.Fields.{fields_of}
use Rattle.stim_lines.specs.Header as spec
use Rattle.stim_lines.proofs.names.are_fields.Given as goal

abbrev pub invariant-loop-input : goal.invariant-loop-input
invariant-loop-input l =
    list_all (λ (i : Input). spec.is_among (fields_of l.line) i.name) (drop l.input-index l.inputs)
    ≡ list_all (λ (i : Input). spec.is_among (fields_of l.line) i.name) l.inputs
