use Rattle.std.proofs.Common.{◌∙◌, List, ap}
use Rattle.std.specs.List.{list_all}
use Rattle.design_tree.specs.declared.design.Input.{Input}
use Rattle.stim_lines.specs.Fields.{fields_of}
use Rattle.stim_lines.specs.Header.{is_among}
use Rattle.stim_lines.proofs.NameLemmas.{names-all}
use Rattle.stim_lines.proofs.names.all_named.Goals as goal

pub returns : goal.returns
returns c =
    c.are_fields.ensures
    ∙ (ap (λ (xs : List Input). list_all (λ (i : Input). is_among (fields_of c.args.line.now) i.name) xs) c.as_slice.ensures
    ∙ names-all c.args.design.now.vars c.args.design.now.inputs (fields_of c.args.line.now))
