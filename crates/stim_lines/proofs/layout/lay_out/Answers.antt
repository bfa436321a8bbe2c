use Rattle.std.proofs.Common.{◌∙◌, ap, map}
use Rattle.design_tree.specs.declared.design.Input.{Input}
use Rattle.stim_lines.specs.Fields.{fields_of}
use Rattle.stim_lines.specs.Header.{inputs_of}
use Rattle.stim_lines.specs.Layouts.{column_of}
use Rattle.stim_lines.specs.RowLines.{width_of}
use Rattle.stim_lines.proofs.LayoutLemmas.{layout-same}
use Rattle.stim_lines.proofs.NameLemmas.{columns-named}
use Rattle.stim_lines.proofs.layout.lay_out.Goals as goal

pub returns : goal.returns
returns c =
    let d = c.args.design.now in
    let fields = fields_of c.args.line.now in
    layout-same c.in_ok-widths.widths (map (width_of (inputs_of d)) fields) c.in_ok-columns.columns (map (λ i. column_of fields i.name) (inputs_of d))
    c.in_ok-widths.ensures
    (c.in_ok-columns.ensures ∙ ap (map (λ (i : Input). column_of fields i.name)) c.as_slice.ensures ∙ columns-named d.vars d.inputs fields)
