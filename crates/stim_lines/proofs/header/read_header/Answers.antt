use Rattle.std.proofs.Common.{◌≡◌, ◌∙◌, None, sym}
use Rattle.stim_lines.specs.Fields.{fields_of}
use Rattle.stim_lines.specs.Header.{header_fault, inputs_of}
use Rattle.stim_lines.proofs.LayoutLemmas.{lays_out}
use Rattle.stim_lines.proofs.WidthLemmas.{all-named, own_columns}
use Rattle.stim_lines.proofs.header.read_header.Goals as goal

pub returns-in-Ok-clause-rows : goal.returns-in-Ok-clause-rows
returns-in-Ok-clause-rows c = rw c.in-Ok.ensures (lays_out (inputs_of c.args.design.now) (fields_of c.args.line.now))

pub returns-in-Ok-clause-widths : goal.returns-in-Ok-clause-widths
returns-in-Ok-clause-widths c = λ differ.
    let d = c.args.design.now in
    let fields = fields_of c.args.line.now in
    let none : header_fault (inputs_of d) c.args.number fields ≡ None = sym c.header_fault.ensures.value ∙ c.in_default.is in
    rw c.in-Ok.ensures (own_columns d.vars d.inputs fields (all-named (inputs_of d) c.args.number fields none) differ)
