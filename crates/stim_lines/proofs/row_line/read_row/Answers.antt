use Rattle.std.proofs.Common.{◌∙◌, sym}
use Rattle.stim_lines.specs.Fields.{fields_of}
use Rattle.stim_lines.proofs.RowLemmas.{cells-fit, laid-cells, row-cells}
use Rattle.stim_lines.proofs.row_line.read_row.Goals as goal

pub returns-in-Ok-clause-ok : goal.returns-in-Ok-clause-ok
returns-in-Ok-clause-ok c =
    laid-cells c.args.widths.now c.args.number (fields_of c.args.line.now) c.in-Some.repeat (sym c.in-Some.ensures) (sym c.count_values.ensures.count
    ∙ c.if-count_values-widths.false)
    ∙ c.in-Ok.ensures.ok

pub returns-in-Ok-clause-values : goal.returns-in-Ok-clause-values
returns-in-Ok-clause-values c =
    c.in-Ok.ensures.values ∙ row-cells c.args.widths.now (fields_of c.args.line.now) (sym c.count_values.ensures.count ∙ c.if-count_values-widths.false)

pub returns-in-Ok-clause-fit : goal.returns-in-Ok-clause-fit
returns-in-Ok-clause-fit c = λ k. rw c.in-Ok.ensures.values (cells-fit c.args.number c.args.widths.now (fields_of c.args.line.now) c.in-Ok.ensures.ok k)

pub returns-in-Err-clause-fault : goal.returns-in-Err-clause-fault
returns-in-Err-clause-fault c =
    laid-cells c.args.widths.now c.args.number (fields_of c.args.line.now) c.in-Some.repeat (sym c.in-Some.ensures) (sym c.count_values.ensures.count
    ∙ c.if-count_values-widths.false)
    ∙ c.in-Err.ensures.fault
