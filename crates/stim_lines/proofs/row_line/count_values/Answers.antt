use Rattle.std.proofs.Common.{◌∙◌, arith, sym}
use Rattle.stim_lines.specs.Fields.{fields_of}
use Rattle.stim_lines.proofs.RowLemmas.{values-repeated}
use Rattle.stim_lines.proofs.row_line.count_values.Goals as goal

pub returns-then-is_repeated-clause-count : goal.returns-then-is_repeated-clause-count
returns-then-is_repeated-clause-count c = omega (arith, values-repeated (fields_of c.args.line.now) (sym c.is_repeated.ensures ∙ c.if-is_repeated.true))
