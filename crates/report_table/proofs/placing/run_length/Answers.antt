use Rattle.std.proofs.Common.{◌+◌, ◌-◌, arith}
use Rattle.std.proofs.lemmas.List.FromFn.{length-range_with_len}
use Rattle.report_table.proofs.placing.run_length.Goals as goal

pub returns : goal.returns
returns c = grind (arith, length-range_with_len c.args.run.now.from (c.args.run.now.to + 1 - c.args.run.now.from))
