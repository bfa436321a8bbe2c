use Rattle.std.proofs.Common.{◌∙◌}
use Rattle.std.specs.BTreeMap.{get}
use Rattle.std.specs.Ordering.{nat_cmp}
use Rattle.report_table.proofs.CountLemmas.{runs_step}
use Rattle.report_table.proofs.line_counts.add_runs.Goals as goal

pub runs-preserved : goal.runs-preserved
runs-preserved c = λ q.
    runs_step q c.args.runs.now c.runs.run-index _ (get nat_cmp c.runs.counts q) (get nat_cmp c.add_run.new.counts q) c.args.count c.runs-test.true
    (c.in_ok-add_run.ensures q) ∙ c.runs.invariant q
