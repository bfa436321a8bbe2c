use Rattle.std.proofs.Common.{◌≡◌}
use Rattle.std.specs.FinMap.{entries}
use Rattle.cov_dat.specs.DataText.{count_map}
use Rattle.cov_dat.proofs.AscendLemmas.{entries-sorted}
use Rattle.cov_dat.proofs.data_text.data_text.Goals as goal

pub returns-then-ascends : goal.returns-then-ascends
returns-then-ascends c =
    let same : entries (count_map c.args.counts.now.entries)
    ≡ c.args.counts.now.entries = entries-sorted c.args.counts.now.entries (c.ascends.ensures c.if-ascends.true) in
    rw same c.written_in_order.ensures
