use Rattle.cov_dat.proofs.MergingLemmas.{set-raised}
use Rattle.cov_dat.proofs.key_table.raise.Goals as goal

pub returns : goal.returns
returns c = rw c.sum_of.ensures (set-raised c.args.counts.now.entries c.args.number c.index.result.now c.args.count c.index.ensures)
