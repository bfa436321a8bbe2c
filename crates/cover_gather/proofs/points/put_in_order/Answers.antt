use Rattle.std.proofs.Common.{eqb}
use Rattle.std.proofs.lemmas.List.Filters.{dedup_is}
use Rattle.cover_gather.proofs.PointLemmas.{ordered}
use Rattle.cover_gather.proofs.points.put_in_order.Goals as goal

pub returns : goal.returns
returns c =
    let is = ordered c.args.points.now.items c.sort_unstable.new.self.items c.dedup.new.self.items c.sort_unstable.ensures.permutation
    c.sort_unstable.ensures.sorted
    (dedup_is eqb c.sort_unstable.new.self.items c.dedup.new.self.items c.dedup.ensures.filtered) in
    record { value = is.value; ascends = is.ascends_is }
