use Rattle.std.proofs.Common.{◌<◌, length, set, filter, ltb, [], ◌∙◌, ap}
use Rattle.test_rank.proofs.Sums.{get_or-any}
use Rattle.test_rank.proofs.point_index.PointIndex.keep_at.Goals as goal

pub returns : goal.returns
returns c =
    let lists = c.self.inside.lists.items in
    let within : c.args.point < length lists = rw (c.self.view_is) c.requires in
    let value = c.index_mut.ensures.value ∙ get_or-any lists c.args.point c.index_mut.result.now [] within in
    rw (← c.self.view_is) (ap (set lists c.args.point) (c.keep_below.ensures ∙ ap (filter (λ t. ltb t c.args.end)) value))
