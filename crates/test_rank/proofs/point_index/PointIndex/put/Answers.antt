use Rattle.std.proofs.Common.{◌≡◌, ℕ, ◌<◌, length, set, List, [], ◌∷◌, ◌++◌, ◌∙◌, ap}
use Rattle.std.proofs.lemmas.Result.{on_ok_weaker}
use Rattle.test_rank.proofs.Sums.{get_or-any}
use Rattle.test_rank.proofs.point_index.PointIndex.put.Goals as goal

pub returns-clause-ok : goal.returns-clause-ok
returns-clause-ok c =
    let lists = c.self.inside.lists.items in
    let within : c.args.point < length lists = rw (c.self.view_is) c.requires in
    let value = c.index_mut.ensures.value ∙ get_or-any lists c.args.point c.index_mut.result.now [] within in
    rw (← c.self.view_is) (on_ok_weaker c.push.result (λ (is : c.push.new.self ≡ c.index_mut.result.now ++ c.args.test ∷ []). ap (set lists c.args.point) (is
    ∙ ap (λ (xs : List ℕ). xs ++ c.args.test ∷ []) value)) c.push.ensures.ok)
