use Rattle.std.proofs.Common.{◌≡◌, ◌<◌, ◌∙◌, ap, subst, sym, length, List, ◌++◌, ◌∷◌, [], cond, ◌==◌}
use Rattle.row_lists.specs.Lists.{list_at}
use Rattle.row_lists.proofs.Changes.{on_ok, put-more, same_at}
use Rattle.row_lists.proofs.lists.RowLists.put.Goals as goal

pub returns-clause-rows : goal.returns-clause-rows
returns-clause-rows g c =
    let lists = c.self.inside.lists.items in
    let view = c.self.view_is in
    let same : ◌≡◌ {A = List (List g.row.T.Denot)} c.args.self.now lists = cc in
    let within = subst (λ (l : List (List g.row.T.Denot)). c.args.number < length l) same c.requires in
    on_ok c.push.result
    (λ e k. put-more lists c.args.number c.push.new.self (c.args.row ∷ []) within
    (e ∙ ap (λ xs. xs ++ c.args.row ∷ []) (c.index_mut.ensures.value ∙ same_at lists c.args.number c.index_mut.result.now [] within)) k
    ∙ ap (λ (l : List (List g.row.T.Denot)). list_at l k ++ cond (k == c.args.number) (c.args.row ∷ []) []) (sym same))
    c.push.ensures.ok
