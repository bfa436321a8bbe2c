use Rattle.std.proofs.Common.{◌≡◌, ◌∙◌, sym, ap, subst, [], ◌∷◌, ◌++◌, set}
use Rattle.std.proofs.lemmas.List.{get_or_default}
use Rattle.flow_graph.specs.Graph.{next_of}
use Rattle.flow_hubs.specs.Adding.{Adds}
use Rattle.flow_hubs.proofs.Growing.{adds_pushed}
use Rattle.flow_hubs.proofs.rows.note.Goals as goal

pub returns : goal.returns
returns c =
    let e : c.push.new.self ≡ next_of c.args.rows.now.items c.args.at ++ c.args.number ∷ [] =
    c.in_ok-push.ensures.ok ∙ ap (λ row. row ++ c.args.number ∷ [])
    (c.index_mut.ensures.value ∙ get_or_default c.args.rows.now.items c.args.at c.index_mut.result.now [] c.requires) in
    subst (λ row. Adds c.args.rows.now.items (set c.args.rows.now.items c.args.at row) (λ i x. (i ≡ c.args.at) × (x ≡ c.args.number))) (sym e)
    (adds_pushed c.args.rows.now.items c.args.at c.args.number c.requires)
