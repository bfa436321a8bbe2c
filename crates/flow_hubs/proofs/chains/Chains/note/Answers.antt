use Rattle.std.proofs.Common.{◌≡◌, ◌∙◌, sym, ap, subst, ℕ, ◌<◌, arith, List, length}
use Rattle.std.specs.Prelude.{IfOk}
use Rattle.flow_graph.specs.Graph.{Graph}
use Rattle.flow_hubs.specs.Adding.{Adds}
use Rattle.flow_hubs.specs.Chained.{rows_of}
use Rattle.flow_hubs.proofs.Chaining.{rows_many}
use Rattle.flow_hubs.proofs.chains.Chains.note.Goals as goal

pub ends_with-requires-clause-row : goal.ends_with-requires-clause-row
ends_with-requires-clause-row c =
    let many : length c.self.inside.heads.items ≡ length c.args.self.now =
    sym (rows_many c.self.inside.heads.items c.self.inside.links.items) ∙ ap (λ (g : Graph). length g) c.self.view_is in
    omega (arith, many, c.requires, ap (λ (xs : List ℕ). length xs) c.as_slice.ensures.value)

pub put-requires-clause-row : goal.put-requires-clause-row
put-requires-clause-row c =
    let many : length c.self.inside.heads.items ≡ length c.args.self.now =
    sym (rows_many c.self.inside.heads.items c.self.inside.links.items) ∙ ap (λ (g : Graph). length g) c.self.view_is in
    omega (arith, many, c.requires)

pub returns : goal.returns
returns c =
    subst (λ (g : Graph). IfOk c.put.result (λ _. Adds g (rows_of c.put.new.heads.items c.put.new.links.items)
    (λ i x. (i ≡ c.args.at) × (x ≡ c.args.number)))) c.self.view_is c.put.ensures.adds
