use Rattle.std.proofs.Common.{◌≡◌, ◌∙◌, sym, ap, ℕ, List, length}
use Rattle.flow_graph.specs.Graph.{Graph}
use Rattle.flow_hubs.proofs.Chaining.{rows_many}
use Rattle.flow_hubs.proofs.chains.Chains.len.Goals as goal

pub returns : goal.returns
returns c =
    ap (λ (xs : List ℕ). length xs) c.as_slice.ensures.value
    ∙ (sym (rows_many c.self.inside.heads.items c.self.inside.links.items) ∙ ap (λ (g : Graph). length g) c.self.view_is)
