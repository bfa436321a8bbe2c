use Rattle.std.proofs.Common.{◌≡◌, ◌∙◌, sym, ap, subst, ℕ, ◌<◌, arith, List, ◌++◌, length, get_or}
use Rattle.std.specs.Prelude.{IfOk}
use Rattle.flow_graph.specs.Graph.{Graph, next_of}
use Rattle.flow_hubs.specs.declared.chains.Link.{Link}
use Rattle.flow_hubs.specs.Chained.{row_from}
use Rattle.flow_hubs.proofs.Chaining.{rows_at, rows_many}
use Rattle.flow_hubs.proofs.chains.Chains.read.Goals as goal

pub offset_bounds-as_slice-at : goal.offset_bounds-as_slice-at
offset_bounds-as_slice-at c =
    let many : length c.self.inside.heads.items ≡ length c.args.self.now =
    sym (rows_many c.self.inside.heads.items c.self.inside.links.items) ∙ ap (λ (g : Graph). length g) c.self.view_is in
    omega (arith, many, c.requires, c.self.inside.heads.ok.0, c.self.inside.heads.ok.1, c.self.inside.heads.small)

pub bounds-as_slice-at : goal.bounds-as_slice-at
bounds-as_slice-at c =
    let many : length c.self.inside.heads.items ≡ length c.args.self.now =
    sym (rows_many c.self.inside.heads.items c.self.inside.links.items) ∙ ap (λ (g : Graph). length g) c.self.view_is in
    omega (arith, many, c.requires, ap (λ (xs : List ℕ). length xs) c.as_slice-2.ensures.value)

pub returns : goal.returns
returns c =
    let head : ℕ = get_or c.as_slice-2.result.now c.args.at 0 in
    let is : c.clear.new.self.items ++ row_from c.as_slice.result.now head ≡ next_of c.args.self.now c.args.at =
    ap (λ (xs : List ℕ). xs ++ row_from c.as_slice.result.now head) c.clear.ensures.items
    ∙ (ap (λ (links : List Link). row_from links head) c.as_slice.ensures.value
    ∙ (ap (λ (heads : List ℕ). row_from c.self.inside.links.items (get_or heads c.args.at 0)) c.as_slice-2.ensures.value
    ∙ (sym (rows_at c.self.inside.heads.items c.self.inside.links.items c.args.at) ∙ ap (λ (g : Graph). next_of g c.args.at) c.self.view_is))) in
    subst (λ (row : List ℕ). IfOk c.read_back.result (λ _. c.read_back.new.row.items ≡ row)) is c.read_back.ensures
