use Rattle.std.proofs.Common.{◌≡◌, ◌∙◌, ap, subst, sym, ℕ, ◌+◌, List, [], ◌∷◌, ◌++◌, length}
use Rattle.std.proofs.lemmas.List.{length_push}
use Rattle.flow_graph.specs.Graph.{Graph, HasEdge}
use Rattle.flow_hubs.proofs.Growing.{empty_more}
use Rattle.flow_hubs.proofs.rows.no_rows.Goals as goal

pub loop-at-preserved : goal.loop-at-preserved
loop-at-preserved c =
    let e : c.push.new.self.items ≡ c.loop-at.rows.items ++ [] ∷ [] =
    c.in_ok-push.ensures.items ∙ ap (λ (row : List ℕ). c.loop-at.rows.items ++ row ∷ []) c.new.ensures in
    record {
      many = ap (λ (g : Graph). length g) e ∙ (length_push c.loop-at.rows.items [] ∙ ap (λ n. n + 1) c.loop-at.invariant.many);
      empty = subst (λ (g : Graph). (i x : ℕ) → HasEdge g i x → ⊥) (sym e) (empty_more c.loop-at.rows.items c.loop-at.invariant.empty);
    }
