use Rattle.std.proofs.Common.{◌≡◌, ◌∙◌, subst, sym, ℕ, ◌<◌, List, length, get_or, arith}
use Rattle.std.specs.Prelude.{All, Contains}
use Rattle.std.proofs.lemmas.List.Elements.{Contains-get_or}
use Rattle.flow_graph.specs.Graph.{next_of}
use Rattle.flow_hubs.specs.Adding.{Adds}
use Rattle.flow_edges.specs.Linking.{MayLead}
use Rattle.flow_edges.proofs.Linked.{rows_more, rows_all}
use Rattle.flow_edges.proofs.links.link_rows.Goals as goal

pub link_each-requires-clause-from : goal.link_each-requires-clause-from
link_each-requires-clause-from c =
    let row : c.as_slice.result.now ≡ next_of c.args.rows.now c.loop-at.at = c.as_slice.ensures.value ∙ c.in_ok-read.ensures in
    subst (λ (from : List ℕ). All (λ p. p < length c.args.design.now.processes) from) (sym row)
    (λ k d h. c.requires.below c.loop-at.at (get_or (next_of c.args.rows.now c.loop-at.at) k d)
    (Contains-get_or (next_of c.args.rows.now c.loop-at.at) k d h))

pub loop-at-preserved : goal.loop-at-preserved
loop-at-preserved c =
    let row : c.as_slice.result.now ≡ next_of c.args.rows.now c.loop-at.at = c.as_slice.ensures.value ∙ c.in_ok-read.ensures in
    rows_more c.args.design.now c.args.rows.now c.args.among.from c.loop-at.at c.args.q c.args.next.now.items c.loop-at.next.items
    c.link_each.new.next.items c.loop-at.auto.at c.loop-at.invariant
    (subst (λ (from : List ℕ). Adds c.loop-at.next.items c.link_each.new.next.items
    (λ i x. Contains from i × (x ≡ c.args.q) × MayLead c.args.design.now i x)) row c.in_ok-link_each.ensures)

pub returns : goal.returns
returns c = rows_all c.args.design.now c.args.rows.now c.args.among c.loop-at.at c.args.q c.args.next.now.items c.loop-at.next.items
    (omega (arith, c.requires.order, c.loop-at.auto.at-end, c.loop-at-test.false)) c.loop-at.invariant
