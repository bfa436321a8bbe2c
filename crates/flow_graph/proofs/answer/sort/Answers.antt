use Rattle.std.proofs.Common.{subst}
use Rattle.flow_graph.specs.declared.order.Walked.{Walked}
use Rattle.flow_graph.specs.Listing.{IsWalked}
use Rattle.flow_graph.proofs.Turned.{order_from}
use Rattle.flow_graph.proofs.answer.sort.Goals as goal

pub returns-in-All : goal.returns-in-All
returns-in-All c =
    let h = subst (λ (w : Walked). IsWalked c.args.next.now w) c.in-All.is c.in_ok-post.ensures in
    rw (c.from_vec.ensures, c.reverse.ensures.items) (order_from c.args.next.now c.in-All.post.items h.0 h.1)

pub least_circle-requires-clause-some : goal.least_circle-requires-clause-some
least_circle-requires-clause-some c = (subst (λ (w : Walked). IsWalked c.args.next.now w) c.in-CircleFrom.is c.in_ok-post.ensures).0

pub least_circle-requires-clause-none : goal.least_circle-requires-clause-none
least_circle-requires-clause-none c = (subst (λ (w : Walked). IsWalked c.args.next.now w) c.in-CircleFrom.is c.in_ok-post.ensures).1
