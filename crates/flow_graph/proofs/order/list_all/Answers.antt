use Rattle.std.proofs.Common.{arith, sym, ◌∙◌}
use Rattle.std.proofs.lemmas.Bool.{MatchBool-at_false, MatchBool-at_true}
use Rattle.flow_graph.proofs.Walking.{listing_more, listing_same, mark_read, none_below}
use Rattle.flow_graph.proofs.order.list_all.Goals as goal
use Rattle.flow_graph.proofs.order.list_all.Goals.{in-New+in_ok-visit-in-New+else-branch, in_default}

pub loop-root-preserved : goal.loop-root-preserved
loop-root-preserved c =
    elim c.match-index.branch [
      | in-New+in_ok-visit-in-New+else-branch w ↦ rw (w.cursor-is, w.marks-is, w.post-is)
          (listing_more c.args.next.now c.loop-root.root c.loop-root.cursor.items c.loop-root.marks.items c.loop-root.post.items
          w.visit.new.cursor.items w.visit.new.marks.items w.visit.new.post.items c.loop-root.invariant (MatchBool-at_false _ _ w.if-branch.false
          w.in_ok-visit-in-New.ensures))
      | in_default w ↦ rw (w.cursor-is, w.marks-is, w.post-is)
          (listing_same c.args.next.now c.loop-root.root c.loop-root.cursor.items c.loop-root.marks.items c.loop-root.post.items c.loop-root.invariant
          (omega arith)
          (λ z. w.in_default.not-New (sym (mark_read c.loop-root.marks.items c.loop-root.root c.index.result.now (omega (
            arith,
            c.loop-root.invariant.sorting.each_marked,
          )) c.index.ensures) ∙ z)))
    ]

pub returns-then-branch : goal.returns-then-branch
returns-then-branch c = (
  MatchBool-at_true _ _ c.if-branch.true c.in_ok-visit-in-New.ensures,
  none_below c.args.next.now c.loop-root.root c.loop-root.cursor.items c.loop-root.marks.items c.loop-root.post.items c.loop-root.invariant,
)
