use Rattle.std.proofs.Common.{arith, sym, ◌∙◌, ap, ◌≡◌, ◌<◌, ◌≤◌, length, ◌-◌, [], ◌∷◌, ◌++◌, get_or, Some, vec_len}
use Rattle.flow_graph.specs.declared.order.Mark.TheVariants.{New, Open, Listed}
use Rattle.flow_graph.specs.Graph.{next_of}
use Rattle.flow_graph.proofs.Search.{all_passed}
use Rattle.flow_graph.proofs.Walking.{Top, Edge, top_from, edge_from, mark_read, popped_is, visit_push, visit_pass, visit_finish, visit_pop, visit_loop}
use Rattle.flow_graph.proofs.Walking.{less_push, less_pass, less_finish, less_pop}
use Rattle.flow_graph.proofs.order.visit.Goals as goal

pub index-requires : goal.index-requires
index-requires c =
    let e : Edge c.args.next.now c.index-x.result.now c.index-k.result.now c.in-Some.y = edge_from c.args.next.now c.index-x.result.now c.index-k.result.now
    c.in-Some.y c.requires.graph (sym c.successor.ensures.value ∙ c.in-Some.is) in
    omega (arith, e.within, c.visit.invariant.sorting.each_marked, c.visit.marks.ok.0)

pub index_mut-requires-in-New : goal.index_mut-requires-in-New
index_mut-requires-in-New c =
    let e : Edge c.args.next.now c.index-x.result.now c.index-k.result.now c.in-Some.y = edge_from c.args.next.now c.index-x.result.now c.index-k.result.now
    c.in-Some.y c.requires.graph (sym c.successor.ensures.value ∙ c.in-Some.is) in
    omega (arith, e.within, c.visit.invariant.sorting.each_marked, c.visit.marks.ok.0)

pub visit-preserved-in-Listed : goal.visit-preserved-in-Listed
visit-preserved-in-Listed c =
    let t : Top c.args.next.now c.visit.path.items c.visit.cursor.items c.index-x.result.now c.index-k.result.now =
    top_from c.args.next.now c.visit.path.items c.visit.cursor.items c.visit.marks.items c.visit.post.items c.visit.invariant.sorting c.len-in-visit.result
    c.index-x.result.now c.index-k.result.now (omega (arith, c.len-in-visit.ensures, c.visit.path.ok.0))
    (omega (arith, c.visit-test.true, c.len.ensures, c.len-in-visit.ensures)) c.index-x.ensures c.index-k.ensures in
    let e : Edge c.args.next.now c.index-x.result.now c.index-k.result.now c.in-Some.y = edge_from c.args.next.now c.index-x.result.now c.index-k.result.now
    c.in-Some.y c.requires.graph (sym c.successor.ensures.value ∙ c.in-Some.is) in
    let m : get_or c.visit.marks.items c.in-Some.y New ≡ Listed =
    mark_read c.visit.marks.items c.in-Some.y c.index.result.now (omega (arith, e.within, c.visit.invariant.sorting.each_marked)) c.index.ensures
    ∙ c.in-Listed.is in
    visit_pass c.args.next.now c.args.root c.args.post.now.items c.visit.path.items c.visit.cursor.items c.visit.marks.items c.visit.post.items
    c.index-x.result.now c.index-k.result.now c.in-Some.y c.visit.invariant t e m

pub visit-smaller-in-Listed : goal.visit-smaller-in-Listed
visit-smaller-in-Listed c =
    let t : Top c.args.next.now c.visit.path.items c.visit.cursor.items c.index-x.result.now c.index-k.result.now =
    top_from c.args.next.now c.visit.path.items c.visit.cursor.items c.visit.marks.items c.visit.post.items c.visit.invariant.sorting c.len-in-visit.result
    c.index-x.result.now c.index-k.result.now (omega (arith, c.len-in-visit.ensures, c.visit.path.ok.0))
    (omega (arith, c.visit-test.true, c.len.ensures, c.len-in-visit.ensures)) c.index-x.ensures c.index-k.ensures in
    let e : Edge c.args.next.now c.index-x.result.now c.index-k.result.now c.in-Some.y = edge_from c.args.next.now c.index-x.result.now c.index-k.result.now
    c.in-Some.y c.requires.graph (sym c.successor.ensures.value ∙ c.in-Some.is) in
    let m : get_or c.visit.marks.items c.in-Some.y New ≡ Listed =
    mark_read c.visit.marks.items c.in-Some.y c.index.result.now (omega (arith, e.within, c.visit.invariant.sorting.each_marked)) c.index.ensures
    ∙ c.in-Listed.is in
    less_pass c.args.next.now c.args.root c.args.post.now.items c.visit.path.items c.visit.cursor.items c.visit.marks.items c.visit.post.items
    c.index-x.result.now c.index-k.result.now c.in-Some.y c.visit.invariant t e m

pub visit-preserved-in-Continue-branch-2 : goal.visit-preserved-in-Continue-branch-2
visit-preserved-in-Continue-branch-2 c =
    let t : Top c.args.next.now c.visit.path.items c.visit.cursor.items c.index-x.result.now c.index-k.result.now =
    top_from c.args.next.now c.visit.path.items c.visit.cursor.items c.visit.marks.items c.visit.post.items c.visit.invariant.sorting c.len-in-visit.result
    c.index-x.result.now c.index-k.result.now (omega (arith, c.len-in-visit.ensures, c.visit.path.ok.0))
    (omega (arith, c.visit-test.true, c.len.ensures, c.len-in-visit.ensures)) c.index-x.ensures c.index-k.ensures in
    let e : Edge c.args.next.now c.index-x.result.now c.index-k.result.now c.in-Some.y = edge_from c.args.next.now c.index-x.result.now c.index-k.result.now
    c.in-Some.y c.requires.graph (sym c.successor.ensures.value ∙ c.in-Some.is) in
    let m : get_or c.visit.marks.items c.in-Some.y New ≡ New =
    mark_read c.visit.marks.items c.in-Some.y c.index.result.now (omega (arith, e.within, c.visit.invariant.sorting.each_marked)) c.index.ensures
    ∙ c.in-New.is in
    rw c.in_ok-push-in-New.ensures.items (visit_push c.args.next.now c.args.root c.args.post.now.items c.visit.path.items c.visit.cursor.items
    c.visit.marks.items c.visit.post.items c.index-x.result.now c.index-k.result.now c.in-Some.y c.visit.invariant t e m)

pub visit-smaller-in-Continue-branch-2 : goal.visit-smaller-in-Continue-branch-2
visit-smaller-in-Continue-branch-2 c =
    let e : Edge c.args.next.now c.index-x.result.now c.index-k.result.now c.in-Some.y = edge_from c.args.next.now c.index-x.result.now c.index-k.result.now
    c.in-Some.y c.requires.graph (sym c.successor.ensures.value ∙ c.in-Some.is) in
    let m : get_or c.visit.marks.items c.in-Some.y New ≡ New =
    mark_read c.visit.marks.items c.in-Some.y c.index.result.now (omega (arith, e.within, c.visit.invariant.sorting.each_marked)) c.index.ensures
    ∙ c.in-New.is in
    rw c.in_ok-push-in-New.ensures.items (less_push c.args.next.now c.visit.path.items c.visit.cursor.items c.visit.marks.items c.index-x.result.now
    c.index-k.result.now c.in-Some.y c.visit.invariant.sorting.each_marked e m)

pub returns-in-Open : goal.returns-in-Open
returns-in-Open c =
    let t : Top c.args.next.now c.visit.path.items c.visit.cursor.items c.index-x.result.now c.index-k.result.now =
    top_from c.args.next.now c.visit.path.items c.visit.cursor.items c.visit.marks.items c.visit.post.items c.visit.invariant.sorting c.len-in-visit.result
    c.index-x.result.now c.index-k.result.now (omega (arith, c.len-in-visit.ensures, c.visit.path.ok.0))
    (omega (arith, c.visit-test.true, c.len.ensures, c.len-in-visit.ensures)) c.index-x.ensures c.index-k.ensures in
    let e : Edge c.args.next.now c.index-x.result.now c.index-k.result.now c.in-Some.y = edge_from c.args.next.now c.index-x.result.now c.index-k.result.now
    c.in-Some.y c.requires.graph (sym c.successor.ensures.value ∙ c.in-Some.is) in
    let m : get_or c.visit.marks.items c.in-Some.y New ≡ Open =
    mark_read c.visit.marks.items c.in-Some.y c.index.result.now (omega (arith, e.within, c.visit.invariant.sorting.each_marked)) c.index.ensures
    ∙ c.in-Open.is in
    visit_loop c.args.next.now c.args.root c.args.post.now.items c.visit.path.items c.visit.cursor.items c.visit.marks.items c.visit.post.items
    c.index-x.result.now c.index-k.result.now c.in-Some.y c.visit.invariant t e m

pub visit-preserved-in-Listed-index : goal.visit-preserved-in-Listed-index
visit-preserved-in-Listed-index c =
    let t : Top c.args.next.now c.visit.path.items c.visit.cursor.items c.index-x.result.now c.index-k.result.now =
    top_from c.args.next.now c.visit.path.items c.visit.cursor.items c.visit.marks.items c.visit.post.items c.visit.invariant.sorting c.len-in-visit.result
    c.index-x.result.now c.index-k.result.now (omega (arith, c.len-in-visit.ensures, c.visit.path.ok.0))
    (omega (arith, c.visit-test.true, c.len.ensures, c.len-in-visit.ensures)) c.index-x.ensures c.index-k.ensures in
    let some : 0 < vec_len c.visit.path = omega (arith, c.visit-test.true, c.len.ensures) in
    let out : c.pop.result ≡ Some c.index-x.result.now =
    c.pop.ensures.value c.index-x.result.now some ∙ (ap (λ i. Some (get_or c.visit.path.items (i - 1) c.index-x.result.now)) (sym c.len-in-visit.ensures)
    ∙ ap Some (sym c.index-x.ensures)) in
    let q : c.visit.path.items ≡ c.pop.new.self.items ++ c.index-x.result.now ∷ [] = popped_is c.visit.path.items c.pop.new.self.items c.pop.result
    c.index-x.result.now c.pop.ensures.items out in
    let r : get_or c.visit.marks.items c.index-x.result.now New ≡ c.index-in-None.result.now =
    mark_read c.visit.marks.items c.index-x.result.now c.index-in-None.result.now (omega (arith, t.inside, c.visit.invariant.sorting.each_marked))
    c.index-in-None.ensures in
    let full : length (next_of c.args.next.now c.index-x.result.now) ≤ c.index-k.result.now = all_passed (next_of c.args.next.now c.index-x.result.now)
    c.index-k.result.now (sym c.successor.ensures.value ∙ c.in-None.is) in
    visit_pop c.args.next.now c.args.root c.args.post.now.items c.visit.path.items c.visit.cursor.items c.visit.marks.items c.visit.post.items
    c.pop.new.self.items c.index-x.result.now c.visit.invariant q (r ∙ c.in-Listed-index.is)

pub visit-smaller-in-Listed-index : goal.visit-smaller-in-Listed-index
visit-smaller-in-Listed-index c =
    let t : Top c.args.next.now c.visit.path.items c.visit.cursor.items c.index-x.result.now c.index-k.result.now =
    top_from c.args.next.now c.visit.path.items c.visit.cursor.items c.visit.marks.items c.visit.post.items c.visit.invariant.sorting c.len-in-visit.result
    c.index-x.result.now c.index-k.result.now (omega (arith, c.len-in-visit.ensures, c.visit.path.ok.0))
    (omega (arith, c.visit-test.true, c.len.ensures, c.len-in-visit.ensures)) c.index-x.ensures c.index-k.ensures in
    let some : 0 < vec_len c.visit.path = omega (arith, c.visit-test.true, c.len.ensures) in
    let out : c.pop.result ≡ Some c.index-x.result.now =
    c.pop.ensures.value c.index-x.result.now some ∙ (ap (λ i. Some (get_or c.visit.path.items (i - 1) c.index-x.result.now)) (sym c.len-in-visit.ensures)
    ∙ ap Some (sym c.index-x.ensures)) in
    let q : c.visit.path.items ≡ c.pop.new.self.items ++ c.index-x.result.now ∷ [] = popped_is c.visit.path.items c.pop.new.self.items c.pop.result
    c.index-x.result.now c.pop.ensures.items out in
    let r : get_or c.visit.marks.items c.index-x.result.now New ≡ c.index-in-None.result.now =
    mark_read c.visit.marks.items c.index-x.result.now c.index-in-None.result.now (omega (arith, t.inside, c.visit.invariant.sorting.each_marked))
    c.index-in-None.ensures in
    let full : length (next_of c.args.next.now c.index-x.result.now) ≤ c.index-k.result.now = all_passed (next_of c.args.next.now c.index-x.result.now)
    c.index-k.result.now (sym c.successor.ensures.value ∙ c.in-None.is) in
    less_pop c.args.next.now c.visit.path.items c.visit.cursor.items c.visit.marks.items c.pop.new.self.items c.index-x.result.now q

pub visit-preserved : goal.visit-preserved
visit-preserved c =
    let t : Top c.args.next.now c.visit.path.items c.visit.cursor.items c.index-x.result.now c.index-k.result.now =
    top_from c.args.next.now c.visit.path.items c.visit.cursor.items c.visit.marks.items c.visit.post.items c.visit.invariant.sorting c.len-in-visit.result
    c.index-x.result.now c.index-k.result.now (omega (arith, c.len-in-visit.ensures, c.visit.path.ok.0))
    (omega (arith, c.visit-test.true, c.len.ensures, c.len-in-visit.ensures)) c.index-x.ensures c.index-k.ensures in
    let some : 0 < vec_len c.visit.path = omega (arith, c.visit-test.true, c.len.ensures) in
    let out : c.pop.result ≡ Some c.index-x.result.now =
    c.pop.ensures.value c.index-x.result.now some ∙ (ap (λ i. Some (get_or c.visit.path.items (i - 1) c.index-x.result.now)) (sym c.len-in-visit.ensures)
    ∙ ap Some (sym c.index-x.ensures)) in
    let q : c.visit.path.items ≡ c.pop.new.self.items ++ c.index-x.result.now ∷ [] = popped_is c.visit.path.items c.pop.new.self.items c.pop.result
    c.index-x.result.now c.pop.ensures.items out in
    let r : get_or c.visit.marks.items c.index-x.result.now New ≡ c.index-in-None.result.now =
    mark_read c.visit.marks.items c.index-x.result.now c.index-in-None.result.now (omega (arith, t.inside, c.visit.invariant.sorting.each_marked))
    c.index-in-None.ensures in
    let full : length (next_of c.args.next.now c.index-x.result.now) ≤ c.index-k.result.now = all_passed (next_of c.args.next.now c.index-x.result.now)
    c.index-k.result.now (sym c.successor.ensures.value ∙ c.in-None.is) in
    rw c.in_ok-push-in_default.ensures.items
    (visit_finish c.args.next.now c.args.root c.args.post.now.items c.visit.path.items c.visit.cursor.items c.visit.marks.items c.visit.post.items
    c.pop.new.self.items c.index-x.result.now c.index-k.result.now c.visit.invariant t q full (λ z. c.in_default.not-Listed (sym r ∙ z)))

pub visit-smaller : goal.visit-smaller
visit-smaller c =
    let t : Top c.args.next.now c.visit.path.items c.visit.cursor.items c.index-x.result.now c.index-k.result.now =
    top_from c.args.next.now c.visit.path.items c.visit.cursor.items c.visit.marks.items c.visit.post.items c.visit.invariant.sorting c.len-in-visit.result
    c.index-x.result.now c.index-k.result.now (omega (arith, c.len-in-visit.ensures, c.visit.path.ok.0))
    (omega (arith, c.visit-test.true, c.len.ensures, c.len-in-visit.ensures)) c.index-x.ensures c.index-k.ensures in
    let some : 0 < vec_len c.visit.path = omega (arith, c.visit-test.true, c.len.ensures) in
    let out : c.pop.result ≡ Some c.index-x.result.now =
    c.pop.ensures.value c.index-x.result.now some ∙ (ap (λ i. Some (get_or c.visit.path.items (i - 1) c.index-x.result.now)) (sym c.len-in-visit.ensures)
    ∙ ap Some (sym c.index-x.ensures)) in
    let q : c.visit.path.items ≡ c.pop.new.self.items ++ c.index-x.result.now ∷ [] = popped_is c.visit.path.items c.pop.new.self.items c.pop.result
    c.index-x.result.now c.pop.ensures.items out in
    let r : get_or c.visit.marks.items c.index-x.result.now New ≡ c.index-in-None.result.now =
    mark_read c.visit.marks.items c.index-x.result.now c.index-in-None.result.now (omega (arith, t.inside, c.visit.invariant.sorting.each_marked))
    c.index-in-None.ensures in
    let full : length (next_of c.args.next.now c.index-x.result.now) ≤ c.index-k.result.now = all_passed (next_of c.args.next.now c.index-x.result.now)
    c.index-k.result.now (sym c.successor.ensures.value ∙ c.in-None.is) in
    (less_finish c.args.next.now c.visit.path.items c.visit.cursor.items c.visit.marks.items c.pop.new.self.items c.index-x.result.now q)
