use Rattle.std.proofs.Common.{arith, sym, ◌∙◌, refl, ap, ◌≡◌, ◌<◌, length, ◌-◌, true, false, [], ◌∷◌, ◌++◌, get_or, set, Some, vec_len}
use Rattle.std.proofs.lemmas.List.{length_push, get_or_default}
use Rattle.flow_graph.proofs.Search.{Now, now_from, search_init, turn_found, turn_pass, turn_push, turn_less, turn_pop, none_left}
use Rattle.flow_graph.proofs.circle.circle_from.Goals as goal

pub returns-then-y-p-clause-found : goal.returns-then-y-p-clause-found
returns-then-y-p-clause-found c =
    let n : Now c.args.next.now c.args.p c.search.path.items c.search.cursor.items c.index-x.result.now c.index-k.result.now c.in-Some.y =
    now_from c.args.next.now c.args.p c.search.path.items c.search.cursor.items c.search.seen.items c.requires.graph c.search.invariant
    c.len-in-search.result c.index-x.result.now c.index-k.result.now c.in-Some.y
    (omega (arith, c.len-in-search.ensures, c.search.path.ok.0)) (omega (arith, c.search-test.true, c.len.ensures, c.len-in-search.ensures))
    c.index-x.ensures c.index-k.ensures (sym c.successor.ensures.value ∙ c.in-Some.is) in
    turn_found c.args.next.now c.args.p c.search.path.items c.search.cursor.items c.search.seen.items c.index-x.result.now c.index-k.result.now c.in-Some.y
    c.search.invariant n c.if-y-p.true

pub index-requires : goal.index-requires
index-requires c =
    let n : Now c.args.next.now c.args.p c.search.path.items c.search.cursor.items c.index-x.result.now c.index-k.result.now c.in-Some.y =
    now_from c.args.next.now c.args.p c.search.path.items c.search.cursor.items c.search.seen.items c.requires.graph c.search.invariant
    c.len-in-search.result c.index-x.result.now c.index-k.result.now c.in-Some.y
    (omega (arith, c.len-in-search.ensures, c.search.path.ok.0)) (omega (arith, c.search-test.true, c.len.ensures, c.len-in-search.ensures))
    c.index-x.ensures c.index-k.ensures (sym c.successor.ensures.value ∙ c.in-Some.is) in
    omega (arith, n.within, c.search.invariant.marks, c.search.seen.ok.0)

pub index_mut-requires-then-not-index : goal.index_mut-requires-then-not-index
index_mut-requires-then-not-index c =
    let n : Now c.args.next.now c.args.p c.search.path.items c.search.cursor.items c.index-x.result.now c.index-k.result.now c.in-Some.y =
    now_from c.args.next.now c.args.p c.search.path.items c.search.cursor.items c.search.seen.items c.requires.graph c.search.invariant
    c.len-in-search.result c.index-x.result.now c.index-k.result.now c.in-Some.y
    (omega (arith, c.len-in-search.ensures, c.search.path.ok.0)) (omega (arith, c.search-test.true, c.len.ensures, c.len-in-search.ensures))
    c.index-x.ensures c.index-k.ensures (sym c.successor.ensures.value ∙ c.in-Some.is) in
    omega (arith, n.within, c.search.invariant.marks, c.search.seen.ok.0)

pub search-preserved-in-Continue-branch-4 : goal.search-preserved-in-Continue-branch-4
search-preserved-in-Continue-branch-4 c =
    let n : Now c.args.next.now c.args.p c.search.path.items c.search.cursor.items c.index-x.result.now c.index-k.result.now c.in-Some.y =
    now_from c.args.next.now c.args.p c.search.path.items c.search.cursor.items c.search.seen.items c.requires.graph c.search.invariant
    c.len-in-search.result c.index-x.result.now c.index-k.result.now c.in-Some.y
    (omega (arith, c.len-in-search.ensures, c.search.path.ok.0)) (omega (arith, c.search-test.true, c.len.ensures, c.len-in-search.ensures))
    c.index-x.ensures c.index-k.ensures (sym c.successor.ensures.value ∙ c.in-Some.is) in
    rw c.in_ok-push-in-Some.ensures.items (turn_push c.args.next.now c.args.p c.search.path.items c.search.cursor.items c.search.seen.items
    c.index-x.result.now c.index-k.result.now c.in-Some.y c.search.invariant n c.if-y-p.false)

pub search-smaller-in-Continue-branch-4 : goal.search-smaller-in-Continue-branch-4
search-smaller-in-Continue-branch-4 c =
    let n : Now c.args.next.now c.args.p c.search.path.items c.search.cursor.items c.index-x.result.now c.index-k.result.now c.in-Some.y =
    now_from c.args.next.now c.args.p c.search.path.items c.search.cursor.items c.search.seen.items c.requires.graph c.search.invariant
    c.len-in-search.result c.index-x.result.now c.index-k.result.now c.in-Some.y
    (omega (arith, c.len-in-search.ensures, c.search.path.ok.0)) (omega (arith, c.search-test.true, c.len.ensures, c.len-in-search.ensures))
    c.index-x.ensures c.index-k.ensures (sym c.successor.ensures.value ∙ c.in-Some.is) in
    rw c.in_ok-push-in-Some.ensures.items
    (turn_less c.args.next.now c.args.p c.search.path.items c.search.cursor.items (c.search.path.items ++ c.in-Some.y ∷ []) (set c.search.seen.items
    c.in-Some.y true) c.index-x.result.now c.index-k.result.now c.in-Some.y n c.search.invariant.cursors
    (turn_push c.args.next.now c.args.p c.search.path.items c.search.cursor.items c.search.seen.items c.index-x.result.now c.index-k.result.now c.in-Some.y
    c.search.invariant n c.if-y-p.false) (omega (arith, length_push c.search.path.items c.in-Some.y)))

pub search-preserved-else-not-index : goal.search-preserved-else-not-index
search-preserved-else-not-index c =
    let n : Now c.args.next.now c.args.p c.search.path.items c.search.cursor.items c.index-x.result.now c.index-k.result.now c.in-Some.y =
    now_from c.args.next.now c.args.p c.search.path.items c.search.cursor.items c.search.seen.items c.requires.graph c.search.invariant
    c.len-in-search.result c.index-x.result.now c.index-k.result.now c.in-Some.y
    (omega (arith, c.len-in-search.ensures, c.search.path.ok.0)) (omega (arith, c.search-test.true, c.len.ensures, c.len-in-search.ensures))
    c.index-x.ensures c.index-k.ensures (sym c.successor.ensures.value ∙ c.in-Some.is) in
    turn_pass c.args.next.now c.args.p c.search.path.items c.search.cursor.items c.search.seen.items c.index-x.result.now c.index-k.result.now c.in-Some.y
    c.search.invariant n c.if-y-p.false
    (get_or_default c.search.seen.items c.in-Some.y false c.index.result.now (omega (arith, n.within, c.search.invariant.marks)) ∙ (sym c.index.ensures
    ∙ c.if-not-index.false))

pub search-smaller-else-not-index : goal.search-smaller-else-not-index
search-smaller-else-not-index c =
    let n : Now c.args.next.now c.args.p c.search.path.items c.search.cursor.items c.index-x.result.now c.index-k.result.now c.in-Some.y =
    now_from c.args.next.now c.args.p c.search.path.items c.search.cursor.items c.search.seen.items c.requires.graph c.search.invariant
    c.len-in-search.result c.index-x.result.now c.index-k.result.now c.in-Some.y
    (omega (arith, c.len-in-search.ensures, c.search.path.ok.0)) (omega (arith, c.search-test.true, c.len.ensures, c.len-in-search.ensures))
    c.index-x.ensures c.index-k.ensures (sym c.successor.ensures.value ∙ c.in-Some.is) in
    turn_less c.args.next.now c.args.p c.search.path.items c.search.cursor.items c.search.path.items c.search.seen.items c.index-x.result.now
    c.index-k.result.now c.in-Some.y n c.search.invariant.cursors
    (turn_pass c.args.next.now c.args.p c.search.path.items c.search.cursor.items c.search.seen.items c.index-x.result.now c.index-k.result.now c.in-Some.y
    c.search.invariant n c.if-y-p.false
    (get_or_default c.search.seen.items c.in-Some.y false c.index.result.now (omega (arith, n.within, c.search.invariant.marks)) ∙ (sym c.index.ensures
    ∙ c.if-not-index.false))) (omega arith)

pub search-preserved : goal.search-preserved
search-preserved c =
    let some : 0 < vec_len c.search.path = omega (arith, c.search-test.true, c.len.ensures) in
    let out : c.pop.result ≡ Some c.index-x.result.now =
    c.pop.ensures.value c.index-x.result.now some
    ∙ (ap (λ i. Some (get_or c.search.path.items (i - 1) c.index-x.result.now)) (sym c.len-in-search.ensures) ∙ ap Some (sym c.index-x.ensures)) in
    turn_pop c.args.next.now c.args.p c.search.path.items c.search.cursor.items c.search.seen.items c.search.invariant
    c.pop.new.self.items c.pop.result c.index-x.result.now c.index-k.result.now c.pop.ensures.items out
    (sym c.successor.ensures.value ∙ c.in-None.is) c.index-k.ensures

pub returns-clause-none : goal.returns-clause-none
returns-clause-none c =
    none_left c.args.next.now c.args.p c.search.path.items c.search.cursor.items c.search.seen.items c.search.invariant (omega (
      arith,
      c.search-test.false,
      c.len.ensures,
      c.search.path.ok.0,
    ))

pub search-init : goal.search-init
search-init c =
    rw (c.in_ok-path.ensures.items, c.in_ok-cursor.ensures.items_if_clones_equal (λ y h. h), c.in_ok-seen.ensures.items_if_clones_equal (λ y h. h))
    (search_init c.args.next.now c.args.p (length c.args.next.now) refl c.requires.start)
