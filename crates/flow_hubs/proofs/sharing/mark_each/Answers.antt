use Rattle.std.proofs.Common.{◌≡◌, refl, subst, sym, arith, false, ℕ, ◌<◌, List, get_or, set, length}
use Rattle.std.specs.Prelude.{◌⊎◌, Contains}
use Rattle.std.proofs.lemmas.List.{take_all}
use Rattle.flow_hubs.proofs.Listed.{marks_none, marks_more}
use Rattle.flow_hubs.proofs.sharing.mark_each.Goals as goal

pub loop-p-init : goal.loop-p-init
loop-p-init c = marks_none c.args.marks.now.items c.args.vertices.now c.args.mark

pub index_mut-requires : goal.index_mut-requires
index_mut-requires c = omega (arith, c.requires c.loop-p.p-index 0 c.loop-p-test.true, c.loop-p.invariant.many, c.loop-p.marks.ok.0)

pub loop-p-preserved : goal.loop-p-preserved
loop-p-preserved c =
    let p : ℕ = get_or c.args.vertices.now c.loop-p.p-index 0 in
    let inside : p < length c.loop-p.marks.items = omega (arith, c.requires c.loop-p.p-index 0 c.loop-p-test.true, c.loop-p.invariant.many) in
    marks_more c.args.marks.now.items c.loop-p.marks.items (set c.loop-p.marks.items p c.args.mark) c.args.vertices.now c.args.mark c.loop-p.p-index p
    c.loop-p-test.true refl inside refl c.loop-p.invariant

pub returns-clause-many : goal.returns-clause-many
returns-clause-many c = c.loop-p.invariant.many

pub returns-clause-there : goal.returns-clause-there
returns-clause-there c p h =
    c.loop-p.invariant.there p (subst (λ (vs : List ℕ). Contains vs p) (sym (take_all c.loop-p.p-index c.args.vertices.now c.loop-p-test.false)) h)

pub returns-clause-only : goal.returns-clause-only
returns-clause-only c p =
    subst (λ (vs : List ℕ). Contains vs p ⊎ (get_or c.loop-p.marks.items p false ≡ get_or c.args.marks.now.items p false))
    (take_all c.loop-p.p-index c.args.vertices.now c.loop-p-test.false) (c.loop-p.invariant.only p)
