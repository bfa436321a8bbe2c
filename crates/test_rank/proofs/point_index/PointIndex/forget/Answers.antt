use Rattle.std.proofs.Common.{◌≡◌, ◌≢◌, ℕ, ◌<◌, ◌≤◌, eqb, cond, length, filter, ltb, List, arith, sym, ◌∙◌, ap, below_more, length-set}
use Rattle.test_rank.specs.Counting.{count, tests_at}
use Rattle.test_rank.proofs.Counts.{count-below, count-gone, eqb-other, eqb-same, get_or-past, get_or-set_lists}
use Rattle.std.proofs.lemmas.Bool.{cases_lt}
use Rattle.std.proofs.Common.{⊎_elim}
use Rattle.test_rank.proofs.point_index.PointIndex.forget.Goals as goal

pub points-preserved : goal.points-preserved
points-preserved c =
    let old = c.points.self in
    let at = c.points.point in
    let inv = c.points.invariant in
    let within : at < length old = let l = inv.len in let e = c.len-point-end.ensures in omega arith in
    let kept = filter (λ t. ltb t c.args.end) (tests_at old at) in
    let new : (p : ℕ) → tests_at c.keep_at.new.self p ≡ cond (eqb p at) kept (tests_at old p) =
    λ p. ap (λ (xs : List (List ℕ)). tests_at xs p) c.keep_at.ensures ∙ get_or-set_lists old at p kept within in
    record {
      done = below_more _ _ (λ p l. let ne : p ≢ at = λ e. absurd (omega arith) in new p ∙ rw (eqb-other p at ne) (inv.done p l)) (new at
          ∙ rw (eqb-same at) (ap (filter (λ t. ltb t c.args.end)) (inv.rest at (omega arith))));
      rest = λ p l. let ne : p ≢ at = λ e. absurd (omega arith) in new p ∙ rw (eqb-other p at ne) (inv.rest p (omega arith));
      len = ap length c.keep_at.ensures ∙ length-set old at kept ∙ inv.len;
    }

-- each list afterwards
all : (c : goal.After-points) → (p : ℕ) → tests_at c.points.self p ≡ filter (λ t. ltb t c.args.end) (tests_at c.args.self.now p)
all c p =
    let inv = c.points.invariant in
    ⊎_elim (λ (l : p < c.points.point). inv.done p l)
    (λ (ge : c.points.point ≤ p).
    let past : length c.args.self.now ≤ p = let e = c.len-point-end.ensures in omega arith in
    inv.rest p ge ∙ get_or-past c.args.self.now p past ∙ sym (ap (filter (λ t. ltb t c.args.end)) (get_or-past c.args.self.now p past)))
    (cases_lt p c.points.point)

pub returns-clause-below : goal.returns-clause-below
returns-clause-below c = λ t p l. ap (count t) (all c p) ∙ count-below c.args.end t (tests_at c.args.self.now p) l

pub returns-clause-gone : goal.returns-clause-gone
returns-clause-gone c = λ t p l. ap (count t) (all c p) ∙ count-gone c.args.end t (tests_at c.args.self.now p) l
