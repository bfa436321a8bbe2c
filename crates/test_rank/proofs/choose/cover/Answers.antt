use Rattle.std.proofs.Common.{◌≡◌, ℕ, ◌+◌, ◌<◌, ◌||◌, Bool, true, false, eqb, length, get_or, take, List, [], arith, sym, ◌∙◌, ap, subst, add-one}
use Rattle.test_rank.specs.Ranking.{points_of, is_among}
use Rattle.test_rank.specs.Counting.{marked}
use Rattle.test_rank.proofs.Counts.{counts-among, count-here, eqb-is}
use Rattle.test_rank.proofs.Covering.{among-pushed, gains-enough, gains-lowered, marks-again, marks-more}
use Rattle.std.proofs.Math.Seq.{take-suc}
use Rattle.test_rank.proofs.choose.cover.Goals.{then-not-has, else-not-has}
use Rattle.test_rank.proofs.choose.cover.Goals as goal

-- a point of the test has room
has-room : (points covered now : List ℕ) (k : ℕ) (length_is : ℕ) → points ≡ now → ((p : ℕ) → is_among now p ≡ true → p < length_is) → k < length points
    → get_or points k 0 < length_is
has-room points covered now k room is all h = all (get_or points k 0) (subst (λ (ps : List ℕ). is_among ps (get_or points k 0)
    ≡ true) is (counts-among points (get_or points k 0) (count-here points k h)))

pub has-requires : goal.has-requires
has-requires g c =
    let room =
    has-room c.points_of-points.result.now [] (points_of c.args.covers.now c.args.test) c.points.point-index (length c.args.covered.now)
    c.points_of-points.ensures (c.requires.room c.args.test) c.points-test.true in
    let len = c.points.invariant.room in
    omega arith

pub mark-requires : goal.mark-requires
mark-requires g c =
    let room =
    has-room c.points_of-points.result.now [] (points_of c.args.covers.now c.args.test) c.points.point-index (length c.args.covered.now)
    c.points_of-points.ensures (c.requires.room c.args.test) c.points-test.true in
    let len = c.points.invariant.room in
    omega arith

pub lower_all-requires : goal.lower_all-requires
lower_all-requires g c =
    gains-enough c.args.covers.now (marked c.points.covered) (get_or c.points_of-points.result.now c.points.point-index 0) c.tests_at.result.now c.points.gains
    c.points.invariant.gains (sym c.has.ensures ∙ c.if-not-has.true) c.tests_at.ensures

pub points-preserved : goal.points-preserved
points-preserved g c =
    let points = c.points_of-points.result.now in
    let k = c.points.point-index in
    let point = get_or points k 0 in
    let inv = c.points.invariant in
    let among : (p : ℕ) → is_among (take (k + 1) points) p ≡ (is_among (take k points) p || eqb p point) =
    λ p. ap (λ (ps : List ℕ). is_among ps p) (ap (λ (m : ℕ). take m points) (add-one k) ∙ take-suc points k 0 c.points-test.true)
    ∙ among-pushed (take k points) point p in
    elim c.if-not-has.branch [
      | then-not-has w ↦
          let fresh : marked c.points.covered point ≡ false = sym c.has.ensures ∙ w.if-not-has.true in
          rw (w.covered-is, w.gains-is, w.steps-is) (record {
            gains = gains-lowered c.args.covers.now (marked c.points.covered) (marked w.mark.new.self) point w.tests_at.result.now c.points.gains
                w.lower_all.new.self inv.gains fresh w.mark.ensures.marked w.tests_at.ensures w.lower_all.ensures.lowered;
            covered = λ p. marks-more (marked c.args.covered.now p) (is_among (take k points) p) (marked c.points.covered p) (marked w.mark.new.self p)
                (eqb p point) (inv.covered p) (w.mark.ensures.marked p)
                ∙ ap (λ (b : Bool). marked c.args.covered.now p || b) (sym (among p));
            room = w.mark.ensures.len ∙ inv.room;
            len = w.lower_all.ensures.len ∙ inv.len;
            falls = λ t. let a = w.lower_all.ensures.lowered t in let b = inv.falls t in omega arith;
            ticks = let a = w.lower_all.ensures.ticks in let b = inv.ticks in omega arith;
          })
      | else-not-has w ↦
          let before : marked c.points.covered point ≡ true = sym c.has.ensures ∙ w.if-not-has.false in
          rw (w.covered-is, w.gains-is, w.steps-is) (record {
            gains = inv.gains;
            covered = λ p. marks-again (marked c.args.covered.now p) (is_among (take k points) p) (marked c.points.covered p) (eqb p point) (inv.covered p)
                (λ is. ap (marked c.points.covered) (eqb-is p point is) ∙ before)
                ∙ ap (λ (b : Bool). marked c.args.covered.now p || b) (sym (among p));
            room = inv.room;
            len = inv.len;
            falls = inv.falls;
            ticks = inv.ticks;
          })
    ]
