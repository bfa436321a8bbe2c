use Rattle.std.proofs.Common.{ℕ, get_or, take, List, [], ◌∷◌, sym, ◌∙◌, ap, subst, add-one}
use Rattle.test_rank.specs.Counting.{HasAdded}
use Rattle.test_rank.proofs.Counts.{added-more, added-same, put-added}
use Rattle.std.proofs.Math.Seq.{take-suc}
use Rattle.test_rank.proofs.point_index.PointIndex.add_all.Goals as goal

pub points-preserved : goal.points-preserved
points-preserved c =
    let points = c.args.points.now in
    let k = c.points.point-index in
    let grown = ap (λ (m : ℕ). take m points) (add-one k) ∙ take-suc points k 0 c.points-test.true in
    subst (λ (ps : List ℕ). HasAdded c.args.test ps c.args.self.now c.put.new.self) (sym grown)
    (added-more c.args.test (take k points) (get_or points k 0) c.args.self.now c.reach.new.self c.put.new.self
    (added-same c.args.test (take k points) c.args.self.now c.points.self c.reach.new.self c.points.invariant c.in_default.ensures.same)
    (subst (HasAdded c.args.test (get_or points k 0 ∷ []) c.reach.new.self) (sym c.in_default-put.ensures.ok)
    (put-added c.reach.new.self (get_or points k 0) c.args.test c.in_default.ensures.reached)))
