use Rattle.std.proofs.Common.{◌≡◌, ℕ, ◌+◌, ◌<◌, length, List, [], ◌∷◌, ◌++◌, arith, sym, ◌∙◌, ap, subst, Some}
use Rattle.cov_types.specs.declared.limit.LimitName.TheVariants.{CoveredPairs}
use Rattle.test_rank.specs.Counting.{HasAdded}
use Rattle.test_rank.proofs.Counts.{index-pushed, length_pushed}
use Rattle.test_rank.proofs.Sums.{ascend-pushed, limit-over, limit-within, pairs-pushed}
use Rattle.test_rank.proofs.covers.TestCovers.add_test.Goals as goal

pub returns-then-pairs-gt-MOST_PAIRS-clause-limit : goal.returns-then-pairs-gt-MOST_PAIRS-clause-limit
returns-then-pairs-gt-MOST_PAIRS-clause-limit c = λ name is.
    let same : CoveredPairs ≡ name = cc in
    rw (← c.self.view_is) (limit-over c.self.inside.tests c.args.points.now c.self.inside.pairs c.self.invariant.1 c.if-pairs-gt-MOST_PAIRS.true ∙ ap Some same)

pub invariant_of-self-2 : goal.invariant_of-self-2
invariant_of-self-2 c =
    let covers = c.self.inside.tests in
    let points = c.args.points.now in
    let row : c.from_vec-row.result ≡ points = c.from_vec-row.ensures ∙ c.in_ok-from_slice.ensures.items in
    let pushed : c.push.new.self ≡ covers ++ points ∷ [] = c.in_default.ensures.ok ∙ ap (λ (ps : List ℕ). covers ++ ps ∷ []) row in
    let number : c.len-number.result ≡ length covers = c.len-number.ensures in
    let one = length_pushed covers points in
    let small : length covers < 4294967295 = omega arith in
    rw pushed (
      index-pushed covers points c.self.inside.index c.add.new.self c.self.invariant.0
          (subst (λ (n : ℕ). HasAdded n points c.self.inside.index c.add.new.self) number c.in_ok-add.ensures.ok),
      ap (λ (n : ℕ). n + length points) c.self.invariant.1 ∙ sym (pairs-pushed covers points),
      c.if-pairs-gt-MOST_PAIRS.false,
      omega arith,
      ascend-pushed covers points c.self.invariant.4 c.requires,
    )

pub returns-clause-within : goal.returns-clause-within
returns-clause-within c = rw (← c.self.view_is)
    (limit-within c.self.inside.tests c.args.points.now c.self.inside.pairs c.self.invariant.1 c.if-pairs-gt-MOST_PAIRS.false)
