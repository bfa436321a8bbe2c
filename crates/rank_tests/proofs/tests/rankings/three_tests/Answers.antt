use Rattle.std.proofs.Common.{◌≡◌, List, ◌++◌, ◌∷◌, [], ℕ, ap, ◌∙◌}
use Rattle.test_rank.specs.Ranking.{Covers}
use Rattle.rank_tests.specs.ThreeTests.{three_covers, three_rows}
use Rattle.rank_tests.proofs.ThreeTests.{few_steps, the_rows}
use Rattle.rank_tests.proofs.tests.rankings.three_tests.Goals as goal

added : (c : Covers) → (d : Covers) (points : List ℕ) (e : Covers) → d ≡ c ++ points ∷ [] → c ≡ e → d ≡ e ++ points ∷ []
added c d points e is before = is ∙ ap (λ (xs : Covers). xs ++ points ∷ []) before

covers : (g : Rattle.rank_tests.proofs.tests.rankings.three_tests.Given.Over) (c : goal.After-drop-covers-inside-3 g) → c.add_test-3.new.self ≡ three_covers
covers g c =
    added c.add_test-2.new.self c.add_test-3.new.self (1 ∷ 2 ∷ []) ((1 ∷ 2 ∷ 3 ∷ []) ∷ (3 ∷ 4 ∷ []) ∷ []) c.in_ok-add_test-3.ensures.ok
    (added c.add_test.new.self c.add_test-2.new.self (3 ∷ 4 ∷ []) ((1 ∷ 2 ∷ 3 ∷ []) ∷ []) c.in_ok-add_test-2.ensures.ok
    (added c.new-covers.result c.add_test.new.self (1 ∷ 2 ∷ 3 ∷ []) [] c.in_ok-add_test.ensures.ok c.new-covers.ensures))

pub returns-clause-rows : goal.returns-clause-rows
returns-clause-rows g c = the_rows c.one_ranking.ensures c.add_test-3.new.self c.in_ok-ranking.ranking (covers g c) c.in_ok-ranking.ensures.ranking

pub returns-clause-ticks : goal.returns-clause-ticks
returns-clause-ticks g c =
    few_steps c.add_test-3.new.self c.in_ok-ranking.ranking c.args.steps.now c.rank.new.steps (covers g c)
    (the_rows c.one_ranking.ensures c.add_test-3.new.self c.in_ok-ranking.ranking (covers g c) c.in_ok-ranking.ensures.ranking) c.in_ok-ranking.ensures.ticks
