use Rattle.std.proofs.Common.{◌≡◌, length, List, [], ◌++◌, refl, ◌∙◌, ap}
use Rattle.test_rank.specs.Ranking.{IsRanking, chosen_rows, other_rows, ranked}
use Rattle.test_rank.specs.Choosing.{tests_of, unchosen_rows}
use Rattle.test_rank.specs.declared.ranking.RankRow.{RankRow}
use Rattle.test_rank.specs.Counting.{marked}
use Rattle.test_rank.proofs.Chosen.{ranked-number, reaches, rows-in-order}
use Rattle.test_rank.proofs.order.rank.Goals as goal

pub push_others-requires : goal.push_others-requires
push_others-requires g c = c.in_ok-picks.ensures.room

in-order : (g : Rattle.test_rank.proofs.order.rank.Given.Over) (c : goal.After-drop-chosen-inside-2 g)
    → c.new-2.result ≡ chosen_rows c.args.covers.now [] (tests_of c.in_ok-picks.picks) ++ other_rows c.args.covers.now (tests_of c.in_ok-picks.picks)
in-order g c =
    let covers = c.args.covers.now in
    let e = c.in_ok-picks.ensures in
    c.new-2.ensures ∙ c.in_ok-push_others.ensures
    ∙ ap (λ (rs : List RankRow). rs ++ unchosen_rows covers (marked c.choose.new.chosen) 0 covers) (c.in_ok-push_picked.ensures
    ∙ rw (c.new-rows.ensures, c.as_slice.ensures) refl)
    ∙ rows-in-order covers c.in_ok-picks.picks (marked c.choose.new.chosen) e.points e.marks

ranking : (g : Rattle.test_rank.proofs.order.rank.Given.Over) (c : goal.After-drop-chosen-inside-2 g) → IsRanking c.args.covers.now c.new-2.result
ranking g c = record { chosen = tests_of c.in_ok-picks.picks; are_chosen = c.in_ok-picks.ensures.chosen; in_order = in-order g c }

pub returns-clause-ranking : goal.returns-clause-ranking
returns-clause-ranking g c = ranking g c

pub returns-clause-reaches : goal.returns-clause-reaches
returns-clause-reaches g c = reaches c.args.covers.now c.new-2.result (ranking g c)

pub returns-clause-ticks : goal.returns-clause-ticks
returns-clause-ticks g c =
    let number : length (ranked c.new-2.result)
    ≡ length c.in_ok-picks.picks = ranked-number c.args.covers.now c.in_ok-picks.picks c.new-2.result (in-order g c) in
    rw number c.in_ok-picks.ensures.ticks
