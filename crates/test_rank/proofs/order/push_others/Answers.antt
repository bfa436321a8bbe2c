use Rattle.std.proofs.Common.{◌≡◌, ℕ, suc, ◌+◌, ◌<◌, Bool, true, false, length, drop, List, [], ◌∷◌, ◌++◌, arith, sym, ◌∙◌, ap, add-one, append_assoc}
use Rattle.test_rank.specs.Ranking.{rank_row}
use Rattle.test_rank.specs.Choosing.{unchosen_rows}
use Rattle.test_rank.specs.Counting.{marked}
use Rattle.test_rank.specs.declared.ranking.RankRow.{RankRow}
use Rattle.std.proofs.Math.Seq.{drop-cons}
use Rattle.test_rank.proofs.order.push_others.Goals.{then-not-has+in_ok-push, else-not-has}
use Rattle.test_rank.proofs.order.push_others.Goals as goal

-- the rows from a test on
chosen-step : (covers : List (List ℕ)) (c : ℕ → Bool) (n : ℕ) → n < length covers → c n ≡ true
    → unchosen_rows covers c n (drop n covers) ≡ unchosen_rows covers c (n + 1) (drop (n + 1) covers)
chosen-step covers c n h is = rw (add-one n, drop-cons covers n [] h) (rw is (ap (λ (k : ℕ). unchosen_rows covers c k (drop (suc n) covers)) (add-one n)))

other-step : (covers : List (List ℕ)) (c : ℕ → Bool) (n : ℕ) → n < length covers → c n ≡ false
    → unchosen_rows covers c n (drop n covers) ≡ rank_row covers n 0 0 ∷ unchosen_rows covers c (n + 1) (drop (n + 1) covers)
other-step covers c n h is =
    rw (add-one n, drop-cons covers n [] h) (rw is (ap (λ (k : ℕ). rank_row covers n 0 0 ∷ unchosen_rows covers c k (drop (suc n) covers)) (add-one n)))

pub tests-preserved : goal.tests-preserved
tests-preserved c =
    let covers = c.args.covers.now in
    let n = c.tests.test in
    let marks = marked c.args.chosen.now in
    let within : n < length covers = omega arith in
    elim c.if-not-has.branch [
      | then-not-has+in_ok-push w ↦
          let points = w.points_of.ensures in
          ap (λ (rs : List RankRow). rs ++ unchosen_rows covers marks (n + 1) (drop (n + 1) covers)) (w.rows-is ∙ w.in_ok-push.ensures.ok)
          ∙ append_assoc c.tests.rows _ _
          ∙ ap (λ (ps : List ℕ). c.tests.rows
          ++ (record { test = n; rank = 0; rank_points = 0; covered = length ps }) ∷ unchosen_rows covers marks (n + 1) (drop (n + 1) covers)) points
          ∙ ap (λ (rs : List RankRow). c.tests.rows ++ rs) (sym (other-step covers marks n within (sym c.has.ensures ∙ w.if-not-has.true)))
          ∙ c.tests.invariant
      | else-not-has w ↦
          ap (λ (rs : List RankRow). rs ++ unchosen_rows covers marks (n + 1) (drop (n + 1) covers)) w.rows-is
          ∙ ap (λ (rs : List RankRow). c.tests.rows ++ rs) (sym (chosen-step covers marks n within (sym c.has.ensures ∙ w.if-not-has.false)))
          ∙ c.tests.invariant
    ]
