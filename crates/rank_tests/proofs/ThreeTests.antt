-- The ranking of the three tests.
use Rattle.std.proofs.Common.{◌≡◌, ℕ, zero, suc, ◌<◌, ◌≤◌, ◌+◌, ◌*◌, List, [], ◌∷◌, length, arith, refl, sym, ap, ◌∙◌, subst}
use Rattle.test_rank.specs.declared.ranking.RankRow.{RankRow}
use Rattle.test_rank.specs.Ranking.{Covers, gain, AreChosen, next, complete, IsRanking, ranked, pairs_of}
use Rattle.test_rank.specs.Laws.{OneRanking}
use Rattle.rank_tests.specs.ThreeTests.{three_covers, three_rows}

-- behind no test, behind the first, and behind both
first_most : (other : ℕ) → gain three_covers [] other ≤ 3
first_most zero = omega arith
first_most (suc zero) = omega arith
first_most (suc (suc zero)) = omega arith
first_most (suc (suc (suc n))) = omega arith

second_most : (other : ℕ) → gain three_covers (0 ∷ []) other ≤ 1
second_most zero = omega arith
second_most (suc zero) = omega arith
second_most (suc (suc zero)) = omega arith
second_most (suc (suc (suc n))) = omega arith

second_earliest : (other : ℕ) → other < 1 → gain three_covers (0 ∷ []) other < 1
second_earliest zero l = omega arith
second_earliest (suc n) l = absurd (omega arith)

none_left : (other : ℕ) → gain three_covers (0 ∷ 1 ∷ []) other ≡ 0
none_left zero = refl
none_left (suc zero) = refl
none_left (suc (suc zero)) = refl
none_left (suc (suc (suc n))) = refl

two_chosen : AreChosen three_covers (0 ∷ 1 ∷ [])
two_chosen = next (record { given = omega arith; adds = omega arith; most = first_most; earliest = λ other l. absurd (omega arith) })
    (next (record { given = omega arith; adds = omega arith; most = second_most; earliest = second_earliest }) (complete none_left))

is_ranking : IsRanking three_covers three_rows
is_ranking = record { chosen = 0 ∷ 1 ∷ []; are_chosen = two_chosen; in_order = refl }

-- since tests have one ranking, it is this one, and takes at most 16 steps
pub the_rows : OneRanking → (covers : Covers) (rows : List RankRow) → covers ≡ three_covers → IsRanking covers rows → rows ≡ three_rows
the_rows one covers rows same is = one three_covers rows three_rows (subst (λ (c : Covers). IsRanking c rows) same is) is_ranking

pub few_steps : (covers : Covers) (rows : List RankRow) (before after : ℕ) → covers ≡ three_covers → rows ≡ three_rows
    → after ≤ before + length covers + pairs_of covers + length covers * length (ranked rows) → after ≤ before + 16
few_steps covers rows before after same are ticks =
    let a = ap length same in
    let b = ap pairs_of same in
    let d = ap (λ (rs : List RankRow). length (ranked rs)) are in
    let e = ap (λ (n : ℕ). n * length (ranked rows)) a in
    omega arith
