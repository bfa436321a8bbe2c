use Rattle.std.proofs.Common.{◌≡◌, ℕ, ◌<◌, ◌≤◌, List, [], ◌∷◌, ◌++◌, arith, refl, sym, ◌∙◌, ap, subst, ⊎_elim}
use Rattle.std.proofs.lemmas.Bool.{cases_lt}
use Rattle.test_rank.specs.Ranking.{Covers, ComesNext, AreChosenBehind, next, complete, chosen_rows, other_rows}
use Rattle.test_rank.specs.Laws.{OneRanking}

-- one test comes next
one-next : (covers : Covers) (before : List ℕ) (test other : ℕ) → ComesNext covers before test → ComesNext covers before other → test ≡ other
one-next covers before test other a b =
    let most-a = a.most other in
    let most-b = b.most test in
    ⊎_elim (λ (l : test < other). let e = b.earliest test l in absurd (omega arith))
    (λ (ge : other ≤ test). ⊎_elim (λ (l : other < test). let e = a.earliest other l in
    absurd (omega arith)) (λ (le : test ≤ other). omega arith) (cases_lt other test))
    (cases_lt test other)

one-chosen : (covers : Covers) (before tests others : List ℕ) → AreChosenBehind covers before tests → AreChosenBehind covers before others → tests ≡ others
one-chosen covers before _ _ (complete none) (complete none') = refl
one-chosen covers before _ _ (complete none) (next {test = other} comes behind) = let adds = comes.adds in let zero = none other in absurd (omega arith)
one-chosen covers before _ _ (next {test = test} comes behind) (complete none) = let adds = comes.adds in let zero = none test in absurd (omega arith)
one-chosen covers before _ _ (next {tests = tests} {test = test} comes behind) (next {tests = others} {test = other} comes' behind') =
    let same : test ≡ other = one-next covers before test other comes comes' in
    ap (λ (t : ℕ). t ∷ tests) same
    ∙ ap (λ (ts : List ℕ). other ∷ ts) (one-chosen covers (before ++ test ∷ []) tests others behind (subst (λ (t : ℕ). AreChosenBehind covers (before
    ++ t ∷ []) others) (sym same) behind'))

pub one-ranking : OneRanking
one-ranking covers rows others is are =
    let same : is.chosen ≡ are.chosen = one-chosen covers [] is.chosen are.chosen is.are_chosen are.are_chosen in
    is.in_order ∙ ap (λ (ts : List ℕ). chosen_rows covers [] ts ++ other_rows covers ts) same ∙ sym are.in_order
