use Rattle.std.proofs.Common.{◌≡◌, ℕ, ◌+◌, ◌<◌, ◌≤◌, Bool, true, false, cond, not, ◌||◌, eqb, length, get_or, List, [], ◌∷◌, ◌++◌, map, filter, arith, refl}
use Rattle.std.proofs.Common.{sym, ◌∙◌, ap, subst, append_assoc, append-nil}
use Rattle.std.specs.List.{flat_map, enumerate_from}
use Rattle.std.proofs.lemmas.Bool.Decides.{nat_tests}
use Rattle.test_rank.specs.declared.choose.Pick.{Pick}
use Rattle.test_rank.specs.declared.ranking.RankRow.{RankRow}
use Rattle.test_rank.specs.Ranking.{Covers, points_of, is_among, covered_by, gain, ComesNext, AreChosenBehind, next, complete, AreChosen, rank_row, chosen_rows}
use Rattle.test_rank.specs.Ranking.{other_rows, IsRanking, ranked}
use Rattle.test_rank.specs.Laws.{ReachesAll}
use Rattle.test_rank.specs.Choosing.{pick, tests_of, picks_behind, BeginsChosen, picked_rows, unchosen_rows}
use Rattle.test_rank.specs.Counting.{total, AreGains}
use Rattle.test_rank.proofs.Covering.{among-pushed, covered-all, covered_by-pushed, gain-marked}
use Rattle.test_rank.proofs.Sums.{most-some}

-- what begins with one test more
pub begins-more : (covers : Covers) (begun : List ℕ) (test : ℕ) → BeginsChosen covers begun → ComesNext covers begun test
    → BeginsChosen covers (begun ++ test ∷ [])
begins-more covers begun test begins comes =
    λ rest behind. rw (append_assoc begun (test ∷ []) rest) (begins (test ∷ rest) (next comes behind))

-- what is begun is whole where no test adds a point
pub begins-whole : (covers : Covers) (begun : List ℕ) → BeginsChosen covers begun → ((other : ℕ) → gain covers begun other ≡ 0) → AreChosen covers begun
begins-whole covers begun begins none = subst (AreChosen covers) (append-nil begun) (begins [] (complete none))

pub tests_of-pushed : (picks : List Pick) (p : Pick) → tests_of (picks ++ p ∷ []) ≡ tests_of picks ++ p.test ∷ []
tests_of-pushed [] p = refl
tests_of-pushed (q ∷ picks) p = ap (λ (ts : List ℕ). q.test ∷ ts) (tests_of-pushed picks p)

pub picks-pushed : (covers : Covers) (before tests : List ℕ) (test : ℕ)
    → picks_behind covers before (tests ++ test ∷ []) ≡ picks_behind covers before tests ++ pick test (gain covers (before ++ tests) test) ∷ []
picks-pushed covers before [] test = rw (append-nil before) refl
picks-pushed covers before (t ∷ tests) test =
    ap (λ (ps : List Pick). pick t (gain covers before t) ∷ ps)
    (picks-pushed covers (before ++ t ∷ []) tests test ∙ ap (λ (ts : List ℕ). picks_behind covers (before ++ t ∷ []) tests
    ++ pick test (gain covers ts test) ∷ []) (append_assoc before (t ∷ []) tests))

pub length-tests : (picks : List Pick) → length (tests_of picks) ≡ length picks
length-tests [] = refl
length-tests (p ∷ picks) = let rest = length-tests picks in omega arith

pub length-picks : (covers : Covers) (before tests : List ℕ) → length (picks_behind covers before tests) ≡ length tests
length-picks covers before [] = refl
length-picks covers before (t ∷ tests) = let rest = length-picks covers (before ++ t ∷ []) tests in omega arith

-- the rows of the picks are those of the chosen tests
pub rows-picked : (covers : Covers) (before tests : List ℕ) → picked_rows covers (picks_behind covers before tests) ≡ chosen_rows covers before tests
rows-picked covers before [] = refl
rows-picked covers before (t ∷ tests) =
    ap (λ (n : ℕ). rank_row covers t (n + 1) (gain covers before t) ∷ picked_rows covers (picks_behind covers (before
    ++ t ∷ []) tests)) (length-picks covers (before ++ t ∷ []) tests)
    ∙ ap (λ (rs : List RankRow). rank_row covers t (length tests + 1) (gain covers before t) ∷ rs) (rows-picked covers (before ++ t ∷ []) tests)

-- marks that are those of the chosen tests leave the same others
pub unchosen-same : (covers : Covers) (c d : ℕ → Bool) (n : ℕ) (rest : List (List ℕ)) → ((t : ℕ) → c t ≡ d t)
    → unchosen_rows covers c n rest ≡ unchosen_rows covers d n rest
unchosen-same covers c d n [] same = refl
unchosen-same covers c d n (ps ∷ rest) same =
    let later = unchosen-same covers c d (n + 1) rest same in
    rw (same n) (elim (d n) as (λ t. map (λ (t : ℕ × List ℕ). rank_row covers t.0 0 0)
    (cond (not t) ((n, ps) ∷ filter (λ (t : ℕ × List ℕ). not (c t.0)) (enumerate_from (n + 1) rest))
    (filter (λ (t : ℕ × List ℕ). not (c t.0)) (enumerate_from (n + 1) rest)))
    ≡ map (λ (t : ℕ × List ℕ). rank_row covers t.0 0 0)
    (cond (not t) ((n, ps) ∷ filter (λ (t : ℕ × List ℕ). not (d t.0)) (enumerate_from (n + 1) rest))
    (filter (λ (t : ℕ × List ℕ). not (d t.0)) (enumerate_from (n + 1) rest)))) [
      | true ↦ later
      | false ↦ ap (λ (rs : List RankRow). rank_row covers n 0 0 ∷ rs) later
    ])

ranks : (n : ℕ) → eqb (n + 1) 0 ≡ false
ranks n = grind (arith, nat_tests)

-- the rows with a rank are those of the chosen tests
pub ranked-chosen : (covers : Covers) (before tests : List ℕ) (more : List RankRow)
    → ranked (chosen_rows covers before tests ++ more) ≡ chosen_rows covers before tests ++ ranked more
ranked-chosen covers before [] more = refl
ranked-chosen covers before (t ∷ tests) more =
    let above : eqb (length tests + 1) 0 ≡ false = ranks (length tests) in
    rw above (ap (λ (rs : List RankRow). rank_row covers t (length tests + 1) (gain covers before t) ∷ rs) (ranked-chosen covers (before ++ t ∷ []) tests more))

pub ranked-unchosen : (covers : Covers) (ts : List (ℕ × List ℕ)) → ranked (map (λ (t : ℕ × List ℕ). rank_row covers t.0 0 0) ts) ≡ []
ranked-unchosen covers [] = refl
ranked-unchosen covers (t ∷ ts) = ranked-unchosen covers ts

pub ranked-rows : (covers : Covers) (chosen : List ℕ) → ranked (chosen_rows covers [] chosen ++ other_rows covers chosen) ≡ chosen_rows covers [] chosen
ranked-rows covers chosen =
    ranked-chosen covers [] chosen (other_rows covers chosen)
    ∙ ap (λ (rs : List RankRow). chosen_rows covers [] chosen
    ++ rs) (ranked-unchosen covers (filter (λ (t : ℕ × List ℕ). not (is_among chosen t.0)) (enumerate_from 0 covers)))
    ∙ append-nil (chosen_rows covers [] chosen)

pub length-chosen : (covers : Covers) (before tests : List ℕ) → length (chosen_rows covers before tests) ≡ length tests
length-chosen covers before [] = refl
length-chosen covers before (t ∷ tests) = let rest = length-chosen covers (before ++ t ∷ []) tests in omega arith

points-chosen : (covers : Covers) (before tests : List ℕ) → flat_map (λ (r : RankRow). points_of covers r.test) (chosen_rows covers before tests)
    ≡ covered_by covers tests
points-chosen covers before [] = refl
points-chosen covers before (t ∷ tests) = ap (λ (ps : List ℕ). points_of covers t ++ ps) (points-chosen covers (before ++ t ∷ []) tests)

-- behind the chosen tests no test adds a point
none-left : (covers : Covers) (before tests : List ℕ) → AreChosenBehind covers before tests → (other : ℕ) → gain covers (before ++ tests) other ≡ 0
none-left covers before _ (complete none) other = rw (append-nil before) (none other)
none-left covers before _ (next {tests = tests} {test = test} comes behind) other =
    subst (λ (ts : List ℕ). gain covers ts other ≡ 0) (append_assoc before (test ∷ []) tests) (none-left covers (before ++ test ∷ []) tests behind other)

-- so each point is covered by a chosen test
pub reaches : (covers : Covers) (rows : List RankRow) → IsRanking covers rows → ReachesAll covers rows
reaches covers rows is = λ test point among.
    let all : is_among (covered_by covers is.chosen) point
    ≡ true = covered-all (is_among (covered_by covers is.chosen)) (points_of covers test) point (none-left covers [] is.chosen is.are_chosen test) among in
    subst (λ (ps : List ℕ). is_among ps point ≡ true)
    (sym (points-chosen covers [] is.chosen) ∙ ap (λ (rs : List RankRow). flat_map (λ (r : RankRow). points_of covers r.test) rs) (sym (ap ranked is.in_order
    ∙ ranked-rows covers is.chosen))) all

-- the earliest of the greatest gains comes next
pub comes-next : (covers : Covers) (chosen : List ℕ) (c : ℕ → Bool) (gains : List ℕ) (best : ℕ) → ((p : ℕ) → c p ≡ is_among (covered_by covers chosen) p)
    → AreGains covers c gains
    → best < length covers → ((t : ℕ) → get_or gains t 0 ≤ get_or gains best 0) → ((t : ℕ) → t < best → get_or gains t 0 < get_or gains best 0)
    → 0 < total gains
    → ComesNext covers chosen best
comes-next covers chosen c gains best same are given most earliest some =
    let here = gain-marked covers chosen c gains best same are in
    record {
      given = given;
      adds = let above = most-some gains best most some in omega arith;
      most = λ t. let there = gain-marked covers chosen c gains t same are in let m = most t in omega arith;
      earliest = λ t l. let there = gain-marked covers chosen c gains t same are in let m = earliest t l in omega arith;
    }

-- one pick more
pub step-points : (covers : Covers) (picks more : List Pick) (best got : ℕ) → more ≡ picks ++ pick best got ∷ []
    → picks ≡ picks_behind covers [] (tests_of picks) → got ≡ gain covers (tests_of picks) best
    → more ≡ picks_behind covers [] (tests_of more)
step-points covers picks more best got is before gained =
    is ∙ ap (λ (n : ℕ). picks ++ pick best n ∷ []) gained ∙ ap (λ (ps : List Pick). ps ++ pick best (gain covers (tests_of picks) best) ∷ []) before
    ∙ sym (picks-pushed covers [] (tests_of picks) best) ∙ ap (picks_behind covers []) (sym (ap tests_of is ∙ tests_of-pushed picks (pick best got)))

pub step-tests : (picks more : List Pick) (best got : ℕ) → more ≡ picks ++ pick best got ∷ [] → tests_of more ≡ tests_of picks ++ best ∷ []
step-tests picks more best got is = ap tests_of is ∙ tests_of-pushed picks (pick best got)

pub step-covered : (covers : Covers) (tests more : List ℕ) (best : ℕ) (c d : ℕ → Bool) → more ≡ tests ++ best ∷ [] → ((p : ℕ)
    → c p ≡ is_among (covered_by covers tests) p) → ((p : ℕ) → d p ≡ (c p || is_among (points_of covers best) p))
    → (p : ℕ) → d p ≡ is_among (covered_by covers more) p
step-covered covers tests more best c d is before after p =
    after p ∙ ap (λ (b : Bool). b || is_among (points_of covers best) p) (before p) ∙ sym (covered_by-pushed covers tests best p)
    ∙ ap (λ (ts : List ℕ). is_among (covered_by covers ts) p) (sym is)

pub step-marks : (tests more : List ℕ) (best : ℕ) (c d : ℕ → Bool) → more ≡ tests ++ best ∷ [] → ((t : ℕ) → c t ≡ is_among tests t) → ((t : ℕ)
    → d t ≡ (c t || eqb t best)) → (t : ℕ) → d t ≡ is_among more t
step-marks tests more best c d is before after t =
    after t ∙ ap (λ (b : Bool). b || eqb t best) (before t) ∙ sym (among-pushed tests best t) ∙ ap (λ (ts : List ℕ). is_among ts t) (sym is)

-- the rows of the picks and those of the others are the rows of a ranking
pub rows-in-order : (covers : Covers) (picks : List Pick) (c : ℕ → Bool) → picks ≡ picks_behind covers [] (tests_of picks) → ((t : ℕ)
    → c t ≡ is_among (tests_of picks) t)
    → picked_rows covers picks ++ unchosen_rows covers c 0 covers ≡ chosen_rows covers [] (tests_of picks) ++ other_rows covers (tests_of picks)
rows-in-order covers picks c points marks =
    ap (λ (rs : List RankRow). rs ++ unchosen_rows covers c 0 covers) (ap (picked_rows covers) points ∙ rows-picked covers [] (tests_of picks))
    ∙ ap (λ (rs : List RankRow). chosen_rows covers [] (tests_of picks) ++ rs) (unchosen-same covers c (is_among (tests_of picks)) 0 covers marks)

-- as many rows have a rank as there are picks
pub ranked-number : (covers : Covers) (picks : List Pick) (rows : List RankRow)
    → rows ≡ chosen_rows covers [] (tests_of picks) ++ other_rows covers (tests_of picks) → length (ranked rows) ≡ length picks
ranked-number covers picks rows is = ap (λ (rs : List RankRow). length (ranked rs)) is ∙ ap length (ranked-rows covers (tests_of picks))
    ∙ length-chosen covers [] (tests_of picks) ∙ length-tests picks
