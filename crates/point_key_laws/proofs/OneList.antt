-- A set of numbers has one list of runs.
use Rattle.std.proofs.Common.{◌≡◌, ◌⊎◌, inl, inr, ℕ, zero, suc, ◌+◌, ◌<◌, ◌≤◌, List, [], ◌∷◌, length, get_or, refl, ap, ap₂, arith}
use Rattle.std.specs.Prelude.{◌↔◌}
use Rattle.std.proofs.lemmas.Bool.{cases_lt}
use Rattle.cov_types.specs.declared.line_range.LineRange.{LineRange}
use Rattle.cov_types.specs.LineLists.{AreRuns, IsInRuns, OneLineList}
use Rattle.point_key_laws.specs.LineLaws.{RunsTellLists}

-- the number lies in a run
abbrev IsWithin : LineRange → ℕ → Type 0
IsWithin r n = (r.from ≤ n) × (n ≤ r.to)

-- the number lies in one of the runs, run by run
abbrev pub LiesIn : List LineRange → ℕ → Type 0
LiesIn [] n = ⊥
LiesIn (r ∷ rs) n = IsWithin r n ⊎ LiesIn rs n

at_place : (rs : List LineRange) (k n : ℕ) (r : LineRange) → k < length rs → get_or rs k r ≡ r → IsWithin r n → LiesIn rs n
at_place [] k n r within is lies = absurd (omega arith)
at_place (q ∷ rs) zero n r within is lies =
    inl (omega (arith, ap (λ (a : LineRange). a.from) is, lies.0), omega (arith, ap (λ (a : LineRange). a.to) is, lies.1))
at_place (q ∷ rs) (suc k) n r within is lies = inr (at_place rs k n r (omega arith) is lies)

lies_in : (rs : List LineRange) (n : ℕ) → IsInRuns rs n → LiesIn rs n
lies_in rs n h = at_place rs h.1.0 n h.0 h.1.1 h.1.2 (h.2, h.3)

in_runs : (rs : List LineRange) (n : ℕ) → LiesIn rs n → IsInRuns rs n
in_runs [] n h = absurd h
in_runs (r ∷ rs) n (inl h) = (r, (0, omega arith, refl), h.0, h.1)
in_runs (r ∷ rs) n (inr h) = let more = in_runs rs n h in (more.0, (suc more.1.0, omega (arith, more.1.1), more.1.2), more.2, more.3)

-- the first run, and those behind it with a gap between
record Parts (r : LineRange) (rs : List LineRange) : Type 0 where
  order : r.from ≤ r.to
  rest : AreRuns rs
  gap : (n : ℕ) → LiesIn rs n → r.to + 1 < n

parts : (r : LineRange) (rs : List LineRange) → AreRuns (r ∷ rs) → Parts r rs
parts r [] a = record { order = a; rest = tt; gap = λ n h. absurd h }
parts r (q ∷ rs) a = let p = parts q rs a.2 in record {
  order = a.0;
  rest = a.2;
  gap = λ n h. elim h [
    | inl here ↦ omega (arith, a.1, here.0)
    | inr behind ↦ let past = p.gap n behind in omega (arith, a.1, p.order, past)
  ];
}

-- every number of the runs is at least the first
least : (r : LineRange) (rs : List LineRange) (n : ℕ) → Parts r rs → LiesIn (r ∷ rs) n → r.from ≤ n
least r rs n p (inl here) = here.0
least r rs n p (inr behind) = let past = p.gap n behind in omega (arith, p.order, past)

-- where all numbers of a list lie in another with the same first number, the first run ends no later there
ends_by : (r q : LineRange) (rs qs : List LineRange) → Parts r rs → Parts q qs → r.from ≡ q.from
    → ((n : ℕ) → LiesIn (q ∷ qs) n → LiesIn (r ∷ rs) n) → q.to ≤ r.to
ends_by r q rs qs p o same has = elim (cases_lt r.to q.to) as (λ _. q.to ≤ r.to) [
  | inl less ↦ elim (has (r.to + 1) (inl (omega (arith, same, p.order), omega arith))) as (λ _. q.to ≤ r.to) [
    | inl here ↦ absurd (omega (arith, here.1))
    | inr there ↦ let past = p.gap (r.to + 1) there in absurd (omega (arith, past))
  ]
  | inr more ↦ more
]

behind : (r q : LineRange) (rs qs : List LineRange) → Parts r rs → r.to ≡ q.to
    → ((n : ℕ) → LiesIn (r ∷ rs) n → LiesIn (q ∷ qs) n) → (n : ℕ) → LiesIn rs n → LiesIn qs n
behind r q rs qs p same has n h = let past = p.gap n h in elim (has n (inr h)) as (λ _. LiesIn qs n) [
  | inl here ↦ absurd (omega (arith, here.1, past, same))
  | inr more ↦ more
]

one : (rs qs : List LineRange) → AreRuns rs → AreRuns qs → ((n : ℕ) → LiesIn rs n ↔ LiesIn qs n) → rs ≡ qs
one [] [] a b same = refl
one [] (q ∷ qs) a b same = let p = parts q qs b in absurd ((same q.from).1 (inl (omega arith, p.order)))
one (r ∷ rs) [] a b same = let p = parts r rs a in absurd ((same r.from).0 (inl (omega arith, p.order)))
one (r ∷ rs) (q ∷ qs) a b same =
    let p = parts r rs a in
    let o = parts q qs b in
    let there = least q qs r.from o ((same r.from).0 (inl (omega arith, p.order))) in
    let here = least r rs q.from p ((same q.from).1 (inl (omega arith, o.order))) in
    let from : r.from ≡ q.from = omega (arith, there, here) in
    let back : q.from ≡ r.from = omega (arith, there, here) in
    let less = ends_by r q rs qs p o from (λ n. (same n).1) in
    let more = ends_by q r qs rs o p back (λ n. (same n).0) in
    let to : r.to ≡ q.to = omega (arith, less, more) in
    let to_back : q.to ≡ r.to = omega (arith, less, more) in
    let rest : rs ≡ qs = one rs qs p.rest o.rest (λ n. (behind r q rs qs p to (λ n. (same n).0) n, behind q r qs rs o to_back (λ n. (same n).1) n)) in
    ap₂ (λ (x : LineRange) (xs : List LineRange). x ∷ xs) (ap₂ (λ (x y : ℕ). record { from = x; to = y }) from to) rest

pub runs_tell_lists : RunsTellLists
runs_tell_lists rs qs a b same =
    one rs qs a b (λ n. (λ h. lies_in qs n ((same n).0 (in_runs rs n h)), λ h. lies_in rs n ((same n).1 (in_runs qs n h))))

pub one_line_list : OneLineList
one_line_list lines rs qs a b =
    runs_tell_lists rs qs a.runs b.runs (λ n. (λ h. (b.same n).0 ((a.same n).1 h), λ h. (a.same n).0 ((b.same n).1 h)))
