-- The runs of lines that don't descend are their line list.
use Rattle.std.proofs.Common.{◌≡◌, ◌↔◌, ◌⊎◌, inl, inr, ℕ, suc, ◌-◌, ◌<◌, ◌≤◌, Bool, true, false, cond, nat_lt, List, [], ◌∷◌, length, get_or, Result, Ok, Err}
use Rattle.std.proofs.Common.{refl, subst, sym, arith}
use Rattle.std.specs.Prelude.{Contains, IfOk}
use Rattle.std.specs.List.Sorted.{IsNonDecreasing}
use Rattle.std.proofs.lemmas.Bool.{ltb-true, ltb-false}
use Rattle.std.proofs.lemmas.List.Elements.{Contains-append_right, Contains-append_cases, Contains-push_cases}
use Rattle.cov_types.specs.declared.line_range.LineRange.{LineRange}
use Rattle.cov_types.specs.LineLists.{IsInRuns, AreRuns, IsLineListOf}

-- one line
abbrev pub one : ℕ → LineRange
one n = record { from = n; to = n }

-- a run and the lines behind it, as runs
abbrev pub joined : LineRange → List ℕ → List LineRange
joined r [] = r ∷ []
joined r (x ∷ xs) = cond (nat_lt 1 (x - r.to)) (r ∷ joined (one x) xs) (joined (record { from = r.from; to = x }) xs)

-- all lines, as runs
abbrev pub runs : List ℕ → List LineRange
runs [] = []
runs (x ∷ xs) = joined (one x) xs

-- none descends, from a line on
abbrev Ascends : ℕ → List ℕ → Type 0
Ascends m [] = Unit {0}
Ascends m (x ∷ xs) = (m ≤ x) × Ascends x xs

ascends : (m : ℕ) (xs : List ℕ) → ((i j : ℕ) → i ≤ j → j < length xs → get_or xs i 0 ≤ get_or xs j 0) → (0 < length xs → m ≤ get_or xs 0 0) → Ascends m xs
ascends m [] up first = tt
ascends m (x ∷ xs) up first =
    (first (omega arith), ascends x xs (λ i j le lt. up (suc i) (suc j) (omega arith) (omega arith)) (λ lt. up 0 1 (omega arith) (omega arith)))

-- what holds either way of a test holds of its choice
chosen : (P : List LineRange → Type 0) (b : Bool) (rs qs : List LineRange) → (b ≡ true → P rs) → (b ≡ false → P qs) → P (cond b rs qs)
chosen P true rs qs holds fails = holds refl
chosen P false rs qs holds fails = fails refl

-- the first of the runs begins where the open one does
record Begins (r : LineRange) (rs : List LineRange) : Type 0 where
  first : LineRange
  rest : List LineRange
  is : rs ≡ first ∷ rest
  from : first.from ≡ r.from

begins : (r : LineRange) (xs : List ℕ) → Begins r (joined r xs)
begins r [] = record { first = r; rest = []; is = refl; from = refl }
begins r (x ∷ xs) =
    let longer : LineRange = record { from = r.from; to = x } in
    chosen (Begins r) (nat_lt 1 (x - r.to)) (r ∷ joined (one x) xs) (joined longer xs)
    (λ e. record { first = r; rest = joined (one x) xs; is = refl; from = refl })
    (λ e. let b = begins longer xs in record { first = b.first; rest = b.rest; is = b.is; from = b.from })

behind_gap : (r : LineRange) (x : ℕ) (rs : List LineRange) → r.from ≤ r.to → 1 < x - r.to → Begins (one x) rs → AreRuns rs → AreRuns (r ∷ rs)
behind_gap r x rs le gap b are =
    subst (λ (qs : List LineRange). AreRuns (r ∷ qs)) (sym b.is) (le, omega (arith, b.from), subst AreRuns b.is are)

are_runs : (r : LineRange) (xs : List ℕ) → r.from ≤ r.to → Ascends r.to xs → AreRuns (joined r xs)
are_runs r [] le up = le
are_runs r (x ∷ xs) le up =
    let longer : LineRange = record { from = r.from; to = x } in
    chosen AreRuns (nat_lt 1 (x - r.to)) (r ∷ joined (one x) xs) (joined longer xs)
    (λ e. behind_gap r x (joined (one x) xs) le (ltb-true 1 (x - r.to) e) (begins (one x) xs) (are_runs (one x) xs (omega arith) up.1))
    (λ e. are_runs longer xs (omega (arith, up.0)) up.1)

-- ---- the lines in runs

abbrev Within : LineRange → ℕ → Type 0
Within r n = (r.from ≤ n) × (n ≤ r.to)

here : {A : Type 0} (x : A) (xs : List A) → Contains (x ∷ xs) x
here x xs = (0, omega arith, refl)

lone : {A : Type 0} (x y : A) → Contains (x ∷ []) y → x ≡ y
lone x y h = elim (Contains-push_cases [] x y h) [ inl none ↦ absurd (omega (arith, none.1)) | inr e ↦ e ]

or_first : {A : Type 0} (x : A) (xs : List A) (y : A) → Contains (x ∷ xs) y → (x ≡ y) ⊎ Contains xs y
or_first x xs y h = elim (Contains-append_cases (x ∷ []) xs y h) [ inl c ↦ inl (lone x y c) | inr c ↦ inr c ]

first_run : (r : LineRange) (rs : List LineRange) (n : ℕ) → Within r n → IsInRuns (r ∷ rs) n
first_run r rs n w = (r, here r rs, w.0, w.1)

later_run : (r : LineRange) (rs : List LineRange) (n : ℕ) → IsInRuns rs n → IsInRuns (r ∷ rs) n
later_run r rs n h = (h.0, Contains-append_right (r ∷ []) rs h.0 h.1, h.2, h.3)

some_run : (r : LineRange) (rs : List LineRange) (n : ℕ) → IsInRuns (r ∷ rs) n → Within r n ⊎ IsInRuns rs n
some_run r rs n h = elim (or_first r rs h.0 h.1) [
  | inl e ↦ inl (subst (λ (q : LineRange). Within q n) (sym e) (h.2, h.3))
  | inr c ↦ inr (h.0, c, h.2, h.3)
]

below_or_above : (n m : ℕ) → (n ≤ m) ⊎ (m < n)
below_or_above n m = by_test (nat_lt m n) refl
  where
    by_test : (b : Bool) → nat_lt m n ≡ b → (n ≤ m) ⊎ (m < n)
    by_test true e = inr (ltb-true m n e)
    by_test false e = inl (ltb-false m n e)

-- where the line behind a run isn't right behind it
out_of_gap : (r : LineRange) (x : ℕ) (xs : List ℕ) (n : ℕ) → Within (one x) n ⊎ Contains xs n → Contains (x ∷ xs) n
out_of_gap r x xs n h = elim h [
  | inl w ↦ subst (λ (k : ℕ). Contains (x ∷ xs) k) (omega (arith, w.0, w.1)) (here x xs)
  | inr c ↦ Contains-append_right (x ∷ []) xs n c
]

into_gap : (x : ℕ) (xs : List ℕ) (n : ℕ) → Contains (x ∷ xs) n → Within (one x) n ⊎ Contains xs n
into_gap x xs n h = elim (or_first x xs n h) [ inl e ↦ inl (omega (arith, e), omega (arith, e)) | inr c ↦ inr c ]

-- where it is
out_of_longer : (r : LineRange) (x : ℕ) (xs : List ℕ) (n : ℕ) → x - r.to ≤ 1 → Within (record { from = r.from; to = x }) n ⊎ Contains xs n
    → Within r n ⊎ Contains (x ∷ xs) n
out_of_longer r x xs n near h = elim h [
  | inl w ↦ elim (below_or_above n r.to) [
    | inl le ↦ inl (w.0, le)
    | inr lt ↦ inr (subst (λ (k : ℕ). Contains (x ∷ xs) k) (omega (arith, w.1, lt, near)) (here x xs))
  ]
  | inr c ↦ inr (Contains-append_right (x ∷ []) xs n c)
]

into_longer : (r : LineRange) (x : ℕ) (xs : List ℕ) (n : ℕ) → r.from ≤ r.to → r.to ≤ x → Within r n ⊎ Contains (x ∷ xs) n
    → Within (record { from = r.from; to = x }) n ⊎ Contains xs n
into_longer r x xs n le up h = elim h [
  | inl w ↦ inl (w.0, omega (arith, w.1, up))
  | inr c ↦ elim (or_first x xs n c) [ inl e ↦ inl (omega (arith, e, le, up), omega (arith, e)) | inr d ↦ inr d ]
]

abbrev Out : LineRange → List ℕ → ℕ → List LineRange → Type 0
Out r xs n rs = IsInRuns rs n → Within r n ⊎ Contains xs n

out : (r : LineRange) (xs : List ℕ) (n : ℕ) → Out r xs n (joined r xs)
out r [] n = λ h. elim (some_run r [] n h) [ inl w ↦ inl w | inr none ↦ absurd (omega (arith, none.1.1)) ]
out r (x ∷ xs) n =
    let longer : LineRange = record { from = r.from; to = x } in
    chosen (Out r (x ∷ xs) n) (nat_lt 1 (x - r.to)) (r ∷ joined (one x) xs) (joined longer xs)
    (λ e h. elim (some_run r (joined (one x) xs) n h) [ inl w ↦ inl w | inr later ↦ inr (out_of_gap r x xs n (out (one x) xs n later)) ])
    (λ e h. out_of_longer r x xs n (ltb-false 1 (x - r.to) e) (out longer xs n h))

abbrev In : LineRange → List ℕ → ℕ → List LineRange → Type 0
In r xs n rs = Within r n ⊎ Contains xs n → IsInRuns rs n

into : (r : LineRange) (xs : List ℕ) (n : ℕ) → r.from ≤ r.to → Ascends r.to xs → In r xs n (joined r xs)
into r [] n le up = λ h. elim h [ inl w ↦ first_run r [] n w | inr none ↦ absurd (omega (arith, none.1)) ]
into r (x ∷ xs) n le up =
    let longer : LineRange = record { from = r.from; to = x } in
    chosen (In r (x ∷ xs) n) (nat_lt 1 (x - r.to)) (r ∷ joined (one x) xs) (joined longer xs)
    (λ e h. elim h [
      | inl w ↦ first_run r (joined (one x) xs) n w
      | inr c ↦ later_run r (joined (one x) xs) n (into (one x) xs n (omega arith) up.1 (into_gap x xs n c))
    ])
    (λ e h. into longer xs n (omega (arith, up.0)) up.1 (into_longer r x xs n le up.0 h))

-- ---- the whole

none_in : (n : ℕ) → Contains [] n ↔ IsInRuns [] n
none_in n = (λ h. absurd (omega (arith, h.1)), λ h. absurd (omega (arith, h.1.1)))

pub line_list_of : (xs : List ℕ) → IsNonDecreasing xs → IsLineListOf (Contains xs) (runs xs)
line_list_of [] up = record { runs = tt; same = none_in }
line_list_of (x ∷ xs) up =
    let rest : Ascends x xs = ascends x xs (λ i j le lt. up (suc i) (suc j) 0 (omega arith) (omega arith)) (λ lt. up 0 1 0 (omega arith) (omega arith)) in
    record {
      runs = are_runs (one x) xs (omega arith) rest;
      same = λ n. (λ h. into (one x) xs n (omega arith) rest (into_gap x xs n h), λ h. out_of_gap (one x) x xs n (out (one x) xs n h));
    }

-- The lines may stand in another order, and be told in another way.
pub same_lines : {has other : ℕ → Type 0} (rs : List LineRange) → ((n : ℕ) → has n ↔ other n) → IsLineListOf has rs → IsLineListOf other rs
same_lines rs alike is = record { runs = is.runs; same = λ n. (λ h. (is.same n).0 ((alike n).1 h), λ h. (alike n).0 ((is.same n).1 h)) }

-- What is made of the lines in order is the line list of them as they are given.
pub in_order : {E : Type 0} (r : Result (List LineRange) E) (lines sorted now : List ℕ) → now ≡ sorted → IsNonDecreasing sorted
    → ((n : ℕ) → Contains lines n ↔ Contains sorted n) → (IsNonDecreasing now → IfOk r (IsLineListOf (Contains now)))
    → IfOk r (IsLineListOf (Contains lines))
in_order (Ok rs) lines sorted now same up alike made =
    same_lines rs (λ n. ((alike n).1, (alike n).0))
    (subst (λ (xs : List ℕ). IsLineListOf (Contains xs) rs) same (made (subst IsNonDecreasing (sym same) up)))
in_order (Err e) lines sorted now same up alike made = tt
