-- Line lists that are written are read as they were.
use Rattle.std.proofs.Common.{◌≡◌, ℕ, zero, suc, ◌+◌, ◌-◌, ◌<◌, ◌≤◌, ◌^◌, Bool, true, false, cond, not, ◌||◌, ◌&&◌, eqb, List, [], ◌∷◌, ◌++◌, length, map, take}
use Rattle.std.proofs.Common.{drop, Option, None, Some, refl, sym, ◌∙◌, ap, arith, append_assoc, inl, inr, rules}
use Rattle.std.specs.Fmt.{decimal}
use Rattle.std.specs.List.{AllByRecursion, after_first, before_first, list_all, list_any, position_or_len, slice_split, onto_first}
use Rattle.std.specs.Option.{option_map}
use Rattle.std.specs.Prelude.{codes, nat_le}
use Rattle.std.proofs.lemmas.Bool.{cases_Bool, eqb-true, true≢false, false≢true}
use Rattle.std.proofs.lemmas.Bool.Decides.{nat_tests}
use Rattle.std.proofs.lemmas.Fmt.{decimal_nonempty, digits_decimal, digits_value-decimal, length-decimal-le}
use Rattle.std.proofs.Math.Seq.{drop-append-add}
use Rattle.std.proofs.lemmas.List.{take_at}
use Rattle.std.proofs.lemmas.Str.Parse.{IsNumeralModel, numerals_by_weight}
use Rattle.cov_types.specs.LineLists.{lines_text, range_text, separated}
use Rattle.cov_types.specs.declared.line_range.LineRange.{LineRange}
use Rattle.cov_port.specs.Decimal.{decimal_of, is_decimal, is_digit, value_of}
use Rattle.cov_port.specs.LineReading.{MayBeRead, ReadsAgain, all_there, line_number, run_between, run_of, runs_of}

-- digits and their value are those of std
own : IsNumeralModel (λ ds. list_all is_digit ds ≡ true) value_of
own = numerals_by_weight (λ ds. list_all is_digit ds ≡ true) (search rules) value_of (search rules)

fits : (n : ℕ) → n ≤ 4194304 → n < 2 ^ 64
fits n few = omega arith

all_digits : (n : ℕ) → n ≤ 4194304 → list_all is_digit (decimal n) ≡ true
all_digits n few = digits_decimal own n (fits n few)

both_tests : (a b c : Bool) → a ≡ true → b ≡ true → c ≡ true → ((a && b) && c) ≡ true
both_tests a b c first second third = rw (first, second, third) refl

taken : (text : List ℕ) (n : ℕ) → is_decimal text ≡ true → value_of text ≡ n → nat_le n 4194304 ≡ true → decimal_of text 4194304 ≡ Some n
taken text n test value few = rw (test, value, few) refl

-- a number of a line is read as it was written
number_again : (n : ℕ) → 1 ≤ n → n ≤ 4194304 → line_number (decimal n) ≡ Some n
number_again n some few =
    let one : nat_le 1 (length (decimal n)) ≡ true = let h = decimal_nonempty n (fits n few) in grind (arith, nat_tests) in
    let twenty : nat_le (length (decimal n)) 20 ≡ true = let h = length-decimal-le 20 n (omega arith) (omega arith) (fits n few) in grind (arith, nat_tests) in
    let within : nat_le n 4194304 ≡ true = grind (arith, nat_tests) in
    let positive : nat_le 1 n ≡ true = grind (arith, nat_tests) in
    let read = taken (decimal n) n (both_tests _ _ _ one twenty (all_digits n few)) (digits_value-decimal own n (fits n few)) within in
    rw (read, positive) refl

-- a byte that is no digit is in no number
no_digit_is : (c b : ℕ) → is_digit c ≡ false → is_digit b ≡ true → eqb b c ≡ false
no_digit_is c b other digit = elim (cases_Bool (eqb b c)) [
  | inl same ↦ absurd (true≢false (sym digit ∙ ap is_digit (eqb-true b c same) ∙ other))
  | inr apart ↦ apart
]

split_and : (a b : Bool) → (a && b) ≡ true → (a ≡ true) × (b ≡ true)
split_and true b is = (refl, is)
split_and false b is = absurd (false≢true is)

without : (c : ℕ) (ds : List ℕ) → is_digit c ≡ false → list_all is_digit ds ≡ true → list_any (λ b. eqb b c) ds ≡ false
without c [] other all = refl
without c (d ∷ ds) other all =
    let parts = split_and (is_digit d) (list_all is_digit ds) all in
    rw (no_digit_is c d other parts.0) (without c ds other parts.1)

any-append : (p : ℕ → Bool) (xs ys : List ℕ) → list_any p xs ≡ false → list_any p (xs ++ ys) ≡ list_any p ys
any-append p [] ys none = refl
any-append p (x ∷ xs) ys none = elim (p x) as (λ t. (t || list_any p xs) ≡ false → (t || list_any p (xs ++ ys)) ≡ list_any p ys) [
  | true ↦ λ h. absurd (true≢false h)
  | false ↦ λ h. any-append p xs ys h
] none

-- the first place behind elements that don't pass
position-behind : (p : ℕ → Bool) (xs : List ℕ) (y : ℕ) (ys : List ℕ) → list_any p xs ≡ false → p y ≡ true → position_or_len p (xs ++ y ∷ ys) ≡ length xs
position-behind p [] y ys none here = ap (λ (t : Bool). cond (not t) (1 + position_or_len p ys) 0) here
position-behind p (x ∷ xs) y ys none here =
    elim (p x) as (λ t. (t || list_any p xs) ≡ false → cond (not t) (1 + position_or_len p (xs ++ y ∷ ys)) 0 ≡ suc (length xs)) [
      | true ↦ λ h. absurd (true≢false h)
      | false ↦ λ h. let e = position-behind p xs y ys h here in omega arith
    ] none

-- parts: a text without the mark, alone or before one
split-alone : (p : ℕ → Bool) (xs : List ℕ) → list_any p xs ≡ false → slice_split p xs ≡ xs ∷ []
split-alone p [] none = refl
split-alone p (x ∷ xs) none = elim (p x) as (λ t. (t || list_any p xs) ≡ false
    → cond t ([] ∷ slice_split p xs) (onto_first x (slice_split p xs)) ≡ (x ∷ xs) ∷ []) [
      | true ↦ λ h. absurd (true≢false h)
      | false ↦ λ h. ap (onto_first x) (split-alone p xs h)
    ] none

split-before : (p : ℕ → Bool) (xs : List ℕ) (y : ℕ) (ys : List ℕ) → list_any p xs ≡ false → p y ≡ true → slice_split p (xs ++ y ∷ ys) ≡ xs ∷ slice_split p ys
split-before p [] y ys none here = ap (λ (t : Bool). cond t ([] ∷ slice_split p ys) (onto_first y (slice_split p ys))) here
split-before p (x ∷ xs) y ys none here =
    elim (p x) as (λ t. (t || list_any p xs) ≡ false
    → cond t ([] ∷ slice_split p (xs ++ y ∷ ys)) (onto_first x (slice_split p (xs ++ y ∷ ys))) ≡ (x ∷ xs) ∷ slice_split p ys) [
      | true ↦ λ h. absurd (true≢false h)
      | false ↦ λ h. ap (onto_first x) (split-before p xs y ys h here)
    ] none

drop-behind : (xs : List ℕ) (y : ℕ) (ys : List ℕ) → drop (length xs + 1) (xs ++ y ∷ ys) ≡ ys
drop-behind xs y ys = drop-append-add xs (y ∷ ys) 1

-- a run of two numbers
run-two : (from to : ℕ) → 1 ≤ from → from ≤ to → to ≤ 4194304 → run_of (decimal from ++ 45 ∷ decimal to) ≡ Some (record { from = from; to = to })
run-two from to some order few =
    let dash : ℕ → Bool = λ b. eqb b 45 in
    let none : list_any dash (decimal from) ≡ false = without 45 (decimal from) refl (all_digits from (omega arith)) in
    let there : list_any dash (decimal from ++ 45 ∷ decimal to) ≡ true = any-append dash (decimal from) (45 ∷ decimal to) none in
    let at : position_or_len dash (decimal from ++ 45 ∷ decimal to) ≡ length (decimal from) = position-behind dash (decimal from) 45 (decimal to) none refl in
    let front : take (length (decimal from)) (decimal from ++ 45 ∷ decimal to)
    ≡ decimal from = take_at (decimal from) (45 ∷ decimal to) (length (decimal from)) refl in
    let behind : drop (length (decimal from) + 1) (decimal from ++ 45 ∷ decimal to) ≡ decimal to =
    drop-behind (decimal from) 45 (decimal to) in
    let less : nat_le from to ≡ true = grind (arith, nat_tests) in
    rw (there, at, front, behind, number_again from some (omega arith), number_again to (omega arith) few, less) refl

-- a run of one number
run-one : (from : ℕ) → 1 ≤ from → from ≤ 4194304 → run_of (decimal from) ≡ Some (record { from = from; to = from })
run-one from some few =
    let none : list_any (λ b. eqb b 45) (decimal from) ≡ false = without 45 (decimal from) refl (all_digits from few) in
    let less : nat_le from from ≡ true = grind (arith, nat_tests) in
    rw (none, number_again from some few, less) refl

-- what the text of a run is, by whether its ends are equal
text_by : (r : LineRange) (t : Bool) → eqb r.from r.to ≡ t → range_text r ≡ cond t (decimal r.from) (decimal r.from ++ 45 ∷ decimal r.to)
text_by r true is = ap (λ (t : Bool). cond t (decimal r.from) (decimal r.from ++ codes "-" ++ decimal r.to)) is
text_by r false is =
    ap (λ (t : Bool). cond t (decimal r.from) (decimal r.from ++ codes "-" ++ decimal r.to)) is ∙ append_assoc (decimal r.from) (45 ∷ []) (decimal r.to)

-- a run is read as it was written
run_again : (r : LineRange) → MayBeRead r → run_of (range_text r) ≡ Some r
run_again r may = elim (cases_Bool (eqb r.from r.to)) [
  | inl same ↦ ap run_of (text_by r true same) ∙ run-one r.from may.first (omega (arith, may.order, may.last))
      ∙ ap (λ (n : ℕ). Some (record { from = r.from; to = n })) (eqb-true r.from r.to same)
  | inr other ↦ ap run_of (text_by r false other) ∙ run-two r.from r.to may.first may.order may.last
]

-- and it has no comma
no_comma : (r : LineRange) → MayBeRead r → list_any (λ b. eqb b 44) (range_text r) ≡ false
no_comma r may =
    let comma : ℕ → Bool = λ b. eqb b 44 in
    let from : list_any comma (decimal r.from) ≡ false = without 44 (decimal r.from) refl (all_digits r.from (omega (arith, may.order, may.last))) in
    let to : list_any comma (decimal r.to) ≡ false = without 44 (decimal r.to) refl (all_digits r.to may.last) in
    elim (cases_Bool (eqb r.from r.to)) [
      | inl same ↦ ap (list_any comma) (text_by r true same) ∙ from
      | inr other ↦ ap (list_any comma) (text_by r false other) ∙ any-append comma (decimal r.from) (45 ∷ decimal r.to) from ∙ to
    ]

reads_more : (rs : List LineRange) (r : LineRange) → AllByRecursion MayBeRead (r ∷ rs) → runs_of (lines_text (r ∷ rs)) ≡ Some (r ∷ rs)
reads_more [] r may = rw (split-alone (λ b. eqb b 44) (range_text r) (no_comma r may.0), run_again r may.0) refl
reads_more (q ∷ rs) r may =
    let rest = lines_text (q ∷ rs) in
    let cut : slice_split (λ b. eqb b 44) (range_text r ++ 44 ∷ rest) ≡ range_text r ∷ slice_split (λ b. eqb b 44) rest =
    split-before (λ b. eqb b 44) (range_text r) 44 rest (no_comma r may.0) refl in
    ap runs_of (append_assoc (range_text r) (44 ∷ []) rest)
    ∙ ap (λ (ts : List (List ℕ)). all_there (map run_of ts)) cut
    ∙ ap (λ (o : Option LineRange). all_there (o ∷ map run_of (slice_split (λ b. eqb b 44) rest))) (run_again r may.0)
    ∙ ap (option_map (λ more. r ∷ more)) (reads_more rs q may.1)

pub reads_again : ReadsAgain
reads_again [] some may = absurd (omega arith)
reads_again (r ∷ rs) some may = reads_more rs r may
