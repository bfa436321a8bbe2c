-- Keys by their numbers: how they grow, and which of them a test covers.
use Rattle.std.proofs.Common.{◌≡◌, ◌≢◌, ℕ, zero, suc, ◌+◌, ◌<◌, Bool, true, false, not, cond, ◌&&◌, ◌||◌, eqb, List, [], ◌∷◌, ◌++◌, length, map, filter, get_or}
use Rattle.std.proofs.Common.{inl, inr, refl, sym, ◌∙◌, ap, subst, arith}
use Rattle.std.specs.Prelude.{nat_le}
use Rattle.std.specs.List.{AllByRecursion, IsDistinct, list_any, enumerate_from, position_or_len, range_with_len}
use Rattle.std.specs.Str.{bytes_eq}
use Rattle.std.proofs.lemmas.Bool.{cases_Bool, false≢true, true≢false}
use Rattle.std.proofs.lemmas.Bool.Decides.{nat_tests}
use Rattle.std.proofs.lemmas.Cmp.{nat_list_eq_equiv}
use Rattle.std.proofs.lemmas.Slice.Eq.{bytes_eq-Decides}
use Rattle.cov_dat.specs.Merging.{Counts, added, first_keys, keys_of, merged, merged_count, saturated}
use Rattle.cov_dat.specs.declared.record_list.Record.{Record}
use Rattle.cov_dat.proofs.FirstKeyLemmas.{first_keys-distinct, with_key}
use Rattle.test_rank.specs.Ranking.{is_among}
use Rattle.cover_answer.specs.Gathering.{covered_points, covers_key}
use Rattle.cover_gather.proofs.PointLemmas.{eqb-is, eqb-same}

abbrev pub Keys : Type 0
Keys = List (List ℕ)

-- ---- keys of merged counts

keys_again : (f : List ℕ → ℕ) (ks : Keys) → keys_of (map (λ key. (key, f key)) ks) ≡ ks
keys_again f [] = refl
keys_again f (k ∷ ks) = ap (λ (l : Keys). k ∷ l) (keys_again f ks)

-- no merged key stands twice
pub merged_distinct : (rs : List Record) → IsDistinct bytes_eq (keys_of (merged rs))
merged_distinct rs =
    let ks = first_keys (map (λ (r : Record). r.key) rs) in
    subst (IsDistinct bytes_eq) (sym (keys_again (merged_count rs) ks)) (first_keys-distinct (map (λ (r : Record). r.key) rs))

onto : (t : Bool) (x k : List ℕ) (ks : Keys) → x ∷ cond t ks (ks ++ k ∷ []) ≡ cond t (x ∷ ks) (x ∷ ks ++ k ∷ [])
onto true x k ks = refl
onto false x k ks = refl

-- the keys with one count more
pub keys_added : (counts : Counts) (key : List ℕ) (count : ℕ) → keys_of (added counts key count) ≡ with_key (keys_of counts) key
keys_added [] key count = refl
keys_added (e ∷ es) key count =
    elim (bytes_eq key e.0) as (λ t. keys_of (cond t ((e.0, saturated (e.1 + count)) ∷ es) (e ∷ added es key count))
    ≡ cond (t || list_any (bytes_eq key) (keys_of es)) (e.0 ∷ keys_of es) (e.0 ∷ keys_of es ++ key ∷ [])) [
      | true ↦ refl
      | false ↦ ap (λ (l : Keys). e.0 ∷ l) (keys_added es key count) ∙ onto (list_any (bytes_eq key) (keys_of es)) e.0 key (keys_of es)
    ]

-- ---- known keys keep their numbers

abbrev pub number : Keys → List ℕ → ℕ
number ks key = position_or_len (bytes_eq key) ks

abbrev pub IsKnown : Keys → List ℕ → Type 0
IsKnown ks key = list_any (bytes_eq key) ks ≡ true

known_more : (ks more : Keys) (key : List ℕ) → IsKnown ks key → IsKnown (ks ++ more) key
known_more [] more key known = absurd (false≢true known)
known_more (k ∷ ks) more key known =
    elim (bytes_eq key k) as (λ t. (t || list_any (bytes_eq key) ks) ≡ true → (t || list_any (bytes_eq key) (ks ++ more)) ≡ true) [
      | true ↦ λ e. refl
      | false ↦ λ e. known_more ks more key e
    ] known

number_more : (ks more : Keys) (key : List ℕ) → IsKnown ks key → number (ks ++ more) key ≡ number ks key
number_more [] more key known = absurd (false≢true known)
number_more (k ∷ ks) more key known =
    elim (bytes_eq key k) as (λ t. (t || list_any (bytes_eq key) ks) ≡ true
    → cond (not t) (1 + number (ks ++ more) key) 0 ≡ cond (not t) (1 + number ks key) 0) [
      | true ↦ λ e. refl
      | false ↦ λ e. ap (λ (n : ℕ). 1 + n) (number_more ks more key e)
    ] known

known_last : (ks : Keys) (key : List ℕ) → IsKnown (ks ++ key ∷ []) key
known_last [] key = ap (λ (t : Bool). t || false) ((bytes_eq-Decides key key).1 refl)
known_last (k ∷ ks) key = elim (bytes_eq key k) as (λ t. (t || list_any (bytes_eq key) (ks ++ key ∷ [])) ≡ true) [ true ↦ refl | false ↦ known_last ks key ]

-- a key that is known stays so, with its number
pub known_grown : (ks : Keys) (new key : List ℕ) → IsKnown ks key → IsKnown (with_key ks new) key
known_grown ks new key known = elim (list_any (bytes_eq new) ks) as (λ t. IsKnown (cond t ks (ks ++ new ∷ [])) key) [
  | true ↦ known
  | false ↦ known_more ks (new ∷ []) key known
]

pub number_grown : (ks : Keys) (new key : List ℕ) → IsKnown ks key → number (with_key ks new) key ≡ number ks key
number_grown ks new key known = elim (list_any (bytes_eq new) ks) as (λ t. number (cond t ks (ks ++ new ∷ [])) key ≡ number ks key) [
  | true ↦ refl
  | false ↦ number_more ks (new ∷ []) key known
]

-- a key that is added is known
pub known_new : (ks : Keys) (new : List ℕ) → IsKnown (with_key ks new) new
known_new ks new = elim (list_any (bytes_eq new) ks) as (λ t. list_any (bytes_eq new) ks ≡ t → IsKnown (cond t ks (ks ++ new ∷ [])) new) [
  | true ↦ λ e. e
  | false ↦ λ e. known_last ks new
] refl

number_last : (ks : Keys) (new : List ℕ) → number (ks ++ new ∷ []) new ≡ number ks new
number_last [] new = ap (λ (t : Bool). cond (not t) (1 + 0) 0) ((bytes_eq-Decides new new).1 refl)
number_last (k ∷ ks) new = ap (λ (n : ℕ). cond (not (bytes_eq new k)) (1 + n) 0) (number_last ks new)

-- and its number is the one that it is told to have
pub number_new : (ks : Keys) (new : List ℕ) → number (with_key ks new) new ≡ number ks new
number_new ks new = elim (list_any (bytes_eq new) ks) as (λ t. number (cond t ks (ks ++ new ∷ [])) new ≡ number ks new) [
  | true ↦ refl
  | false ↦ number_last ks new
]

-- a known key's number is below the number of keys
pub number_below : (ks : Keys) (key : List ℕ) → IsKnown ks key → number ks key < length ks
number_below [] key known = absurd (false≢true known)
number_below (k ∷ ks) key known =
    elim (bytes_eq key k) as (λ t. (t || list_any (bytes_eq key) ks) ≡ true → cond (not t) (1 + number ks key) 0 < suc (length ks)) [
      | true ↦ λ e. omega arith
      | false ↦ λ e. let rest = number_below ks key e in omega arith
    ] known

-- ---- which key has a number

other_key : (k key : List ℕ) (ks : Keys) (i : ℕ) → bytes_eq key k ≡ true → AllByRecursion (λ y. bytes_eq k y ≡ false) ks → i < length ks
    → bytes_eq (get_or ks i []) key ≡ false
other_key k key [] i same apart within = absurd (omega arith)
other_key k key (q ∷ ks) zero same apart within =
    nat_list_eq_equiv.symm q key ∙ ap (λ (l : List ℕ). bytes_eq l q) ((bytes_eq-Decides key k).0 same) ∙ apart.0
other_key k key (q ∷ ks) (suc i) same apart within = other_key k key ks i same apart.1 (omega arith)

zero_apart : (n : ℕ) → eqb 0 (1 + n) ≡ false
zero_apart n = grind (arith, nat_tests)

next_apart : (i : ℕ) → eqb (suc i) 0 ≡ false
next_apart i = grind (arith, nat_tests)

next_same : (i n : ℕ) → eqb (suc i) (1 + n) ≡ eqb i n
next_same i n = elim (cases_Bool (eqb i n)) [
  | inl e ↦ sucs_same (eqb-is i n e) ∙ sym e
  | inr e ↦ sucs_apart (λ same. true≢false (sym (ap (λ (m : ℕ). eqb i m) (sym same) ∙ eqb-same i) ∙ e)) ∙ sym e
] where
  sucs_same : i ≡ n → eqb (suc i) (1 + n) ≡ true
  sucs_same same = grind (arith, nat_tests)

  sucs_apart : i ≢ n → eqb (suc i) (1 + n) ≡ false
  sucs_apart apart = grind (arith, nat_tests)

-- the key at a place is another one or the one with this number
pub at_number : (ks : Keys) (i : ℕ) (key : List ℕ) → IsDistinct bytes_eq ks → i < length ks → bytes_eq (get_or ks i []) key ≡ eqb i (number ks key)
unfolding IsDistinct
at_number [] i key distinct within = absurd (omega arith)
at_number (k ∷ ks) zero key distinct within =
    elim (bytes_eq key k) as (λ t. bytes_eq key k ≡ t → bytes_eq k key ≡ eqb 0 (cond (not t) (1 + number ks key) 0)) [
      | true ↦ λ e. nat_list_eq_equiv.symm k key ∙ e
      | false ↦ λ e. nat_list_eq_equiv.symm k key ∙ e ∙ sym (zero_apart (number ks key))
    ] refl
at_number (k ∷ ks) (suc i) key distinct within =
    elim (bytes_eq key k) as (λ t. bytes_eq key k ≡ t → bytes_eq (get_or ks i []) key ≡ eqb (suc i) (cond (not t) (1 + number ks key) 0)) [
      | true ↦ λ e. other_key k key ks i e distinct.0 (omega arith) ∙ sym (next_apart i)
      | false ↦ λ e. at_number ks i key distinct.1 (omega arith) ∙ sym (next_same i (number ks key))
    ] refl

-- ---- the points of a test

-- the numbers of the keys of records of at least 1, in order
abbrev pub numbers : Keys → List Record → List ℕ
numbers ks [] = []
numbers ks (r ∷ rs) = cond (nat_le 1 r.count) (number ks r.key ∷ numbers ks rs) (numbers ks rs)

abbrev pub AllKnown : Keys → List Record → Type 0
AllKnown ks rs = AllByRecursion (λ (r : Record). IsKnown ks r.key) rs

and_true : (b : Bool) → (b && true) ≡ b
and_true true = refl
and_true false = refl

and_false : (b : Bool) → (b && false) ≡ false
and_false true = refl
and_false false = refl

-- a test covers the key at a place where the place is one of its numbers
pub covered_at : (ks : Keys) (rs : List Record) (i : ℕ) → IsDistinct bytes_eq ks → i < length ks → covers_key rs (get_or ks i []) ≡ is_among (numbers ks rs) i
covered_at ks [] i distinct within = refl
covered_at ks (r ∷ rs) i distinct within =
    elim (nat_le 1 r.count) as (λ t. ((bytes_eq (get_or ks i []) r.key && t) || covers_key rs (get_or ks i []))
    ≡ is_among (cond t (number ks r.key ∷ numbers ks rs) (numbers ks rs)) i) [
      | true ↦ ap (λ (b : Bool). b || covers_key rs (get_or ks i [])) (and_true (bytes_eq (get_or ks i []) r.key) ∙ at_number ks i r.key distinct within)
          ∙ ap (λ (b : Bool). eqb i (number ks r.key) || b) (covered_at ks rs i distinct within)
      | false ↦ ap (λ (b : Bool). b || covers_key rs (get_or ks i [])) (and_false (bytes_eq (get_or ks i []) r.key)) ∙ covered_at ks rs i distinct within
    ]

-- a test of elements is one of their places
places : (P : List ℕ → Bool) (Q : ℕ → Bool) (n : ℕ) (ks : Keys) → ((i : ℕ) → i < length ks → P (get_or ks i []) ≡ Q (n + i))
    → map (λ (k : ℕ × List ℕ). k.0) (filter (λ (k : ℕ × List ℕ). P k.1) (enumerate_from n ks)) ≡ filter Q (range_with_len n (length ks))
places P Q n [] h = refl
places P Q n (k ∷ ks) h =
    let here : P k ≡ Q n = h 0 (omega arith) ∙ ap Q (let e : n + 0 ≡ n = omega arith in e) in
    let rest = places P Q (n + 1) ks (λ i within. h (suc i) (omega arith) ∙ ap Q (let e : n + suc i ≡ n + 1 + i = omega arith in e)) in
    elim (Q n) as (λ t. P k ≡ t → map (λ (q : ℕ × List ℕ). q.0) (cond (P k) ((n, k) ∷ filter (λ (q : ℕ × List ℕ). P q.1)
    (enumerate_from (n + 1) ks)) (filter (λ (q : ℕ × List ℕ). P q.1) (enumerate_from (n + 1) ks)))
    ≡ cond t (n ∷ filter Q (range_with_len (n + 1) (length ks))) (filter Q (range_with_len (n + 1) (length ks)))) [
      | true ↦ λ e. rw e (ap (λ (ns : List ℕ). n ∷ ns) rest)
      | false ↦ λ e. rw e rest
    ] here

-- the points of a test, by its numbers
pub points_by_numbers : (counts : Counts) (rs : List Record) → IsDistinct bytes_eq (keys_of counts)
    → covered_points counts rs ≡ filter (is_among (numbers (keys_of counts) rs)) (range_with_len 0 (length (keys_of counts)))
points_by_numbers counts rs distinct =
    places (covers_key rs) (is_among (numbers (keys_of counts) rs)) 0 (keys_of counts)
    (λ i within. covered_at (keys_of counts) rs i distinct within ∙ ap (is_among (numbers (keys_of counts) rs)) (let e : i ≡ 0 + i = omega arith in e))

-- ---- and how they grow

-- the numbers with those of one record more
pub numbers_more : (ks : Keys) (rs : List Record) (r : Record) → numbers ks (rs ++ r ∷ []) ≡ cond (nat_le 1 r.count)
    (numbers ks rs ++ number ks r.key ∷ []) (numbers ks rs)
numbers_more ks [] r = refl
numbers_more ks (q ∷ rs) r =
    let rest = numbers_more ks rs r in
    elim (nat_le 1 q.count) as (λ t. cond t (number ks q.key ∷ numbers ks (rs ++ r ∷ [])) (numbers ks (rs ++ r ∷ []))
    ≡ cond (nat_le 1 r.count) (cond t (number ks q.key ∷ numbers ks rs) (numbers ks rs) ++ number ks r.key ∷ [])
    (cond t (number ks q.key ∷ numbers ks rs) (numbers ks rs))) [
      | true ↦ ap (λ (ns : List ℕ). number ks q.key ∷ ns) rest ∙ in_front (nat_le 1 r.count) (number ks q.key)
          (numbers ks rs ++ number ks r.key ∷ []) (numbers ks rs)
      | false ↦ rest
    ] where
      in_front : (t : Bool) (n : ℕ) (xs ys : List ℕ) → n ∷ cond t xs ys ≡ cond t (n ∷ xs) (n ∷ ys)
      in_front true n xs ys = refl
      in_front false n xs ys = refl

pub numbers_grown : (ks : Keys) (new : List ℕ) (rs : List Record) → AllKnown ks rs → numbers (with_key ks new) rs ≡ numbers ks rs
numbers_grown ks new [] known = refl
numbers_grown ks new (r ∷ rs) known =
    ap (λ (n : ℕ). cond (nat_le 1 r.count) (n ∷ numbers (with_key ks new) rs) (numbers (with_key ks new) rs)) (number_grown ks new r.key known.0)
    ∙ ap (λ (ns : List ℕ). cond (nat_le 1 r.count) (number ks r.key ∷ ns) ns) (numbers_grown ks new rs known.1)

pub all_grown : (ks : Keys) (new : List ℕ) (rs : List Record) → AllKnown ks rs → AllKnown (with_key ks new) rs
all_grown ks new [] known = tt
all_grown ks new (r ∷ rs) known = (known_grown ks new r.key known.0, all_grown ks new rs known.1)

pub all_more : (ks : Keys) (rs : List Record) (r : Record) → AllKnown ks rs → IsKnown ks r.key → AllKnown ks (rs ++ r ∷ [])
all_more ks [] r known new = (new, tt)
all_more ks (q ∷ rs) r known new = (known.0, all_more ks rs r known.1 new)

-- all numbers of a test are below the number of keys
pub numbers_below : (ks : Keys) (rs : List Record) → AllKnown ks rs → AllByRecursion (λ n. n < length ks) (numbers ks rs)
numbers_below ks [] known = tt
numbers_below ks (r ∷ rs) known = elim (nat_le 1 r.count) as (λ t. AllByRecursion (λ n. n < length ks) (cond t (number ks r.key ∷ numbers ks rs)
    (numbers ks rs))) [
      | true ↦ (number_below ks r.key known.0, numbers_below ks rs known.1)
      | false ↦ numbers_below ks rs known.1
    ]
