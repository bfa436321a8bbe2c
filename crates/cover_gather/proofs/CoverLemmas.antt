-- The points of tests, as keys grow and files end.
use Rattle.std.proofs.Common.{◌≡◌, ℕ, zero, suc, ◌+◌, ◌<◌, ◌≤◌, Bool, true, false, cond, List, [], ◌∷◌, ◌++◌, length, map, filter, refl, sym, ◌∙◌, ap, arith}
use Rattle.std.specs.List.{AllByRecursion, IsDistinct, range_with_len}
use Rattle.std.specs.Str.{bytes_eq}
use Rattle.cov_dat.specs.Merging.{Counts, added, keys_of}
use Rattle.cov_dat.specs.declared.record_list.Record.{Record}
use Rattle.cov_dat.proofs.FirstKeyLemmas.{with_key}
use Rattle.test_rank.specs.Ranking.{Covers, is_among}
use Rattle.command_cover.specs.CoverReading.{Arrival, arrived, ended, stopped}
use Rattle.cover_answer.specs.Gathering.{covered_points, tests_behind}
use Rattle.cover_gather.specs.Points.{ascending, end_of}
use Rattle.cover_gather.proofs.KeyLemmas.{AllKnown, Keys, all_grown, keys_added, numbers, numbers_below, numbers_grown, points_by_numbers}
use Rattle.cover_gather.proofs.PointLemmas.{below_end}

-- ---- numbers below an end

-- a range in two parts
range_split : (p : ℕ → Bool) (s k m : ℕ) → filter p (range_with_len s (k + m)) ≡ filter p (range_with_len s k) ++ filter p (range_with_len (s + k) m)
range_split p s zero m =
    let e : zero + m ≡ m = omega arith in
    let f : s + zero ≡ s = omega arith in
    rw (e, f) refl
range_split p s (suc k) m =
    let e : suc k + m ≡ suc (k + m) = omega arith in
    let f : s + suc k ≡ s + 1 + k = omega arith in
    rw (e, f) (elim (p s) as (λ t. cond t (s ∷ filter p (range_with_len (s + 1) (k + m))) (filter p (range_with_len (s + 1) (k + m)))
    ≡ cond t (s ∷ filter p (range_with_len (s + 1) k)) (filter p (range_with_len (s + 1) k)) ++ filter p (range_with_len (s + 1 + k) m)) [
      | true ↦ ap (λ (ns : List ℕ). s ∷ ns) (range_split p (s + 1) k m)
      | false ↦ range_split p (s + 1) k m
    ])

none_from : (p : ℕ → Bool) (s m : ℕ) → ((n : ℕ) → s ≤ n → p n ≡ false) → filter p (range_with_len s m) ≡ []
none_from p s zero none = refl
none_from p s (suc m) none = rw (none s (omega arith)) (none_from p (s + 1) m (λ n more. none n (omega arith)))

none_last : (xs : List ℕ) → xs ++ [] ≡ xs
none_last [] = refl
none_last (x ∷ xs) = ap (λ (ys : List ℕ). x ∷ ys) (none_last xs)

-- a longer range has no more of what is below its beginning
range_beyond : (p : ℕ → Bool) (k m : ℕ) → ((n : ℕ) → k ≤ n → p n ≡ false) → filter p (range_with_len 0 (k + m)) ≡ filter p (range_with_len 0 k)
range_beyond p k m none =
    range_split p 0 k m
    ∙ ap (λ (ns : List ℕ). filter p (range_with_len 0 k) ++ ns) (none_from p (0 + k) m (λ n more. none n (omega arith)))
    ∙ none_last (filter p (range_with_len 0 k))

-- numbers below an end
end_within : (xs : List ℕ) (end : ℕ) → AllByRecursion (λ n. n < end) xs → end_of xs ≤ end
end_within [] end below = omega arith
end_within (x ∷ xs) end below = let here = below.0 in let rest = end_within xs end below.1 in omega arith

gone : (xs : List ℕ) (n : ℕ) → end_of xs ≤ n → is_among xs n ≡ false
gone xs n past = elim (is_among xs n) as (λ t. is_among xs n ≡ t → t ≡ false) [
  | true ↦ λ e. let less = below_end xs n e in absurd (omega arith)
  | false ↦ λ e. refl
] refl

-- what is lacking to a greater number
difference : (a b : ℕ) → a ≤ b → (m : ℕ) × (b ≡ a + m)
difference zero b less = (b, omega arith)
difference (suc a) zero less = absurd (omega arith)
difference (suc a) (suc b) less = let rest = difference a b (omega arith) in let is = rest.1 in (rest.0, omega arith)

pub ascending_below : (xs : List ℕ) (end : ℕ) → AllByRecursion (λ n. n < end) xs → filter (is_among xs) (range_with_len 0 end) ≡ ascending xs
unfolding ascending
ascending_below xs end below =
    let more = difference (end_of xs) end (end_within xs end below) in
    ap (λ (n : ℕ). filter (is_among xs) (range_with_len 0 n)) more.1 ∙ range_beyond (is_among xs) (end_of xs) more.0 (gone xs)

-- ---- the points of a test

length_keys : (counts : Counts) → length (keys_of counts) ≡ length counts
length_keys [] = refl
length_keys (e ∷ es) = ap suc (length_keys es)

-- the points of a test whose keys are known are its numbers in order
pub points_in_order : (counts : Counts) (rs : List Record) → IsDistinct bytes_eq (keys_of counts) → AllKnown (keys_of counts) rs
    → covered_points counts rs ≡ ascending (numbers (keys_of counts) rs)
points_in_order counts rs distinct known =
    points_by_numbers counts rs distinct ∙ ascending_below (numbers (keys_of counts) rs) (length (keys_of counts)) (numbers_below (keys_of counts) rs known)

-- they stay as keys grow
pub points_grown : (counts : Counts) (key : List ℕ) (count : ℕ) (rs : List Record) → IsDistinct bytes_eq (keys_of counts)
    → IsDistinct bytes_eq (keys_of (added counts key count)) → AllKnown (keys_of counts) rs
    → covered_points (added counts key count) rs ≡ covered_points counts rs
points_grown counts key count rs distinct more_distinct known =
    let more : AllKnown (keys_of (added counts key count)) rs = rw (keys_added counts key count) (all_grown (keys_of counts) key rs known) in
    points_in_order (added counts key count) rs more_distinct more
    ∙ ap (λ (ks : Keys). ascending (numbers ks rs)) (keys_added counts key count)
    ∙ ap ascending (numbers_grown (keys_of counts) key rs known)
    ∙ sym (points_in_order counts rs distinct known)

pub tests_grown : (counts : Counts) (key : List ℕ) (count : ℕ) (tests : List (List Record)) → IsDistinct bytes_eq (keys_of counts)
    → IsDistinct bytes_eq (keys_of (added counts key count)) → AllByRecursion (AllKnown (keys_of counts)) tests
    → map (covered_points (added counts key count)) tests ≡ map (covered_points counts) tests
tests_grown counts key count [] distinct more_distinct known = refl
tests_grown counts key count (rs ∷ tests) distinct more_distinct known =
    ap (λ (ps : List ℕ). ps ∷ map (covered_points (added counts key count)) tests) (points_grown counts key count rs distinct more_distinct known.0)
    ∙ ap (λ (pss : Covers). covered_points counts rs ∷ pss) (tests_grown counts key count tests distinct more_distinct known.1)

pub tests_known : (ks : Keys) (new : List ℕ) (tests : List (List Record)) → AllByRecursion (AllKnown ks) tests
    → AllByRecursion (AllKnown (with_key ks new)) tests
tests_known ks new [] known = tt
tests_known ks new (rs ∷ tests) known = (all_grown ks new rs known.0, tests_known ks new tests known.1)

-- ---- tests, arrival by arrival

-- no reason to stop is among these
abbrev pub IsPlain : List Arrival → Type 0
IsPlain [] = Unit {0}
IsPlain (arrived r ∷ rest) = IsPlain rest
IsPlain (ended ∷ rest) = IsPlain rest
IsPlain (stopped answer ∷ rest) = ⊥

-- the records of the file that is being read
abbrev pub open_behind : List Record → List Arrival → List Record
open_behind records [] = records
open_behind records (arrived r ∷ rest) = open_behind (records ++ r ∷ []) rest
open_behind records (ended ∷ rest) = open_behind [] rest
open_behind records (stopped answer ∷ rest) = []

pub plain_record : (done : List Arrival) (r : Record) → IsPlain done → IsPlain (done ++ arrived r ∷ [])
plain_record [] r plain = tt
plain_record (arrived q ∷ done) r plain = plain_record done r plain
plain_record (ended ∷ done) r plain = plain_record done r plain
plain_record (stopped answer ∷ done) r plain = absurd plain

pub plain_end : (done : List Arrival) → IsPlain done → IsPlain (done ++ ended ∷ [])
plain_end [] plain = tt
plain_end (arrived q ∷ done) plain = plain_end done plain
plain_end (ended ∷ done) plain = plain_end done plain
plain_end (stopped answer ∷ done) plain = absurd plain

pub tests_record : (records : List Record) (done : List Arrival) (r : Record) → tests_behind records (done ++ arrived r ∷ []) ≡ tests_behind records done
tests_record records [] r = refl
tests_record records (arrived q ∷ done) r = tests_record (records ++ q ∷ []) done r
tests_record records (ended ∷ done) r = ap (λ (ts : List (List Record)). records ∷ ts) (tests_record [] done r)
tests_record records (stopped answer ∷ done) r = refl

pub tests_end : (records : List Record) (done : List Arrival) → IsPlain done
    → tests_behind records (done ++ ended ∷ []) ≡ tests_behind records done ++ open_behind records done ∷ []
tests_end records [] plain = refl
tests_end records (arrived q ∷ done) plain = tests_end (records ++ q ∷ []) done plain
tests_end records (ended ∷ done) plain = ap (λ (ts : List (List Record)). records ∷ ts) (tests_end [] done plain)
tests_end records (stopped answer ∷ done) plain = absurd plain

pub open_record : (records : List Record) (done : List Arrival) (r : Record) → IsPlain done
    → open_behind records (done ++ arrived r ∷ []) ≡ open_behind records done ++ r ∷ []
open_record records [] r plain = refl
open_record records (arrived q ∷ done) r plain = open_record (records ++ q ∷ []) done r plain
open_record records (ended ∷ done) r plain = open_record [] done r plain
open_record records (stopped answer ∷ done) r plain = absurd plain

pub open_end : (records : List Record) (done : List Arrival) → IsPlain done → open_behind records (done ++ ended ∷ []) ≡ []
open_end records [] plain = refl
open_end records (arrived q ∷ done) plain = open_end (records ++ q ∷ []) done plain
open_end records (ended ∷ done) plain = open_end [] done plain
open_end records (stopped answer ∷ done) plain = absurd plain
