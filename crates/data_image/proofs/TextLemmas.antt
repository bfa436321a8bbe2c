-- The room for points, and their lines in byte order of keys.
use Rattle.std.proofs.Common.{◌≡◌, ℕ, suc, ◌+◌, ◌-◌, ◌^◌, ◌<◌, Bool, true, ◌&&◌, List, [], ◌∷◌, ◌++◌, length, refl, ap, sym, ◌∙◌, arith}
use Rattle.std.specs.Prelude.{decimal, flat_map, sum_by, slice_index_or, AllPairs}
use Rattle.std.specs.Fmt.{digits}
use Rattle.std.specs.Ordering.{nat_cmp, is_lt}
use Rattle.std.specs.Cmp.Lexicographic.{slice_cmp}
use Rattle.std.specs.FinMap.{is_sorted}
use Rattle.std.specs.FinMap.Entries.{below_all}
use Rattle.std.proofs.lemmas.List.{length-append}
use Rattle.std.proofs.lemmas.List.Sums.{sum_by-cons}
use Rattle.cov_dat.specs.DataLine.{header}
use Rattle.cov_dat.specs.DataText.{count_map, data_text, lines_text, record_text}
use Rattle.cov_dat.proofs.AscendLemmas.{entries-sorted}
use Rattle.design_tree.specs.declared.instrumented.PointRow.{PointRow}
use Rattle.design_meaning.specs.Names.{IsBefore}
use Rattle.data_image.specs.PointText.{counts_of, greatest_counts, room_of}
use Rattle.data_image.specs.Lines.{line_of, most_bytes}

-- the greatest count has 20 digits
twenty : length (decimal (2 ^ 64 - 1)) ≡ 20
unfolding digits
twenty = refl

-- a line has six bytes beside its key and its count
pub line_length : (key : List ℕ) (count : ℕ) → length (record_text (key, count)) ≡ length key + 6 + length (decimal count)
line_length key count = simp length-append (omega arith)

-- the longest lines of all points together
longest : (points : List PointRow) → length (flat_map record_text (greatest_counts points)) ≡ sum_by most_bytes points
longest [] = refl
longest (point ∷ points) =
    let first = line_length point.key (2 ^ 64 - 1) in
    let rest = longest points in
    let split = length-append (record_text (point.key, 2 ^ 64 - 1)) (flat_map record_text (greatest_counts points)) in
    omega (arith, twenty, sum_by-cons most_bytes point points)

-- the room is that of the header and the longest lines
pub room_is : (points : List PointRow) → room_of points ≡ 22 + sum_by most_bytes points
room_is points = let rest = longest points in omega arith

-- the lines of points are those of their counts
pub lines_are : (bits : ℕ) (counters : List ℕ) (points : List PointRow)
    → flat_map (line_of bits counters) points ≡ flat_map record_text (counts_of bits counters points)
lines_are bits counters [] = refl
lines_are bits counters (point ∷ points) = ap (λ (xs : List ℕ). line_of bits counters point ++ xs) (lines_are bits counters points)

-- two tests that hold, hold together
both : (a b : Bool) → a ≡ true → b ≡ true → (a && b) ≡ true
both a b p q = rw (p, q) refl

-- a key before all others is below all
below : (bits : ℕ) (counters key : List ℕ) (points : List PointRow)
    → ((j : ℕ) (d : PointRow) → j < length points → IsBefore key (slice_index_or points j d).key)
    → below_all (slice_cmp nat_cmp) key (counts_of bits counters points) ≡ true
below bits counters key [] before = refl
below bits counters key (point ∷ points) before =
    both (is_lt (slice_cmp nat_cmp key point.key)) (below_all (slice_cmp nat_cmp) key (counts_of bits counters points))
    (ap is_lt (before 0 point (omega arith)))
    (below bits counters key points (λ j d within. before (suc j) d (omega arith)))

-- points in byte order of keys are entries in order
sorted : (bits : ℕ) (counters : List ℕ) (points : List PointRow) → AllPairs (λ a b. IsBefore a.key b.key) points
    → is_sorted (slice_cmp nat_cmp) (counts_of bits counters points) ≡ true
sorted bits counters [] ascend = refl
sorted bits counters (point ∷ points) ascend =
    both (below_all (slice_cmp nat_cmp) point.key (counts_of bits counters points)) (is_sorted (slice_cmp nat_cmp) (counts_of bits counters points))
    (below bits counters point.key points (λ j d within. ascend 0 (suc j) d (omega arith) (omega arith)))
    (sorted bits counters points (λ i j d under within. ascend (suc i) (suc j) d (omega arith) (omega arith)))

-- so their lines are the data file
pub text_is : (bits : ℕ) (counters : List ℕ) (points : List PointRow) → AllPairs (λ a b. IsBefore a.key b.key) points
    → header ++ 10 ∷ [] ++ flat_map (line_of bits counters) points ≡ data_text (count_map (counts_of bits counters points))
text_is bits counters points ascend =
    ap (λ (xs : List ℕ). header ++ 10 ∷ [] ++ xs) (lines_are bits counters points)
    ∙ ap lines_text (sym (entries-sorted (counts_of bits counters points) (sorted bits counters points ascend)))
