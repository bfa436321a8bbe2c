-- Ranges of a buffer, and lines that are cut off.
use Rattle.std.proofs.Common.{◌≡◌, ℕ, zero, suc, Option, None, Some, Result, Ok, Err, IfOk, IfSome, ◌+◌, ◌-◌, ◌<◌, ◌≤◌, Bool, true, false, cond, eqb, List, []}
use Rattle.std.proofs.Common.{◌∷◌, ◌++◌, length, take, drop, refl, sym, ◌∙◌, ap, arith, length-drop, length-append}
use Rattle.std.specs.Prelude.{◌&&◌, slice_index, slice_range}
use Rattle.std.specs.List.{list_all}
use Rattle.std.proofs.lemmas.Bool.{eqb-true}
use Rattle.std.proofs.lemmas.List.{drop-take, drop-drop, take-take, take-append-drop, take-append-le, length-take-le, length-take, get_or-drop, nil_from_length}
use Rattle.std.proofs.lemmas.List.{append-nil}
use Rattle.std.proofs.lemmas.List.Folds.{list_all-append}
use Rattle.std.proofs.Math.Seq.{take-append-add}
use borrow.Rule.Slice.PartMut.{put_mid, post_of}
use Rattle.cov_port.specs.Lines.{Line, lines_of}
use Rattle.cov_port.specs.Cutting.{Cutter, KeepsLeft, has_no_feed, left_of}
use Rattle.cov_port.specs.Files.{ReadTakes}
use Rattle.cov_port.specs.Filling.{Fills, IsFeedAt}
use Rattle.cov_port.proofs.LineLemmas.{Misses, misses}

-- a range whose front is taken off
pub range_drop : (buffer : List ℕ) (a b n : ℕ) → a + n ≤ b → slice_range buffer (a + n) b ≡ drop n (slice_range buffer a b)
range_drop buffer a b n within =
    let e : b - a ≡ n + (b - (a + n)) = omega arith in
    sym (ap (λ (k : ℕ). drop n (take k (drop a buffer))) e ∙ drop-take n (b - (a + n)) (drop a buffer) ∙ ap (take (b - (a + n))) (drop-drop n a buffer))

-- the front of a range
pub range_take : (buffer : List ℕ) (a b n : ℕ) → a + n ≤ b → slice_range buffer a (a + n) ≡ take n (slice_range buffer a b)
range_take buffer a b n within =
    let e : a + n - a ≡ n = omega arith in
    ap (λ (k : ℕ). take k (drop a buffer)) e ∙ sym (take-take n (b - a) (drop a buffer) (omega arith))

pub range_length : (buffer : List ℕ) (a b : ℕ) → b ≤ length buffer → length (slice_range buffer a b) ≡ b - a
range_length buffer a b within = length-take-le (b - a) (drop a buffer) (omega (arith, length-drop a buffer))

take_split : (n m : ℕ) (xs : List ℕ) → take (n + m) xs ≡ take n xs ++ take m (drop n xs)
take_split n m xs =
    let front : take n (take (n + m) xs) ≡ take n xs = take-take n (n + m) xs (omega arith) in
    sym (take-append-drop n (take (n + m) xs)) ∙ ap (λ (ys : List ℕ). ys ++ drop n (take (n + m) xs)) front
    ∙ ap (λ (ys : List ℕ). take n xs ++ ys) (drop-take n m xs)

-- texts without line feeds, one after the other, have none
pub no_feed-append : (xs ys : List ℕ) → has_no_feed xs ≡ true → has_no_feed ys ≡ true → has_no_feed (xs ++ ys) ≡ true
no_feed-append xs ys first second = rw list_all-append (rw (first, second) refl)

-- none of the bytes is a line feed
pub no_feed-misses : (bs : List ℕ) → ((k : ℕ) → k < length bs → Misses 10 bs k) → has_no_feed bs ≡ true
no_feed-misses [] miss = refl
no_feed-misses (b ∷ bs) miss = rw (misses (eqb b 10) (miss 0 (omega arith))) (no_feed-misses bs (λ k below. miss (suc k) (omega arith)))

-- nor is one in front of a place that all others miss
pub no_feed-before : (bs : List ℕ) (at : ℕ) → at ≤ length bs → ((k : ℕ) → k < at → Misses 10 bs k) → has_no_feed (take at bs) ≡ true
no_feed-before bs zero within miss = refl
no_feed-before [] (suc at) within miss = refl
no_feed-before (b ∷ bs) (suc at) within miss = rw (misses (eqb b 10) (miss 0 (omega arith)))
    (no_feed-before bs at (omega arith) (λ k below. miss (suc k) (omega arith)))

-- a byte at a place splits its text there
pub split_at : (bs : List ℕ) (at byte : ℕ) → at < length bs → eqb (slice_index bs at) byte ≡ true → bs ≡ take at bs ++ byte ∷ drop (suc at) bs
split_at [] at byte within here = absurd (omega arith)
split_at (b ∷ bs) zero byte within here = ap (λ (x : ℕ). x ∷ bs) (eqb-true b byte here)
split_at (b ∷ bs) (suc at) byte within here = ap (λ (xs : List ℕ). b ∷ xs) (split_at bs at byte (omega arith) here)

-- a line that is cut off a range of a buffer, and what is left of the range
pub given_range : (buffer : List ℕ) (a b at : ℕ) → at < length (slice_range buffer a b)
    → (slice_range buffer (a + (at + 1)) b ≡ drop (at + 1) (slice_range buffer a b)) × (slice_range buffer a (a + at) ≡ take at (slice_range buffer a b))
given_range buffer a b at within =
    let most : length (slice_range buffer a b) ≤ b - a = omega (arith, length-take (b - a) (drop a buffer)) in
    (range_drop buffer a b (at + 1) (omega arith), range_take buffer a b at (omega arith))

-- the first line feed behind bytes that have none
pub feed_behind : (bs : List ℕ) (clear at : ℕ) → clear ≤ length bs → has_no_feed (take clear bs) ≡ true → at < length (drop clear bs)
    → eqb (slice_index (drop clear bs) at) 10 ≡ true → ((k : ℕ) → k < at → Misses 10 (drop clear bs) k) → IsFeedAt bs (clear + at)
feed_behind bs clear at within front below here miss =
    let long : length (drop clear bs) ≡ length bs - clear = length-drop clear bs in
    let there : slice_index bs (clear + at) ≡ slice_index (drop clear bs) at = sym (get_or-drop clear bs at 0) in
    let both : take (clear + at) bs ≡ take clear bs ++ take at (drop clear bs) = take_split clear at bs in
    record {
      within = omega arith;
      clear = ap has_no_feed both ∙ no_feed-append (take clear bs) (take at (drop clear bs)) front (no_feed-before (drop clear bs) at (omega arith) miss);
      split = let e : clear + at + 1 ≡ suc (clear + at) = omega arith in
          rw e (split_at bs (clear + at) 10 (omega arith) (ap (λ (x : ℕ). eqb x 10) there ∙ here));
    }

-- no line feed behind bytes that have none
pub no_feed-behind : (bs : List ℕ) (clear : ℕ) → has_no_feed (take clear bs) ≡ true → ((k : ℕ) → k < length (drop clear bs) → Misses 10 (drop clear bs) k)
    → has_no_feed bs ≡ true
no_feed-behind bs clear front miss =
    ap has_no_feed (sym (take-append-drop clear bs)) ∙ no_feed-append (take clear bs) (drop clear bs) front (no_feed-misses (drop clear bs) miss)

-- what is told of a read is told of the bytes behind those that were there
told_fill : (n : ℕ) (buf : List ℕ) (before after : Option (List ℕ)) → 0 < length buf → IfSome before (λ left. ReadTakes left after n buf)
    → IfSome before (λ left. (rest : List ℕ) × (after ≡ Some rest) × (left ≡ take n buf ++ rest) × (n ≡ 0 → left ≡ []))
told_fill n buf None after some told = tt
told_fill n buf (Some left) after some told = (drop n left, told.left, told.bytes, λ none. told.ends none some)

-- a read into a part of a buffer
pub read_fills : {E : Type 0} (result : Result ℕ E) (end k : ℕ) (old buf : List ℕ) (before after : Option (List ℕ)) → end ≤ length old → 0 < length buf
    → IfOk result (λ n. n ≤ length buf) → IfOk result (λ n. IfSome before (λ left. ReadTakes left after n buf))
    → IfOk result (λ n. Fills n (take end old) (take (end + n) (put_mid end k old buf)) before after)
read_fills (Err fault) end k old buf before after within some bound told = tt
read_fills (Ok n) end k old buf before after within some bound told = record {
  part = take n buf;
  count = length-take-le n buf bound;
  moved = let e : length (take end old) ≡ end = length-take-le end old within in
      ap (λ (j : ℕ). take (j + n) (put_mid end k old buf)) (sym e) ∙ take-append-add (take end old) (buf ++ post_of end k old) n
      ∙ ap (λ (xs : List ℕ). take end old ++ xs) (take-append-le n buf (post_of end k old) bound);
  told = told_fill n buf before after some told;
}

same_ahead : (n : ℕ) (old new : List ℕ) (before after : Option (List ℕ)) → n ≡ 0 → Fills n old new before after → new ≡ old
same_ahead n old new before after none fills =
    fills.moved ∙ ap (λ (xs : List ℕ). old ++ xs) (nil_from_length fills.part (fills.count ∙ none)) ∙ append-nil old

-- the end of a file is met by a read of nothing: the bytes ahead are all that is left
pub all_ahead : (n : ℕ) (first : Option (List ℕ)) (cutter : Cutter) (new : List ℕ) (before after : Option (List ℕ)) → n ≡ 0
    → KeepsLeft first (left_of cutter before) → Fills n cutter.ahead new before after → (new ≡ cutter.ahead) × IfSome first (λ left. left ≡ new)
all_ahead n None cutter new before after none kept fills = (same_ahead n cutter.ahead new before after none fills, tt)
all_ahead n (Some left) cutter new None after none kept fills = absurd (cc)
all_ahead n (Some left) cutter new (Some rest) after none kept fills =
    let same = same_ahead n cutter.ahead new (Some rest) after none fills in
    let empty : rest ≡ [] = fills.told.3 none in
    let whole : cutter.ahead ++ rest ≡ left = cc in
    (same, sym whole ∙ ap (λ (xs : List ℕ). cutter.ahead ++ xs) empty ∙ append-nil cutter.ahead ∙ sym same)
