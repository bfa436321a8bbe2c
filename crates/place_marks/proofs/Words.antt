-- Ones of words, and the places that they mark.
use Rattle.std.proofs.Common.{◌≡◌, ◌∙◌, sym, ap, ℕ, ◌+◌, ◌-◌, ◌*◌, ◌/◌, ◌%◌, ◌^◌, ◌<◌, ◌≤◌, ◌==◌, ◌||◌, inl, inr}
use Rattle.std.proofs.Common.{Bool, true, false, List, length, min, bit_and, bit_or}
use Rattle.std.proofs.Common.{w64, arith}
use Rattle.std.specs.Prelude.{slice_index, slice_set}
use Rattle.std.specs.Int.{bit_at, trailing_zeros}
use Rattle.std.proofs.lemmas.Bool.{cases_eq, cases_lt, eq-eqb, ne_eqb}
use Rattle.std.proofs.lemmas.List.{get_or-set_same, get_or-set_other, get_or_past}
use Rattle.std.proofs.lemmas.Nat.{and_le_l}
use Rattle.std.proofs.lemmas.Nat.Bits.{bit_at_and, bit_at-lt, bit_at_above, bit_at_mask_inside, bit_at_mask_below, bit_at-trailing_zeros}
use Rattle.std.proofs.lemmas.Nat.Bits.{bit_at_set_same, bit_at_set_other, ones_shl}
use Rattle.place_marks.specs.Marked.{IsNext, is_marked, is_one}

-- ---- the ones of a word from a place on

abbrev pub rest : ℕ → ℕ → ℕ
rest word from = bit_and word ((2 ^ 64 - 1) * 2 ^ from % 2 ^ 64)

both_ones : (x : ℕ) → x < 2 → min x 1 ≡ x
both_ones x lt = omega (arith, lt)

kept : (word from k : ℕ) → from < 64 → from ≤ k → k < 64 → bit_at (rest word from) k ≡ bit_at word k
kept word from k few le lt = ap (λ m. bit_at (bit_and word m) k) (ones_shl 64 from (omega (arith, few))) ∙ bit_at_and word (2 ^ 64 - 2 ^ from) k
    ∙ ap (λ x. min (bit_at word k) x) (bit_at_mask_inside from 64 k le lt) ∙ both_ones (bit_at word k) (bit_at-lt word k)

no_one : (x : ℕ) → min x 0 ≡ 0
no_one x = omega arith

gone : (word from k : ℕ) → from < 64 → k < from → bit_at (rest word from) k ≡ 0
gone word from k few lt = ap (λ m. bit_at (bit_and word m) k) (ones_shl 64 from (omega (arith, few))) ∙ bit_at_and word (2 ^ 64 - 2 ^ from) k
    ∙ ap (λ x. min (bit_at word k) x) (bit_at_mask_below from 64 k lt) ∙ no_one (bit_at word k)

pub none_left : (word from : ℕ) → from < 64 → word < 2 ^ 64 → rest word from ≡ 0 → (k : ℕ) → from ≤ k → bit_at word k ≡ 0
none_left word from few fits e k le = elim (cases_lt k 64) [
  | inl lt ↦ sym (kept word from k few le lt) ∙ ap (λ n. bit_at n k) e ∙ zeros k
  | inr past ↦ bit_at_above word 64 k fits past
]
  where
    zeros : (k : ℕ) → bit_at 0 k ≡ 0
    zeros k = bit_at_above 0 0 k (omega arith) (omega arith)

pub record Lowest (word from at : ℕ) : Type 0 where
  pub upwards : from ≤ at
  pub within : at < 64
  pub one : is_one word at
  pub below : (k : ℕ) → from ≤ k → k < at → bit_at word k ≡ 0

pub lowest_left : (word from : ℕ) → from < 64 → word < 2 ^ 64 → 0 < rest word from → Lowest word from (trailing_zeros w64 (rest word from))
lowest_left word from few fits some = record {
  upwards = upwards;
  within = lowest.0;
  one = sym (kept word from at few upwards lowest.0) ∙ lowest.1;
  below = λ k le lt. sym (kept word from k few le (omega (arith, lt, lowest.0))) ∙ lowest.2 k lt;
}
  where
    at : ℕ
    at = trailing_zeros w64 (rest word from)

    lowest : (at < 64) × (bit_at (rest word from) at ≡ 1) × ((i : ℕ) → i < at → bit_at (rest word from) i ≡ 0)
    lowest = bit_at-trailing_zeros w64 (rest word from) some (omega (arith, fits, and_le_l word ((2 ^ 64 - 1) * 2 ^ from % 2 ^ 64)))

    upwards : from ≤ trailing_zeros w64 (rest word from)
    upwards = elim (cases_lt (trailing_zeros w64 (rest word from)) from) [
      | inl lt ↦ absurd (omega (arith, lowest.1, gone word from (trailing_zeros w64 (rest word from)) few lt))
      | inr le ↦ le
    ]

-- ---- the places of a word

module _ (marks : List ℕ) (at low : ℕ) (few : low < 64) where
  in_word : (k : ℕ) → at * 64 ≤ k → k < (at + 1) * 64 → is_marked marks k ≡ (bit_at (slice_index marks at) (k - at * 64) == 1)
  in_word k le lt = ap (λ a. bit_at (slice_index marks a) (k % 64) == 1) (the_word at k le lt) ∙ ap (λ j. bit_at (slice_index marks at) j == 1)
      (the_place at k le lt)
    where
      the_word : (at k : ℕ) → at * 64 ≤ k → k < (at + 1) * 64 → k / 64 ≡ at
      the_word at k le lt = omega (arith, le, lt)

      the_place : (at k : ℕ) → at * 64 ≤ k → k < (at + 1) * 64 → k % 64 ≡ k - at * 64
      the_place at k le lt = omega (arith, le, lt)

  pub none_before : (word from end : ℕ) → word ≡ slice_index marks at → end ≤ 64 → ((j : ℕ) → low ≤ j → j < end → bit_at word j ≡ 0)
      → ((k : ℕ) → from ≤ k → k < at * 64 + low → is_marked marks k ≡ false) → (k : ℕ) → from ≤ k → k < at * 64 + end → is_marked marks k ≡ false
  none_before word from end is most zeros none k le lt = elim (cases_lt k (at * 64 + low)) [
    | inl less ↦ none k le less
    | inr more ↦ in_word k (omega (arith, more)) (omega (arith, lt, most))
        ∙ ap (λ w. bit_at w (k - at * 64) == 1) (sym is)
        ∙ ap (λ x. x == 1) (zeros (k - at * 64) (omega (arith, more)) (omega (arith, lt, more)))
  ]

  pub found : (word from place : ℕ) → word ≡ slice_index marks at → at < length marks → from ≤ at * 64 + low → Lowest word low place
      → ((k : ℕ) → from ≤ k → k < at * 64 + low → is_marked marks k ≡ false) → IsNext marks from (at * 64 + place)
  found word from place is lt le lowest none = record {
    upwards = omega (arith, le, lowest.upwards);
    within = omega (arith, lt, lowest.within);
    marked = in_word (at * 64 + place) (omega arith) (omega (arith, lowest.within)) ∙ ap (λ w. bit_at w (at * 64 + place - at * 64) == 1) (sym is)
        ∙ ap (λ j. bit_at word j == 1) (less at place) ∙ ap (λ x. x == 1) lowest.one;
    between = none_before word from place is (omega (arith, lowest.within)) lowest.below none;
  }
    where
      less : (at place : ℕ) → at * 64 + place - at * 64 ≡ place
      less at place = omega arith

-- past the last word there is none
pub none_past : (marks : List ℕ) (from at : ℕ) → length marks ≤ at → ((k : ℕ) → from ≤ k → k < at * 64 → is_marked marks k ≡ false)
    → (k : ℕ) → from ≤ k → is_marked marks k ≡ false
none_past marks from at past none k le = elim (cases_lt k (at * 64)) [
  | inl lt ↦ none k le lt
  | inr more ↦ ap (λ w. bit_at w (k % 64) == 1) (get_or_past marks (k / 64) 0 (omega (arith, past, more))) ∙ ap (λ x. x == 1)
      (bit_at_above 0 0 (k % 64) (omega arith) (omega arith))
]

-- ---- one place more

pub one_more : (marks : List ℕ) (place n k : ℕ) → place < 64 * length marks → n ≡ slice_index marks (place / 64)
    → is_marked (slice_set marks (place / 64) (bit_or n (1 * 2 ^ (place % 64) % 2 ^ 64))) k ≡ (place == k || is_marked marks k)
one_more marks place n k within is = elim (cases_eq (k / 64) (place / 64)) [
  | inl e ↦ elim (cases_eq (k % 64) (place % 64)) [
    | inl f ↦ same_word e ∙ ap (λ j. bit_at set j == 1) f ∙ ap (λ x. x == 1) (bit_at_set_same w64 n (place % 64) small)
        ∙ sym (ap (λ b. b || is_marked marks k) (eq-eqb place k (same place k e f)))
    | inr ne ↦ same_word e ∙ ap (λ x. x == 1) (bit_at_set_other w64 n (place % 64) small (k % 64) ne)
        ∙ ap (λ w. bit_at w (k % 64) == 1) (is ∙ ap (λ a. slice_index marks a) (sym e))
        ∙ sym (ap (λ b. b || is_marked marks k) (ne_eqb place k (λ e. ne (ap (λ x. x % 64) (sym e)))))
  ]
  | inr ne ↦ ap (λ w. bit_at w (k % 64) == 1) (get_or-set_other marks (place / 64) (k / 64) set 0 ne)
      ∙ sym (ap (λ b. b || is_marked marks k) (ne_eqb place k (λ e. ne (ap (λ x. x / 64) (sym e)))))
]
  where
    set : ℕ
    set = bit_or n (1 * 2 ^ (place % 64) % 2 ^ 64)

    small : place % 64 < 64
    small = omega arith

    there : place / 64 < length marks
    there = omega (arith, within)

    same : (place k : ℕ) → k / 64 ≡ place / 64 → k % 64 ≡ place % 64 → place ≡ k
    same place k e f = omega (arith, e, f)

    same_word : k / 64 ≡ place / 64 → is_marked (slice_set marks (place / 64) set) k ≡ (bit_at set (k % 64) == 1)
    same_word e = ap (λ a. bit_at (slice_index (slice_set marks (place / 64) set) a) (k % 64) == 1) e
        ∙ ap (λ w. bit_at w (k % 64) == 1) (get_or-set_same marks (place / 64) set 0 there)
