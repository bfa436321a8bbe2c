-- The first field of a line.
use Rattle.std.proofs.Common.{◌≡◌, ℕ, ◌+◌, ◌-◌, ◌<◌, ◌≤◌, Bool, true, false, cond, not, suc, List, [], ◌∷◌, length, take, drop, filter, refl, sym, ◌∙◌, ap}
use Rattle.std.proofs.Common.{arith}
use Rattle.std.proofs.lemmas.List.{take_rest}
use Rattle.std.specs.List.{prefix_len, slice_split}
use Rattle.stim_lines.specs.Fields.{fields_of, is_blank, is_field_byte, is_not_empty}

-- blanks before a text are no field
blank-first : (x : ℕ) (xs : List ℕ) → is_blank x ≡ true → fields_of (x ∷ xs) ≡ fields_of xs
blank-first x xs e = rw e refl

pub blanks-dropped : (s : List ℕ) → fields_of (drop (prefix_len is_blank s) s) ≡ fields_of s
blanks-dropped [] = refl
blanks-dropped (x ∷ xs) = by (blanks-dropped xs) (is_blank x) refl
  where
    by : fields_of (drop (prefix_len is_blank xs) xs) ≡ fields_of xs → (t : Bool) → is_blank x ≡ t
        → fields_of (drop (cond t (1 + prefix_len is_blank xs) 0) (x ∷ xs)) ≡ fields_of (x ∷ xs)
    by more true e = let one : 1 + prefix_len is_blank xs ≡ suc (prefix_len is_blank xs) = omega arith in rw one (more ∙ sym (blank-first x xs e))
    by more false e = refl

-- the parts behind the first
abbrev behind : List ℕ → List (List ℕ)
behind [] = []
behind (b ∷ rest) = slice_split is_blank rest

-- a run of bytes other than blanks is the first part
first-part : (s : List ℕ) → slice_split is_blank s ≡ take (prefix_len is_field_byte s) s ∷ behind (drop (prefix_len is_field_byte s) s)
first-part [] = refl
first-part (x ∷ xs) = by (first-part xs) (is_blank x) refl
  where
    by : slice_split is_blank xs ≡ take (prefix_len is_field_byte xs) xs ∷ behind (drop (prefix_len is_field_byte xs) xs) → (t : Bool) → is_blank x ≡ t
        → slice_split is_blank (x ∷ xs) ≡ take (cond (not t) (1 + prefix_len is_field_byte xs) 0) (x ∷ xs) ∷ behind
        (drop (cond (not t) (1 + prefix_len is_field_byte xs) 0) (x ∷ xs))
    by more true e = rw e refl
    by more false e = let one : 1 + prefix_len is_field_byte xs ≡ suc (prefix_len is_field_byte xs) = omega arith in rw (e, one, more) refl

-- the parts behind it are the fields of what follows, whose first byte is a blank
fields-behind : (s : List ℕ) → filter is_not_empty (behind (drop (prefix_len is_field_byte s) s)) ≡ fields_of (drop (prefix_len is_field_byte s) s)
fields-behind [] = refl
fields-behind (x ∷ xs) = by (fields-behind xs) (is_blank x) refl
  where
    by : filter is_not_empty (behind (drop (prefix_len is_field_byte xs) xs)) ≡ fields_of (drop (prefix_len is_field_byte xs) xs) → (t : Bool) → is_blank x ≡ t
        → filter is_not_empty (behind (drop (cond (not t) (1 + prefix_len is_field_byte xs) 0) (x ∷ xs)))
        ≡ fields_of (drop (cond (not t) (1 + prefix_len is_field_byte xs) 0) (x ∷ xs))
    by more true e = sym (blank-first x xs e)
    by more false e = let one : 1 + prefix_len is_field_byte xs ≡ suc (prefix_len is_field_byte xs) = omega arith in rw one more

some-taken : (s : List ℕ) (n : ℕ) → 0 < n → n ≤ length s → is_not_empty (take n s) ≡ true
some-taken [] n h l = absurd (omega arith)
some-taken (x ∷ xs) n h l = let e : n ≡ suc (n - 1) = omega arith in rw e refl

-- the first field and those of what follows
pub field-first : (s : List ℕ) (n : ℕ) → n ≡ prefix_len is_field_byte s → 0 < n → n ≤ length s → fields_of s ≡ take n s ∷ fields_of (drop n s)
field-first s n e h l =
    ap (filter is_not_empty) (first-part s)
    ∙ ap (λ (k : ℕ). filter is_not_empty (take k s ∷ behind (drop (prefix_len is_field_byte s) s))) (sym e)
    ∙ ap (λ (t : Bool). cond t (take n s ∷ filter is_not_empty (behind (drop (prefix_len is_field_byte s) s)))
    (filter is_not_empty (behind (drop (prefix_len is_field_byte s) s)))) (some-taken s n h l)
    ∙ ap (λ (fs : List (List ℕ)). take n s ∷ fs) (fields-behind s ∙ ap (λ (k : ℕ). fields_of (drop k s)) (sym e))

abbrev begins_blank : List ℕ → Bool
begins_blank [] = false
begins_blank (x ∷ xs) = is_blank x

-- behind the blanks before it a text begins with none
no-blank : (s : List ℕ) → begins_blank (drop (prefix_len is_blank s) s) ≡ false
no-blank [] = refl
no-blank (x ∷ xs) = by (no-blank xs) (is_blank x) refl
  where
    by : begins_blank (drop (prefix_len is_blank xs) xs) ≡ false → (t : Bool) → is_blank x ≡ t
        → begins_blank (drop (cond t (1 + prefix_len is_blank xs) 0) (x ∷ xs)) ≡ false
    by more true e = let one : 1 + prefix_len is_blank xs ≡ suc (prefix_len is_blank xs) = omega arith in rw one more
    by more false e = e

empty-fields : (t : List ℕ) → prefix_len is_field_byte t ≡ 0 → begins_blank t ≡ false → fields_of t ≡ []
empty-fields [] z f = refl
empty-fields (x ∷ xs) z f = absurd (omega (arith, sym (ap (λ (b : Bool). cond (not b) (1 + prefix_len is_field_byte xs) 0) f) ∙ z))

-- what a call sees behind the blanks
rest_is : (s : List ℕ) (b : ℕ) → b ≡ prefix_len is_blank s → take (length s - b) (drop b s) ≡ drop (prefix_len is_blank s) s
rest_is s b e = take_rest s b ∙ ap (λ (k : ℕ). drop k s) e

-- a line in which nothing follows the blanks has no field
pub no-field : (s : List ℕ) (b n : ℕ) → b ≡ prefix_len is_blank s → n ≡ prefix_len is_field_byte (take (length s - b) (drop b s)) → n ≡ 0 → fields_of s ≡ []
no-field s b n e f z =
    sym (blanks-dropped s)
    ∙ empty-fields (drop (prefix_len is_blank s) s) (sym (ap (prefix_len is_field_byte) (rest_is s b e)) ∙ sym f ∙ z) (no-blank s)

-- the first field of a line, and the fields of what follows
pub field-taken : (s : List ℕ) (b n : ℕ) → b ≡ prefix_len is_blank s → n ≡ prefix_len is_field_byte (take (length s - b) (drop b s))
    → n ≤ length (take (length s - b) (drop b s)) → 0 < n
    → fields_of s ≡ take n (take (length s - b) (drop b s)) ∷ fields_of
    (take (length (take (length s - b) (drop b s)) - n) (drop n (take (length s - b) (drop b s))))
field-taken s b n e f within some =
    sym (blanks-dropped s)
    ∙ ap fields_of (sym (rest_is s b e))
    ∙ field-first (take (length s - b) (drop b s)) n f some within
    ∙ ap (λ (r : List ℕ). take n (take (length s - b) (drop b s)) ∷ fields_of r) (sym (take_rest (take (length s - b) (drop b s)) n))
