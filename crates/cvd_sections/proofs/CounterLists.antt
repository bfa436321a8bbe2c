-- Lists of counters, as one word each.
use Rattle.std.proofs.Common.{◌≡◌, ℕ, suc, ◌+◌, ◌-◌, ◌≤◌, Some, None, take, drop, Bool, true, false, cond, List, [], ◌∷◌, ◌++◌, length, refl, sym, ◌∙◌, ap}
use Rattle.std.proofs.Common.{arith, map, codes, ◌<◌, length-drop}
use Rattle.std.specs.Prelude.{◌==◌, ◌&&◌, ◌||◌, not, nat_lt, slice_index}
use Rattle.std.specs.List.{list_all}
use Rattle.std.specs.Str.{bytes_eq}
use Rattle.std.specs.Cmp.Lexicographic.{bytes_decides}
use Rattle.std.proofs.lemmas.Bool.{cases_Bool, eqb-true, true≢false}
use Rattle.std.proofs.lemmas.List.{take_rest}
use Rattle.memchr.specs.Find.{is_byte, IsFirstByte}
use Rattle.std.proofs.lemmas.Bool.Decides.{nat_tests}
use Rattle.std.proofs.lemmas.List.Splits.{length-slice_split}
use mathlib.Core.Logic.{inl, inr}
use Rattle.cov_types.specs.LineLists.{separated}
use Rattle.spelling_laws.specs.Spelled.{Apart}
use Rattle.spelling_laws.proofs.One as single
use Rattle.spelling_laws.proofs.Fitting.{assoc, first_true, second_true, both_true}
use Rattle.cvd_text.specs.Tokens.{counters, counters_text, decimal_text}
use Rattle.cvd_text.specs.Pieces.{Piece, a_word, feed, fits, token}
use Rattle.cvd_laws.proofs.Numerals.{same_numeral}
use Rattle.cvd_laws.proofs.Typeds.{same_text}
use Rattle.cvd_cursor.specs.Numerals.{is_digit, is_numeral, value_of}
use Rattle.cvd_cursor.specs.Reads.{marks}
use Rattle.cvd_cursor.proofs.Cutting.{none_at_all, none_before, none_passes, split_at}
use Rattle.cvd_cursor.proofs.Digits.{numeral_back, numeral_is, numeral_digits}
use Rattle.cvd_sections.specs.Keys.{counters_tokens, is_list, list_of, parts_of}
use Rattle.cvd_text.specs.Sections.{are_below}
use Rattle.cvd_sections.proofs.Judging.{both_hold, fails_first, fails_second}
use Rattle.cvd_sections.proofs.Lasts.{all_of_joined}
use Rattle.cvd_sections.proofs.Parts.{joined_parts, parts_front, parts_joined, parts_only}

abbrev pub numerals : List (List ℕ) → Bool
numerals ws = list_all (is_numeral 10) ws

no_comma : (b : ℕ) → is_digit 10 b ≡ true → not (b == 44) ≡ true
no_comma b h = grind (arith, nat_tests)

clean_digits : (w : List ℕ) → list_all (is_digit 10) w ≡ true → none_passes (λ b. b == 44) w ≡ true
clean_digits [] h = refl
clean_digits (b ∷ w) h =
    both_true (not (b == 44)) _ (no_comma b (first_true (is_digit 10 b) _ h)) (clean_digits w (second_true (is_digit 10 b) _ h))

decimals_clean : (ns : List ℕ) → list_all (none_passes (λ b. b == 44)) (map decimal_text ns) ≡ true
decimals_clean [] = refl
decimals_clean (n ∷ ns) =
    both_true (none_passes (λ b. b == 44) (decimal_text n)) _
    (clean_digits (decimal_text n) (numeral_digits 10 (decimal_text n) (numeral_is 10 n (omega arith) (omega arith)))) (decimals_clean ns)

decimals_numerals : (ns : List ℕ) → numerals (map decimal_text ns) ≡ true
decimals_numerals [] = refl
decimals_numerals (n ∷ ns) = both_true (is_numeral 10 (decimal_text n)) _ (numeral_is 10 n (omega arith) (omega arith)) (decimals_numerals ns)

-- the parts of a list are its numbers
parts_are : (n : ℕ) (ns : List ℕ) → parts_of (counters_text (n ∷ ns)) ≡ map decimal_text (n ∷ ns)
parts_are n ns = parts_joined 44 (decimal_text n) (map decimal_text ns) (decimals_clean (n ∷ ns))

same_bytes : (x : List ℕ) → bytes_eq x x ≡ true
same_bytes x = (bytes_decides x x).1 refl

values_back : (ws : List (List ℕ)) → numerals ws ≡ true → map decimal_text (map (value_of 10) ws) ≡ ws
values_back [] h = refl
values_back (w ∷ ws) h =
    ap (λ x. x ∷ map decimal_text (map (value_of 10) ws)) (numeral_back 10 w (omega arith) (first_true (is_numeral 10 w) _ h))
    ∙ ap (λ l. w ∷ l) (values_back ws (second_true (is_numeral 10 w) _ h))

decimal_back : (n : ℕ) → value_of 10 (decimal_text n) ≡ n
decimal_back n =
    same_numeral 10 (value_of 10 (decimal_text n)) n (omega arith) (omega arith)
    (numeral_back 10 (decimal_text n) (omega arith) (numeral_is 10 n (omega arith) (omega arith)))

decimals_back : (ns : List ℕ) → map (value_of 10) (map decimal_text ns) ≡ ns
decimals_back [] = refl
decimals_back (n ∷ ns) = ap (λ x. x ∷ map (value_of 10) (map decimal_text ns)) (decimal_back n) ∙ ap (λ l. n ∷ l) (decimals_back ns)

-- numbers with commas between are no `-`
no_dash : (n : ℕ) (ns : List ℕ) → bytes_eq (counters_text (n ∷ ns)) (codes "-") ≡ false
no_dash n ns = elim (cases_Bool (bytes_eq (counters_text (n ∷ ns)) (codes "-"))) [
  | inl same ↦
      let e = sym (parts_are n ns) ∙ ap parts_of (same_text (counters_text (n ∷ ns)) (codes "-") same) in
      absurd (true≢false (sym (decimals_numerals (n ∷ ns)) ∙ ap numerals e))
  | inr other ↦ other
]

-- a list of counters is told by its word
pub list_back : (ns : List ℕ) → list_of (counters_text ns) ≡ ns
list_back [] = refl
list_back (n ∷ ns) =
    ap (λ b. cond b [] (map (value_of 10) (parts_of (counters_text (n ∷ ns))))) (no_dash n ns) ∙ ap (map (value_of 10)) (parts_are n ns)
    ∙ decimals_back (n ∷ ns)

list_there : (ns : List ℕ) → is_list (counters_text ns) ≡ true
list_there [] = refl
list_there (n ∷ ns) =
    ap (λ b. b || numerals (parts_of (counters_text (n ∷ ns)))) (no_dash n ns) ∙ ap numerals (parts_are n ns) ∙ decimals_numerals (n ∷ ns)

-- a word that is none is no list's
pub no_list : (text : List ℕ) → is_list text ≡ false → (ns : List ℕ) → bytes_eq text (counters_text ns) ≡ false
no_list text h ns = elim (cases_Bool (bytes_eq text (counters_text ns))) [
  | inl same ↦ absurd (true≢false (sym (list_there ns) ∙ sym (ap is_list (same_text text (counters_text ns) same)) ∙ h))
  | inr other ↦ other
]

some_texts : (ws : List (List ℕ)) (k : ℕ) → length ws ≡ k + 1 → numerals ws ≡ true
    → counters_text (map (value_of 10) ws) ≡ separated (codes ",") ws
some_texts [] k some h = absurd (omega (arith, some))
some_texts (w ∷ ws) k some h = ap (separated (codes ",")) (values_back (w ∷ ws) h)

-- a word that is one is that of its list
pub fits_list : (text : List ℕ) → is_list text ≡ true → bytes_eq text (counters_text (list_of text)) ≡ true
fits_list text h = by (bytes_eq text (codes "-")) refl h
  where
    by : (b : Bool) → bytes_eq text (codes "-") ≡ b → (b || numerals (parts_of text)) ≡ true
        → bytes_eq text (counters_text (cond b [] (map (value_of 10) (parts_of text)))) ≡ true
    by true e k = e
    by false e k =
        ap (bytes_eq text) (some_texts (parts_of text) _ (length-slice_split (λ b. b == 44) text) k ∙ joined_parts 44 text) ∙ same_bytes text

same_lists : (p : Piece) (v w : List ℕ) → fits p (token (counters v)) ≡ true → fits p (token (counters w)) ≡ true → v ≡ w
same_lists (a_word text) v w e f =
    sym (list_back v) ∙ ap list_of (sym (same_text text (counters_text v) e) ∙ same_text text (counters_text w) f) ∙ list_back w
same_lists feed v w e f = absurd (true≢false (sym e))

pub apart_counters : Apart fits (marks counters_tokens)
apart_counters ns = single.apart_one fits (List ℕ) (λ ms. token (counters ms)) same_lists ns

-- ---- the parts as a loop finds them

pub cut_at : (rest : List ℕ) (at : ℕ) → IsFirstByte (is_byte 44) rest (Some at) → parts_of rest ≡ take at rest ∷ parts_of (drop (suc at) rest)
cut_at rest at h =
    let within = h.0.high in
    let byte = eqb-true (slice_index rest at) 44 h.1 in
    let clean = none_before (is_byte 44) rest at (omega arith) (λ k small. h.0.before k (omega arith) small) in
    ap parts_of (split_at rest at within ∙ ap (λ b. take at rest ++ b ∷ drop (suc at) rest) byte) ∙ parts_front 44 (take at rest) (drop (suc at) rest) clean

pub cut_none : (rest : List ℕ) → IsFirstByte (is_byte 44) rest None → parts_of rest ≡ rest ∷ []
cut_none rest h = parts_only 44 rest (none_at_all (is_byte 44) rest (λ k small p. h k (omega arith) small p))

pub behind_part : (rest : List ℕ) (at : ℕ) → drop (suc at) rest ≡ take (length rest - (at + 1)) (drop (at + 1) rest)
behind_part rest at = let e : suc at ≡ at + 1 = omega arith in ap (λ n. drop n rest) e ∙ sym (take_rest rest (at + 1))

and_true : (b : Bool) → (b && true) ≡ b
and_true true = refl
and_true false = refl

-- all parts are numerals where those of the rest are
pub first_no_numeral : (rest : List ℕ) (at : ℕ) → IsFirstByte (is_byte 44) rest (Some at) → is_numeral 10 (take at rest) ≡ false
    → numerals (parts_of rest) ≡ false
first_no_numeral rest at h wrong =
    ap numerals (cut_at rest at h) ∙ ap (λ b. b && numerals (parts_of (drop (suc at) rest))) wrong

pub numerals_behind : (rest : List ℕ) (at : ℕ) → IsFirstByte (is_byte 44) rest (Some at) → is_numeral 10 (take at rest) ≡ true
    → numerals (parts_of rest) ≡ numerals (parts_of (take (length rest - (at + 1)) (drop (at + 1) rest)))
numerals_behind rest at h one =
    ap numerals (cut_at rest at h) ∙ ap (λ b. b && numerals (parts_of (drop (suc at) rest))) one ∙ ap (λ l. numerals (parts_of l)) (behind_part rest at)

pub numerals_only : (rest : List ℕ) → IsFirstByte (is_byte 44) rest None → numerals (parts_of rest) ≡ is_numeral 10 rest
numerals_only rest h = ap numerals (cut_none rest h) ∙ and_true (is_numeral 10 rest)

pub part_shorter : (rest : List ℕ) (at : ℕ) → at < length rest → length (take (length rest - (at + 1)) (drop (at + 1) rest)) < length rest
part_shorter rest at within = let e = sym (ap length (behind_part rest at)) in omega (arith, length-drop (suc at) rest)

-- some numbers of a list are held, each below a number
pub record ListSoFar (n : ℕ) (text rest kept : List ℕ) : Type 0 where
  pub done : List (List ℕ)
  pub parts : parts_of text ≡ done ++ parts_of rest
  pub held : kept ≡ map (value_of 10) done
  pub below : are_below n kept ≡ true
  pub left : numerals (parts_of rest) ≡ true
  pub shorter : length rest ≤ length text

pub list_begins : (n : ℕ) (text : List ℕ) → is_list text ≡ true → bytes_eq text (codes "-") ≡ false → ListSoFar n text text []
list_begins n text h other = record {
  done = [];
  parts = refl;
  held = refl;
  below = refl;
  left = sym (ap (λ b. b || numerals (parts_of text)) other) ∙ h;
  shorter = omega arith;
}

map_joined : (xs ys : List (List ℕ)) → map (value_of 10) (xs ++ ys) ≡ map (value_of 10) xs ++ map (value_of 10) ys
map_joined [] ys = refl
map_joined (x ∷ xs) ys = ap (λ l. value_of 10 x ∷ l) (map_joined xs ys)

list_is : (text : List ℕ) → bytes_eq text (codes "-") ≡ false → list_of text ≡ map (value_of 10) (parts_of text)
list_is text other = ap (λ b. cond b [] (map (value_of 10) (parts_of text))) other

module _ (n : ℕ) (text rest kept : List ℕ) (s : ListSoFar n text rest kept) where
  values_are : (w : List ℕ) (ws : List (List ℕ)) → parts_of rest ≡ w ∷ ws → map (value_of 10) (parts_of text) ≡ kept ++ value_of 10 w ∷ map (value_of 10) ws
  values_are w ws e =
      ap (map (value_of 10)) (s.parts ∙ ap (λ l. s.done ++ l) e) ∙ map_joined s.done (w ∷ ws) ∙ ap (λ l. l ++ value_of 10 w ∷ map (value_of 10) ws) (sym s.held)

  -- the next number is too large
  pub list_fails : bytes_eq text (codes "-") ≡ false → (w : List ℕ) (ws : List (List ℕ)) → parts_of rest ≡ w ∷ ws → nat_lt (value_of 10 w) n ≡ false
      → are_below n (list_of text) ≡ false
  list_fails other w ws e large =
      ap (are_below n) (list_is text other ∙ values_are w ws e)
      ∙ all_of_joined (λ k. nat_lt k n) kept (value_of 10 w ∷ map (value_of 10) ws)
      ∙ fails_second (are_below n kept) _ (fails_first (nat_lt (value_of 10 w) n) _ large)

  next_below : (w : List ℕ) → nat_lt (value_of 10 w) n ≡ true → are_below n (kept ++ value_of 10 w ∷ []) ≡ true
  next_below w small =
      all_of_joined (λ k. nat_lt k n) kept (value_of 10 w ∷ []) ∙ both_hold (are_below n kept) _ s.below (both_hold (nat_lt (value_of 10 w) n) true small refl)

  pub list_goes_on : (at v : ℕ) → IsFirstByte (is_byte 44) rest (Some at) → v ≡ value_of 10 (take at rest) → nat_lt (value_of 10 (take at rest)) n ≡ true
      → ListSoFar n text (take (length rest - (at + 1)) (drop (at + 1) rest)) (kept ++ v ∷ [])
  list_goes_on at v h is small =
      let w = take at rest in
      let e = cut_at rest at h ∙ ap (λ l. w ∷ parts_of l) (behind_part rest at) in
      let next = take (length rest - (at + 1)) (drop (at + 1) rest) in
      let less = part_shorter rest at h.0.high in
      record {
        done = s.done ++ w ∷ [];
        parts = s.parts ∙ ap (λ l. s.done ++ l) e ∙ sym (assoc s.done (w ∷ []) (parts_of next));
        held = ap (λ y. kept ++ y ∷ []) is ∙ ap (λ l. l ++ value_of 10 w ∷ []) s.held ∙ sym (map_joined s.done (w ∷ []));
        below = ap (λ y. are_below n (kept ++ y ∷ [])) is ∙ next_below w small;
        left = second_true (is_numeral 10 w) _ (sym (ap numerals e) ∙ s.left);
        shorter = omega (arith, s.shorter);
      }

  pub next_numeral : (at : ℕ) → IsFirstByte (is_byte 44) rest (Some at) → is_numeral 10 (take at rest) ≡ true
  next_numeral at h = first_true (is_numeral 10 (take at rest)) _ (sym (ap numerals (cut_at rest at h)) ∙ s.left)

  pub last_numeral : IsFirstByte (is_byte 44) rest None → is_numeral 10 rest ≡ true
  last_numeral h = sym (numerals_only rest h) ∙ s.left

  pub list_ends : bytes_eq text (codes "-") ≡ false → (v : ℕ) → IsFirstByte (is_byte 44) rest None → v ≡ value_of 10 rest → nat_lt (value_of 10 rest) n ≡ true
      → (kept ++ v ∷ [] ≡ list_of text) × (are_below n (list_of text) ≡ true)
  list_ends other v h is small =
      let all = list_is text other ∙ values_are rest [] (cut_none rest h) in
      (ap (λ y. kept ++ y ∷ []) is ∙ sym all, ap (are_below n) all ∙ next_below rest small)
