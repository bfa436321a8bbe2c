-- A list of counters is told by its text.
use Rattle.std.proofs.Common.{◌≡◌, ℕ, Bool, true, false, List, [], ◌∷◌, map, refl, sym, ◌∙◌, ap, arith, eqb, append_assoc}
use Rattle.std.specs.Prelude.{codes}
use Rattle.std.specs.List.{list_all, slice_split, AllByRecursion}
use Rattle.std.proofs.lemmas.Bool.{true≢false}
use Rattle.std.proofs.lemmas.Bool.Decides.{nat_tests}
use Rattle.std.proofs.lemmas.List.Elements.{All-from_recursion}
use Rattle.std.proofs.lemmas.List.Splits.{slice_split_none, slice_split_at}
use Rattle.cov_types.specs.LineLists.{separated}
use Rattle.cvd_text.specs.Tokens.{Token, counters, decimal_text, counters_text}
use Rattle.cvd_cursor.specs.Numerals.{is_digit}
use Rattle.cvd_cursor.proofs.Digits.{first_of, numeral_is, numeral_digits}
use Rattle.cvd_laws.specs.Expressions.{is_token}
use Rattle.cvd_laws.proofs.Numerals.{same_numeral}
use Rattle.cvd_laws.proofs.Typeds.{same_text}
use Rattle.spelling_laws.specs.Spelled.{Apart}
use Rattle.spelling_laws.proofs.Fitting.{second_true, tail_of, head_or}
use Rattle.spelling_laws.proofs.One as single

abbrev is_comma : ℕ → Bool
is_comma b = eqb b 44

abbrev IsClear : List ℕ → Type 0
IsClear t = AllByRecursion (λ b. is_comma b ≡ false) t

no_comma : (b : ℕ) → is_digit 10 b ≡ true → is_comma b ≡ false
no_comma b h = grind (arith, nat_tests)

digits_clear : (t : List ℕ) → list_all (is_digit 10) t ≡ true → IsClear t
digits_clear [] h = tt
digits_clear (b ∷ t) h = (no_comma b (first_of _ _ h), digits_clear t (second_true (is_digit 10 b) _ h))

decimal_digits : (n : ℕ) → list_all (is_digit 10) (decimal_text n) ≡ true
decimal_digits n = numeral_digits 10 (decimal_text n) (numeral_is 10 n (omega arith) (omega arith))

all_clear : (ns : List ℕ) → AllByRecursion IsClear (map decimal_text ns)
all_clear [] = tt
all_clear (n ∷ ns) = (digits_clear (decimal_text n) (decimal_digits n), all_clear ns)

-- texts with commas between are told by where the commas stand
cut_separated : (t : List ℕ) (ts : List (List ℕ)) → AllByRecursion IsClear (t ∷ ts) → slice_split is_comma (separated (codes ",") (t ∷ ts)) ≡ t ∷ ts
cut_separated t [] h = slice_split_none is_comma t (All-from_recursion (λ b. is_comma b ≡ false) t h.0)
cut_separated t (u ∷ ts) h =
    ap (slice_split is_comma) (append_assoc t (codes ",") (separated (codes ",") (u ∷ ts)))
    ∙ slice_split_at is_comma t 44 (separated (codes ",") (u ∷ ts)) (All-from_recursion (λ b. is_comma b ≡ false) t h.0) refl
    ∙ ap (λ l. t ∷ l) (cut_separated u ts h.1)

same_decimals : (xs ys : List ℕ) → map decimal_text xs ≡ map decimal_text ys → xs ≡ ys
same_decimals [] [] e = refl
same_decimals [] (y ∷ ys) e = absurd (cc)
same_decimals (x ∷ xs) [] e = absurd (cc)
same_decimals (x ∷ xs) (y ∷ ys) e =
    ap (λ n. n ∷ xs) (same_numeral 10 x y (omega arith) (omega arith) (ap (head_or []) e)) ∙ ap (λ l. y ∷ l) (same_decimals xs ys (ap tail_of e))

no_dash : (n : ℕ) → codes "-" ≡ decimal_text n → ⊥
no_dash n e = true≢false (sym (decimal_digits n) ∙ sym (ap (list_all (is_digit 10)) e))

pub same_counters : (xs ys : List ℕ) → counters_text xs ≡ counters_text ys → xs ≡ ys
same_counters [] [] e = refl
same_counters [] (y ∷ ys) e = absurd (no_dash y (ap (head_or []) (ap (slice_split is_comma) e
    ∙ cut_separated (decimal_text y) (map decimal_text ys) (all_clear (y ∷ ys)))))
same_counters (x ∷ xs) [] e =
    absurd (no_dash x (ap (head_or []) (ap (slice_split is_comma) (sym e) ∙ cut_separated (decimal_text x) (map decimal_text xs) (all_clear (x ∷ xs)))))
same_counters (x ∷ xs) (y ∷ ys) e =
    same_decimals (x ∷ xs) (y ∷ ys)
    (sym (cut_separated (decimal_text x) (map decimal_text xs) (all_clear (x ∷ xs))) ∙ ap (slice_split is_comma) e
    ∙ cut_separated (decimal_text y) (map decimal_text ys) (all_clear (y ∷ ys)))

abbrev pub counters_tokens : List ℕ → List Token
counters_tokens ns = counters ns ∷ []

pub apart_counters : Apart is_token counters_tokens
apart_counters = single.apart_one is_token (List ℕ) counters (λ p v w e f. same_counters v w (sym (same_text p _ e) ∙ same_text p _ f))
