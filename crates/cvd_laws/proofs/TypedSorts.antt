-- Behind the same pieces of an expression either a number must come, whatever the expression, or none.
use Rattle.std.specs.Prelude.{◌≡◌, ℕ, zero, suc, ◌≤◌, Bool, true, false, List, [], ◌∷◌, ◌++◌, length, refl}
use mathlib.Core.Path.{sym, ap, ◌∙◌}
use mathlib.Core.Bool.{true≢false}
use native.Mathlib.Omega.{arith}
use Rattle.design_tree.specs.declared.typed.Typed.{Typed}
use Rattle.cvd_text.specs.Tokens.{Token, word, number, hex, is_numeric}
use Rattle.cvd_laws.specs.Expressions.{is_token}
use Rattle.cvd_text.specs.Expressions.{tokens_of}
use Rattle.spelling_laws.specs.Spelled.{all_fit, Apart, Awaits, OneSort}
use Rattle.spelling_laws.proofs.Sorts.{sorts_one, sorts_pair}
use Rattle.cvd_laws.proofs.Typeds.{Head, a_number, a_variable, a_word, a_part, zeros, signs, cut, unary, binary, join, repeats, choice, Parts, parts_spelled}
use Rattle.cvd_laws.proofs.Typeds.{whole_spelled, head_token, from, alike, sNumber, sHex, sSign, sign_token, same_heads, apart_number, apart_sign, apart_typed}
use Rattle.spelling_laws.proofs.One as single
use Rattle.spelling_laws.proofs.Fitting.{head_or}

abbrev Sorted : {A : Type 0} → ℕ → (A → List Token) → Type 0
Sorted most s = OneSort is_token most is_numeric s

sorted_number : (most : ℕ) → Sorted most sNumber
sorted_number most = sorts_one is_token is_numeric ℕ number (λ v w. refl) most

sorted_hex : (most : ℕ) → Sorted most sHex
sorted_hex most = sorts_one is_token is_numeric ℕ hex (λ v w. refl) most

sorted_sign : (most : ℕ) → Sorted most sSign
sorted_sign most = sorts_one is_token is_numeric Bool sign_token (λ v w. refl) most

sorted_heads : (most : ℕ) → Sorted most (λ (h : Head). head_token h ∷ [])
sorted_heads most = sorts_one is_token is_numeric Head head_token (λ v w. refl) most

-- one behind another
then_sorted : (A B : Type 0) (sA : A → List Token) (sB : B → List Token) (most : ℕ) → Apart is_token sA → Sorted most sA → Sorted most sB
    → Sorted most (λ (p : (x : A) × B). sA p.0 ++ sB p.1)
then_sorted A B sA sB most apart first second = sorts_pair is_token A (λ x. B) sA (λ x y. sB y) apart most most (λ a. omega arith) is_numeric first (λ a.
    second)

module _ (most : ℕ) (typed : Sorted most tokens_of) where
  two_sorted : Sorted most (λ (p : (l : Typed) × Typed). tokens_of p.0 ++ tokens_of p.1)
  two_sorted = then_sorted Typed Typed tokens_of tokens_of most apart_typed typed typed

  number_sorted : Sorted most (λ (p : (m : ℕ) × Typed). sNumber p.0 ++ tokens_of p.1)
  number_sorted = then_sorted ℕ Typed sNumber tokens_of most apart_number (sorted_number most) typed

  sorted_parts : (h : Head) → Sorted most (parts_spelled h)
  sorted_parts a_number = then_sorted ℕ ℕ sNumber sHex most apart_number (sorted_number most) (sorted_hex most)
  sorted_parts a_variable = sorted_number most
  sorted_parts a_word =
      then_sorted ℕ _ sNumber _ most apart_number (sorted_number most)
      (then_sorted ℕ _ sNumber _ most apart_number (sorted_number most) (then_sorted Bool _ sSign tokens_of most apart_sign (sorted_sign most) typed))
  sorted_parts a_part =
      then_sorted ℕ _ sNumber _ most apart_number (sorted_number most)
      (then_sorted ℕ _ sNumber _ most apart_number (sorted_number most) (then_sorted Bool _ sSign _ most apart_sign (sorted_sign most) two_sorted))
  sorted_parts zeros = number_sorted
  sorted_parts signs = number_sorted
  sorted_parts cut = number_sorted
  sorted_parts (unary op) = typed
  sorted_parts (binary op) = two_sorted
  sorted_parts join = two_sorted
  sorted_parts repeats = number_sorted
  sorted_parts choice = then_sorted Typed _ tokens_of _ most apart_typed typed two_sorted

-- what an expression awaits, its head and parts await
back : (gs : List (List ℕ)) (m : Token) → Awaits is_token tokens_of gs m → Awaits is_token whole_spelled gs m
back gs m w = record { value = from w.value; first = w.first; more = w.more; split = sym (alike w.value) ∙ w.split; fit = w.fit }

sorted_whole : (most : ℕ) → ((h : Head) → Sorted most (parts_spelled h)) → Sorted (suc most) whole_spelled
sorted_whole most parts =
    sorts_pair is_token Head Parts (λ h. head_token h ∷ []) parts_spelled (single.apart_one is_token Head head_token same_heads) (suc most) most (λ h. omega
    arith) is_numeric
    (sorted_heads (suc most)) parts

-- at the front of an expression stands a word
front_word : Sorted zero tokens_of
front_word gs m n few v w = by gs few (back gs m v) (back gs n w)
  where
    head_awaited : (m : Token) → Awaits is_token whole_spelled [] m → is_numeric m ≡ false
    head_awaited m w = first_of_it w.first w.split w.fit
      where
        first_of_it : (first : List Token) → whole_spelled w.value ≡ first ++ m ∷ w.more → all_fit is_token [] first ≡ true → is_numeric m ≡ false
        first_of_it [] s f = ap (λ l. is_numeric (head_or (word []) l)) (sym s)
        first_of_it (x ∷ first) s f = absurd (true≢false (sym f))

    by : (gs : List (List ℕ)) → length gs ≤ 0 → Awaits is_token whole_spelled gs m → Awaits is_token whole_spelled gs n → is_numeric m ≡ is_numeric n
    by [] few x y = head_awaited m x ∙ sym (head_awaited n y)
    by (g ∷ gs) few x y = absurd (omega arith)

pub sorted_typed : (most : ℕ) → Sorted most tokens_of
sorted_typed zero = front_word
sorted_typed (suc most) = λ gs m n few v w. sorted_whole most (sorted_parts most (sorted_typed most)) gs m n few (back gs m v) (back gs n w)
