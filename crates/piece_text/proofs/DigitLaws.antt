-- Digits in parts, and digits without leading zeros.
use Rattle.std.proofs.Common.{◌≡◌, ◌∙◌, ap, sym, subst, refl, ℕ, zero, suc, ◌+◌, ◌-◌, ◌*◌, ◌/◌, ◌%◌, ◌^◌, ◌<◌, ◌≤◌, ◌==◌, false, List, [], ◌∷◌, ◌++◌}
use Rattle.std.proofs.Common.{append_assoc, append-nil, length, replicate, add-one, inl, inr, arith}
use Rattle.std.specs.Prelude.{◌⊎◌, if◌then◌else◌}
use Rattle.std.proofs.lemmas.Grind.{common_steps}
use Rattle.std.proofs.lemmas.List.{length-append}
use Rattle.std.proofs.lemmas.Bool.{cases_lt}
use Rattle.std.proofs.Math.Nat.{div-eq_of_lt, pow-suc, pow-succ', div-div-eq-div-mul, pow-le-pow_right, mul-div_cancel, one-le-pow, mod-eq_of_lt, zero-div}
use Rattle.std.proofs.Math.Nat.{zero-mod, div-lt_iff_lt-mul, le-div_iff_mul-le}
use Rattle.circuit_run.specs.Digits.{digit, digits, trimmed}
use Rattle.piece_text.specs.DigitCounts.{IsDigitCount}

pub length-digits : (base count n : ℕ) → length (digits base count n) ≡ count
length-digits base zero n = refl
length-digits base (suc count) n = length-append (digits base count (n / base)) _ ∙ omega (arith, length-digits base count (n / base))

-- a number without its lowest digits, and without one more
fewer : (base n k : ℕ) → n / base ^ k / base ≡ n / base ^ (k + 1)
fewer base n k = div-div-eq-div-mul n (base ^ k) base ∙ ap (λ m. n / m) (sym (pow-suc base k)) ∙ ap (λ j. n / base ^ j) (sym (add-one k))

-- one digit more at the right
pub next_digit : (base done left n : ℕ) → digits base (done + 1) (n / base ^ left) ≡ digits base done (n / base ^ (left + 1))
    ++ digit (n / base ^ left % base) ∷ []
next_digit base done left n = ap (λ k. digits base k (n / base ^ left)) (add-one done)
    ∙ ap (λ m. digits base done m ++ digit (n / base ^ left % base) ∷ []) (fewer base n left)

pub base_pos : (base k : ℕ) → 2 ≤ base → 0 < base ^ k
base_pos base k h = one-le-pow k base (omega (arith, h))

-- a power of a base, less one factor
pub one_power_less : (base k : ℕ) → 2 ≤ base → base ^ (k + 1) / base ≡ base ^ k
one_power_less base k h = ap (λ m. m / base) (ap (λ j. base ^ j) (add-one k) ∙ pow-suc base k) ∙ mul-div_cancel (base ^ k) (omega (arith, h))

pub one_power_more : (base k : ℕ) → 1 ≤ k → base ^ (k - 1) * base ≡ base ^ k
one_power_more base zero h = absurd (omega (arith, h))
one_power_more base (suc k) h =
    let e : suc k - 1 ≡ k = omega arith in
    ap (λ j. base ^ j * base) e ∙ sym (pow-suc base k)

pub power_grows : (base j k : ℕ) → 2 ≤ base → j ≤ k → base ^ j ≤ base ^ k
power_grows base j k h le = pow-le-pow_right {n = base} (omega (arith, h)) {i = j} {j = k} le

-- ---- without leading zeros

-- zeros in front are taken off
zeros_off : (xs : List ℕ) (x : ℕ) (k : ℕ) → trimmed (replicate k 48 ++ x ∷ xs) ≡ trimmed (x ∷ xs)
zeros_off xs x zero = refl
zeros_off xs x (suc zero) = refl
zeros_off xs x (suc (suc k)) = zeros_off xs x (suc k)

digits_split : (base j k n : ℕ) → digits base (j + k) n ≡ digits base j (n / base ^ k) ++ digits base k n
digits_split base j zero n =
    let e : j + 0 ≡ j = omega arith in
    let f : n / base ^ 0 ≡ n = grind (arith, common_steps) in
    rw (e, f) (sym (append-nil (digits base j n)))
digits_split base j (suc k) n =
    let e : j + suc k ≡ suc (j + k) = omega arith in
    let d : List ℕ = digit (n % base) ∷ [] in
    let f : n / base / base ^ k ≡ n / base ^ suc k = div-div-eq-div-mul n base (base ^ k) ∙ ap (λ m. n / m) (sym (pow-succ' base k)) in
    ap (λ c. digits base c n) e ∙ ap (λ xs. xs ++ d) (digits_split base j k (n / base) ∙ ap (λ m. digits base j m ++ digits base k (n / base)) f)
    ∙ append_assoc (digits base j (n / base ^ suc k)) (digits base k (n / base)) d

one_zero_more : (j : ℕ) → ◌≡◌ {A = List ℕ} (replicate j 48 ++ 48 ∷ []) (48 ∷ replicate j 48)
one_zero_more zero = refl
one_zero_more (suc j) = ap (λ xs. 48 ∷ xs) (one_zero_more j)

abbrev zero_digit : ℕ
zero_digit = 48

digits_of_0 : (base j : ℕ) → digits base j 0 ≡ replicate j 48
digits_of_0 base zero = refl
digits_of_0 base (suc j) =
    ap (λ m. digits base j m ++ digit (0 % base) ∷ []) (zero-div base) ∙ ap (λ m. digits base j 0 ++ digit m ∷ []) (zero-mod base)
    ∙ ap (λ xs. xs ++ zero_digit ∷ []) (digits_of_0 base j) ∙ one_zero_more j

stays : (x : ℕ) (xs : List ℕ) → (x == 48) ≡ false → trimmed (x ∷ xs) ≡ x ∷ xs
stays x [] h = refl
stays x (y ∷ ys) h = ap (λ c. if c then trimmed (y ∷ ys) else x ∷ y ∷ ys) h

no_zero : (m : ℕ) → 1 ≤ m → (digit m == 48) ≡ false
no_zero m h = elim (cases_lt m 10) [
  | inl lt ↦ grind (arith, common_steps)
  | inr ge ↦ grind (arith, common_steps)
]

-- the first digit, and the others
first_digit : (base k n : ℕ) → n < base ^ suc k → 1 ≤ base → digits base (suc k) n ≡ digit (n / base ^ k) ∷ digits base k n
first_digit base k n lt some =
    let e : suc k ≡ 1 + k = omega arith in
    let f : n / base ^ k < base = (div-lt_iff_lt-mul (one-le-pow k base (omega (arith, some)))).1 (subst (λ m. n < m) (pow-succ' base k) lt) in
    ap (λ c. digits base c n) e ∙ digits_split base 1 k n ∙ ap (λ x. digit x ∷ digits base k n) (mod-eq_of_lt f)

full : (base k n : ℕ) → 1 ≤ base → n < base ^ suc k → (suc k ≡ 1) ⊎ (base ^ (suc k - 1) ≤ n) → (j : ℕ)
    → trimmed (replicate j 48 ++ digits base (suc k) n) ≡ digits base (suc k) n
full base k n some lt least j = elim least [
  | inl one ↦ subst (λ c. trimmed (replicate j 48 ++ digits base c n) ≡ digits base c n) (sym one) (zeros_off [] (digit (n % base)) j)
  | inr big ↦
      let e : suc k - 1 ≡ k = omega arith in
      let big' : base ^ k ≤ n = subst (λ c. base ^ c ≤ n) e big in
      let m : 1 ≤ n / base ^ k = (le-div_iff_mul-le (one-le-pow k base (omega (arith, some)))).1 (omega (arith, big')) in
      rw (first_digit base k n lt some) (zeros_off (digits base k n) (digit (n / base ^ k)) j
      ∙ stays (digit (n / base ^ k)) (digits base k n) (no_zero (n / base ^ k) m))
]

-- with its least number of digits a number is spelled without leading zeros
pub trimmed_is : (base most n count : ℕ) → 2 ≤ base → IsDigitCount base most n count → trimmed (digits base most n) ≡ digits base count n
trimmed_is base most n zero h c = absurd (omega (arith, c.some))
trimmed_is base most n (suc k) h c =
    let e : most ≡ (most - suc k) + suc k = omega (arith, c.few) in
    let z : n / base ^ suc k ≡ 0 = div-eq_of_lt c.hold in
    ap (λ m. trimmed (digits base m n)) e
    ∙ ap trimmed (digits_split base (most - suc k) (suc k) n ∙ ap (λ m. digits base (most - suc k) m ++ digits base (suc k) n) z
    ∙ ap (λ xs. xs ++ digits base (suc k) n) (digits_of_0 base (most - suc k)))
    ∙ full base k n (omega (arith, h)) c.hold c.least (most - suc k)

pub length_trimmed : (base most n count : ℕ) → 2 ≤ base → IsDigitCount base most n count → count ≡ length (trimmed (digits base most n))
length_trimmed base most n count h c = sym (ap length (trimmed_is base most n count h c) ∙ length-digits base count n)
