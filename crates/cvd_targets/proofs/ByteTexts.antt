-- The bytes of a text as words spell them.
use Rattle.std.proofs.Common.{◌≡◌, ℕ, suc, length, drop, ◌+◌, ◌*◌, ◌<◌, ◌≤◌, ◌/◌, ◌%◌, Bool, true, false, cond, List, [], ◌∷◌, ◌++◌, Some, None, refl, sym, ◌∙◌}
use Rattle.std.proofs.Common.{ap, arith}
use Rattle.std.specs.Prelude.{◌&&◌, ◌==◌, nat_lt, flat_map}
use Rattle.std.specs.List.{list_all}
use Rattle.std.specs.Str.{bytes_eq}
use Rattle.std.specs.Cmp.Lexicographic.{bytes_decides}
use Rattle.std.proofs.lemmas.Bool.{cases_Bool, true≢false}
use Rattle.std.proofs.lemmas.Bool.Decides.{nat_tests}
use mathlib.Core.Logic.{inl, inr}
use Rattle.circuit_run.specs.Digits.{digit}
use Rattle.cvd_text.specs.Pieces.{fits}
use Rattle.cvd_text.specs.Tokens.{byte_text}
use Rattle.cvd_laws.proofs.Marks.{apart_marks}
use Rattle.cvd_laws.proofs.Numerals.{head, tail}
use Rattle.cvd_laws.proofs.Pieces.{apart_digits}
use Rattle.cvd_cursor.specs.Numerals.{is_digit, worth}
use Rattle.cvd_cursor.specs.Reads.{marks}
use Rattle.cvd_cursor.proofs.Digits.{shown_digit, shown_worth, worth_small}
use Rattle.spelling_laws.specs.Spelled.{Apart}
use Rattle.cvd_targets.specs.ByteTexts.{IsFirst, Spells, digit_of}
use Rattle.cvd_targets.specs.PieceParts.{digits_tokens}

pub apart_bytes : Apart fits (marks digits_tokens)
apart_bytes bytes = apart_marks digits_tokens bytes (apart_digits bytes)

small_digit : (n : ℕ) → n < 16 → digit n < 256
small_digit n h = grind (arith, nat_tests)

test_lt : (n m : ℕ) → n < m → nat_lt n m ≡ true
test_lt n m h = grind (arith, nat_tests)

not_lt : (n m : ℕ) → nat_lt n m ≡ false → m ≤ n
not_lt n m h = grind (arith, nat_tests)

lt_of : (n m : ℕ) → nat_lt n m ≡ true → n < m
lt_of n m h = grind (arith, nat_tests)

-- ---- one byte

pub byte_is : (byte : ℕ) → byte < 256 → byte_text byte ≡ digit (byte / 16) ∷ digit (byte % 16) ∷ []
byte_is byte h = ap (λ b. cond b (digit (byte / 16) ∷ digit (byte % 16) ∷ []) (byte ∷ [])) (test_lt byte 256 h)

digit_some : (b v : ℕ) → Some v ≡ digit_of b → (is_digit 16 b ≡ true) × (v ≡ worth b)
digit_some b v e = by (is_digit 16 b) refl e
  where
    by : (t : Bool) → is_digit 16 b ≡ t → Some v ≡ cond t (Some (worth b)) None → (is_digit 16 b ≡ true) × (v ≡ worth b)
    by true p e = (p, cc)
    by false p e = absurd (cc)

digit_none : (b : ℕ) → None ≡ digit_of b → is_digit 16 b ≡ false
digit_none b e = by (is_digit 16 b) refl e
  where
    by : (t : Bool) → is_digit 16 b ≡ t → None ≡ cond t (Some (worth b)) None → is_digit 16 b ≡ false
    by true p e = absurd (cc)
    by false p e = p

-- two digits are those of a byte
pub made_byte : (high low first second : ℕ) → Some first ≡ digit_of high → Some second ≡ digit_of low → (16 * first + second < 256)
    × (byte_text (16 * first + second) ≡ high ∷ low ∷ [])
made_byte high low first second e f =
    let p = digit_some high first e in
    let q = digit_some low second f in
    let small = worth_small 16 high p.0 in
    let less = worth_small 16 low q.0 in
    let top : (16 * first + second) / 16 ≡ worth high = omega (arith, p.1, q.1) in
    let rest : (16 * first + second) % 16 ≡ worth low = omega (arith, p.1, q.1) in (
      omega (arith, p.1, q.1),
      byte_is (16 * first + second) (omega (arith, p.1, q.1))
          ∙ ap (λ n. digit n ∷ digit ((16 * first + second) % 16) ∷ []) top ∙ ap (λ n. digit (worth high) ∷ digit n ∷ []) rest
          ∙ ap (λ n. n ∷ digit (worth low) ∷ []) (shown_worth 16 high p.0) ∙ ap (λ n. high ∷ n ∷ []) (shown_worth 16 low q.0),
    )

no_digit : (b n : ℕ) → n < 16 → digit n ≡ b → is_digit 16 b ≡ false → ⊥
no_digit b n h e f = true≢false (sym (ap (is_digit 16) (sym e) ∙ shown_digit 16 n h (omega arith)) ∙ f)

-- no byte has another's digits
pub not_high : (high low : ℕ) → None ≡ digit_of high → (byte : ℕ) → byte < 256 → byte_text byte ≡ high ∷ low ∷ [] → ⊥
not_high high low e byte small is = no_digit high (byte / 16) (omega arith) (ap head (sym (byte_is byte small) ∙ is)) (digit_none high e)

pub not_low : (high low : ℕ) → None ≡ digit_of low → (byte : ℕ) → byte < 256 → byte_text byte ≡ high ∷ low ∷ [] → ⊥
not_low high low e byte small is = no_digit low (byte % 16) (omega arith) (ap head (ap tail (sym (byte_is byte small) ∙ is))) (digit_none low e)

-- ---- many

abbrev pub are_small : List ℕ → Bool
are_small bytes = list_all (λ b. nat_lt b 256) bytes

abbrev shown : Bool → ℕ → List ℕ
shown small byte = cond small (digit (byte / 16) ∷ digit (byte % 16) ∷ []) (byte ∷ [])

alone : (only : ℕ) → only < 256 → (bytes : List ℕ) → only ∷ [] ≡ flat_map byte_text bytes → ⊥
alone only small [] e = cc
alone only small (b ∷ bs) e = by (nat_lt b 256) refl e
  where
    by : (t : Bool) → nat_lt b 256 ≡ t → only ∷ [] ≡ shown t b ++ flat_map byte_text bs → ⊥
    by true p e = cc
    by false p e = let high = not_lt b 256 p in let same : only ≡ b = ap head e in absurd (omega arith)

pair : (high low : ℕ) (more : List ℕ) → high < 256 → ((byte : ℕ) → byte < 256 → byte_text byte ≡ high ∷ low ∷ [] → ⊥) → (bytes : List ℕ)
    → high ∷ low ∷ more ≡ flat_map byte_text bytes → ⊥
pair high low more small nothing [] e = cc
pair high low more small nothing (b ∷ bs) e = by (nat_lt b 256) refl e
  where
    by : (t : Bool) → nat_lt b 256 ≡ t → high ∷ low ∷ more ≡ shown t b ++ flat_map byte_text bs → ⊥
    by true p e =
        nothing b (lt_of b 256 p) (byte_is b (lt_of b 256 p) ∙ ap (λ n. n ∷ digit (b % 16) ∷ []) (sym (ap head e))
        ∙ ap (λ n. high ∷ n ∷ []) (sym (ap head (ap tail e))))
    by false p e = let far = not_lt b 256 p in let same : high ≡ b = ap head e in absurd (omega arith)

pub begins_none : (rest : List ℕ) → IsFirst rest None → (rest ≡ [] → ⊥) → (bytes : List ℕ) → rest ≡ flat_map byte_text bytes → ⊥
begins_none [] h some bytes e = some refl
begins_none (only ∷ []) h some bytes e = alone only h bytes e
begins_none (high ∷ low ∷ more) h some bytes e = pair high low more h.0 h.1 bytes e

-- bytes behind bytes
pub none_behind : (done rest : List ℕ) → are_small done ≡ true → ((bytes : List ℕ) → rest ≡ flat_map byte_text bytes → ⊥) → (bytes : List ℕ)
    → flat_map byte_text done ++ rest ≡ flat_map byte_text bytes → ⊥
none_behind [] rest h nothing bytes e = nothing bytes e
none_behind (d ∷ done) rest h nothing bytes e = by (nat_lt d 256) refl h bytes e (none_behind done rest)
  where
    by : (t : Bool) → nat_lt d 256 ≡ t → (t && are_small done) ≡ true → (bytes : List ℕ)
        → (shown t d ++ flat_map byte_text done) ++ rest ≡ flat_map byte_text bytes
        → (are_small done ≡ true → ((bytes : List ℕ) → rest ≡ flat_map byte_text bytes → ⊥) → (bytes : List ℕ)
        → flat_map byte_text done ++ rest ≡ flat_map byte_text bytes → ⊥) → ⊥
    by false p h bytes e later = absurd (true≢false (sym h))
    by true p h [] e later = cc
    by true p h (b ∷ bs) e later = inner (nat_lt b 256) refl e
      where
        inner : (u : Bool) → nat_lt b 256 ≡ u → digit (d / 16) ∷ digit (d % 16) ∷ (flat_map byte_text done ++ rest) ≡ shown u b ++ flat_map byte_text bs → ⊥
        inner true q e = later h nothing bs (ap tail (ap tail e))
        inner false q e =
            let low = lt_of d 256 p in
            let far = not_lt b 256 q in
            let small = small_digit (d / 16) (omega arith) in
            let same : digit (d / 16) ≡ b = ap head e in
            absurd (omega arith)

pub none_spelled : (text : List ℕ) → ((bytes : List ℕ) → text ≡ flat_map byte_text bytes → ⊥) → Spells text None
none_spelled text nothing bytes = elim (cases_Bool (bytes_eq text (flat_map byte_text bytes))) [
  | inl same ↦ absurd (nothing bytes ((bytes_decides text (flat_map byte_text bytes)).0 same))
  | inr other ↦ other
]

pub text_again : (text bytes : List ℕ) → text ≡ flat_map byte_text bytes → bytes_eq text (flat_map byte_text bytes) ≡ true
text_again text bytes e = (bytes_decides text (flat_map byte_text bytes)).1 e

-- ---- one byte more

pub small_more : (bytes : List ℕ) (b : ℕ) → are_small bytes ≡ true → b < 256 → are_small (bytes ++ b ∷ []) ≡ true
small_more [] b h small = ap (λ t. t && true) (test_lt b 256 small)
small_more (x ∷ xs) b h small = by (nat_lt x 256) h (λ k. small_more xs b k small)
  where
    by : (t : Bool) → (t && are_small xs) ≡ true → (are_small xs ≡ true → are_small (xs ++ b ∷ []) ≡ true)
        → (t && are_small (xs ++ b ∷ [])) ≡ true
    by true h more = more h
    by false h more = absurd (true≢false (sym h))

text_more : (bytes : List ℕ) (b : ℕ) (rest : List ℕ) → flat_map byte_text (bytes ++ b ∷ []) ++ rest ≡ flat_map byte_text bytes ++ (byte_text b ++ rest)
text_more [] b rest = by (byte_text b) rest
  where
    by : (xs ys : List ℕ) → (xs ++ []) ++ ys ≡ xs ++ ys
    by [] ys = refl
    by (x ∷ xs) ys = ap (λ l. x ∷ l) (by xs ys)
text_more (x ∷ xs) b rest = assoc (byte_text x) (flat_map byte_text (xs ++ b ∷ [])) rest ∙ ap (λ l. byte_text x ++ l) (text_more xs b rest)
    ∙ sym (assoc (byte_text x) (flat_map byte_text xs) (byte_text b ++ rest))
  where
    assoc : (xs ys zs : List ℕ) → (xs ++ ys) ++ zs ≡ xs ++ (ys ++ zs)
    assoc [] ys zs = refl
    assoc (x ∷ xs) ys zs = ap (λ l. x ∷ l) (assoc xs ys zs)

abbrev pub behind : List ℕ → List ℕ
behind [] = []
behind (x ∷ []) = []
behind (x ∷ y ∷ xs) = xs

-- the next byte goes behind those before
pub goes_on : (text bytes rest : List ℕ) (b : ℕ) → text ≡ flat_map byte_text bytes ++ rest → IsFirst rest (Some b) → (rest ≡ [] → ⊥)
    → (b < 256) × (text ≡ flat_map byte_text (bytes ++ b ∷ []) ++ behind rest)
goes_on text bytes [] b e h some = absurd (some refl)
goes_on text bytes (only ∷ []) b e h some = absurd h
goes_on text bytes (high ∷ low ∷ more) b e h some = (h.0, e ∙ ap (λ l. flat_map byte_text bytes ++ (l ++ more)) (sym h.1) ∙ sym (text_more bytes b more))

pub drop_two : (xs : List ℕ) → drop 2 xs ≡ behind xs
drop_two [] = refl
drop_two (x ∷ []) = refl
drop_two (x ∷ y ∷ xs) = refl

pub fewer : (xs : List ℕ) → (xs ≡ [] → ⊥) → length (drop 2 xs) < length xs
fewer [] some = absurd (some refl)
fewer (x ∷ []) some = omega arith
fewer (x ∷ y ∷ xs) some = omega arith

pub no_bytes : (xs : List ℕ) (empty : Bool) → empty ≡ (length xs == 0) → empty ≡ false → xs ≡ [] → ⊥
no_bytes [] empty e f is = true≢false (sym e ∙ f)
no_bytes (x ∷ xs) empty e f is = cc

pub all_bytes : (xs : List ℕ) (empty : Bool) → empty ≡ (length xs == 0) → empty ≡ true → xs ≡ []
all_bytes [] empty e f = refl
all_bytes (x ∷ xs) empty e f = absurd (true≢false (sym f ∙ e ∙ some (length xs)))
  where
    some : (n : ℕ) → (suc n == 0) ≡ false
    some n = grind (arith, nat_tests)
