-- No displayed piece's spelling is the front of another's.
use Rattle.std.specs.Prelude.{◌≡◌, ℕ, ◌<◌, ◌≤◌, ◌/◌, ◌%◌, nat_lt, Bool, true, false, List, [], ◌∷◌, ◌++◌, codes, refl, find, flat_map, if◌then◌else◌}
use Rattle.std.proofs.Common.{sym, ap, ◌∙◌, arith}
use Rattle.std.proofs.lemmas.Bool.Decides.{nat_tests}
use Rattle.std.specs.Str.{bytes_eq}
use Rattle.std.specs.Option.{option_map_or}
use Rattle.circuit_run.specs.Digits.{digit}
use Rattle.design_tree.specs.declared.step.Piece.{Piece}
use Rattle.design_tree.specs.declared.step.Piece.TheVariants as piece
use Rattle.design_tree.specs.declared.typed.Typed.{Typed}
use Rattle.cvd_text.specs.Tokens.{Token, word, digits, byte_text}
use Rattle.cvd_text.specs.Expressions.{tokens_of}
use Rattle.cvd_text.specs.Targets.{piece_tokens}
use Rattle.spelling_laws.specs.Spelled.{ApartAt}
use Rattle.spelling_laws.proofs.Then as after
use Rattle.spelling_laws.proofs.One as single
use Rattle.cvd_laws.specs.Expressions.{is_token}
use Rattle.cvd_laws.proofs.Numerals.{head, tail, same_digit}
use Rattle.cvd_laws.proofs.Typeds.{then_apart, same_text, sSign, apart_sign, apart_typed}

-- ---- the bytes of a text

small_digit : (n : ℕ) → n < 16 → digit n < 256
small_digit n h = grind (arith, nat_tests)

below : (n : ℕ) → nat_lt n 256 ≡ true → n < 256
below n h = grind (arith, nat_tests)

above : (n : ℕ) → nat_lt n 256 ≡ false → 256 ≤ n
above n h = grind (arith, nat_tests)

abbrev shown : Bool → ℕ → List ℕ
shown small byte = if small then digit (byte / 16) ∷ digit (byte % 16) ∷ [] else byte ∷ []

pub same_bytes : (xs ys : List ℕ) → flat_map byte_text xs ≡ flat_map byte_text ys → xs ≡ ys
same_bytes [] [] e = refl
same_bytes [] (y ∷ ys) e = absurd (by (nat_lt y 256) e)
  where
    by : (b : Bool) → [] ≡ shown b y ++ flat_map byte_text ys → ⊥
    by true e = cc
    by false e = cc
same_bytes (x ∷ xs) [] e = absurd (by (nat_lt x 256) e)
  where
    by : (b : Bool) → shown b x ++ flat_map byte_text xs ≡ [] → ⊥
    by true e = cc
    by false e = cc
same_bytes (x ∷ xs) (y ∷ ys) e = by (nat_lt x 256) (nat_lt y 256) refl refl e (same_bytes xs ys)
  where
    by : (b c : Bool) → nat_lt x 256 ≡ b → nat_lt y 256 ≡ c → shown b x ++ flat_map byte_text xs ≡ shown c y ++ flat_map byte_text ys
        → (flat_map byte_text xs ≡ flat_map byte_text ys → xs ≡ ys) → x ∷ xs ≡ y ∷ ys
    by true true p q e later =
        let low = below x p in
        let other = below y q in
        let high_digit = same_digit (x / 16) (y / 16) (ap head e) (omega arith) (omega arith) in
        let low_digit = same_digit (x % 16) (y % 16) (ap head (ap tail e)) (omega arith) (omega arith) in
        let same : x ≡ y = omega arith in
        ap (λ z. z ∷ xs) same ∙ ap (λ l. y ∷ l) (later (ap tail (ap tail e)))
    by true false p q e later =
        let low = below x p in
        let other = above y q in
        let small = small_digit (x / 16) (omega arith) in
        let same : digit (x / 16) ≡ y = ap head e in
        absurd (omega arith)
    by false true p q e later =
        let other = above x p in
        let low = below y q in
        let small = small_digit (y / 16) (omega arith) in
        let same : x ≡ digit (y / 16) = ap head e in
        absurd (omega arith)
    by false false p q e later = ap (λ z. z ∷ xs) (ap head e) ∙ ap (λ l. y ∷ l) (later (ap tail e))

abbrev pub sDigits : List ℕ → List Token
sDigits bytes = digits bytes ∷ []

same_shown : (p xs ys : List ℕ) → is_token p (digits xs) ≡ true → is_token p (digits ys) ≡ true → xs ≡ ys
same_shown p xs ys e f = same_bytes xs ys (sym (same_text p _ e) ∙ same_text p _ f)

pub apart_digits : (bytes : List ℕ) → ApartAt is_token sDigits bytes
apart_digits = single.apart_one is_token (List ℕ) digits same_shown

-- ---- heads and parts

pub data Head : Type 0 where
  text : Head
  dec : Bool → Head
  hexadecimal : Bool → Head
  bin : Bool → Head

abbrev pub head_text : Head → List ℕ
head_text text = codes "t"
head_text (dec short) = if short then codes "D" else codes "d"
head_text (hexadecimal short) = if short then codes "H" else codes "h"
head_text (bin short) = if short then codes "B" else codes "b"

abbrev all_heads : List Head
all_heads = text ∷ dec true ∷ dec false ∷ hexadecimal true ∷ hexadecimal false ∷ bin true ∷ bin false ∷ []

abbrev head_of : List ℕ → Head
head_of t = option_map_or (λ h. h) (find (λ h. bytes_eq t (head_text h)) all_heads) text

head_back : (h : Head) → head_of (head_text h) ≡ h
head_back text = refl
head_back (dec true) = refl
head_back (dec false) = refl
head_back (hexadecimal true) = refl
head_back (hexadecimal false) = refl
head_back (bin true) = refl
head_back (bin false) = refl

abbrev pub head_token : Head → Token
head_token h = word (head_text h)

pub same_heads : (p : List ℕ) (v w : Head) → is_token p (head_token v) ≡ true → is_token p (head_token w) ≡ true → v ≡ w
same_heads p v w e f = sym (head_back v) ∙ ap head_of (sym (same_text p (head_text v) e) ∙ same_text p (head_text w) f) ∙ head_back w

abbrev pub Parts : Head → Type 0
Parts text = List ℕ
Parts (dec short) = (s : Bool) × Typed
Parts (hexadecimal short) = Typed
Parts (bin short) = Typed

abbrev pub parts_spelled : (h : Head) → Parts h → List Token
parts_spelled text bytes = sDigits bytes
parts_spelled (dec short) p = sSign p.0 ++ tokens_of p.1
parts_spelled (hexadecimal short) e = tokens_of e
parts_spelled (bin short) e = tokens_of e

abbrev pub Whole : Type 0
Whole = (h : Head) × Parts h

abbrev pub whole_spelled : Whole → List Token
whole_spelled p = (head_token p.0 ∷ []) ++ parts_spelled p.0 p.1

abbrev pub made : (h : Head) → Parts h → Piece
made text bytes = piece.Text bytes
made (dec short) p = piece.Dec p.0 short p.1
made (hexadecimal short) e = piece.Hex short e
made (bin short) e = piece.Bin short e

abbrev pub to : Whole → Piece
to p = made p.0 p.1

abbrev pub from : Piece → Whole
from (piece.Text bytes) = (text, bytes)
from (piece.Dec is_signed short e) = (dec short, (is_signed, e))
from (piece.Hex short e) = (hexadecimal short, e)
from (piece.Bin short e) = (bin short, e)

pub there : (p : Piece) → to (from p) ≡ p
there (piece.Text bytes) = refl
there (piece.Dec is_signed short e) = refl
there (piece.Hex short e) = refl
there (piece.Bin short e) = refl

pub alike : (p : Piece) → piece_tokens p ≡ whole_spelled (from p)
alike (piece.Text bytes) = refl
alike (piece.Dec is_signed short e) = refl
alike (piece.Hex short e) = refl
alike (piece.Bin short e) = refl

apart_parts : (h : Head) (x : Parts h) → ApartAt is_token (parts_spelled h) x
apart_parts text bytes = apart_digits bytes
apart_parts (dec short) p = then_apart Bool Typed sSign tokens_of p.0 p.1 (apart_sign p.0) (apart_typed p.1)
apart_parts (hexadecimal short) e = apart_typed e
apart_parts (bin short) e = apart_typed e

apart_whole : (p : Whole) → ApartAt is_token whole_spelled p
apart_whole p =
    after.apart_pair is_token Head Parts (λ k. head_token k ∷ []) parts_spelled p.0 p.1
    (single.apart_one is_token Head head_token same_heads p.0) (apart_parts p.0 p.1)

-- no piece's spelling is the front of another's
pub apart_piece : (p : Piece) → ApartAt is_token piece_tokens p
apart_piece p = single.apart_via is_token Whole Piece to from there whole_spelled piece_tokens alike p (apart_whole (from p))
