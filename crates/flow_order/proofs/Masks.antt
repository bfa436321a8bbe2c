-- Bits of masks, and bits that differ under a mask.
use Rattle.std.proofs.Common.{◌≡◌, ◌≢◌, ◌∙◌, sym, ap, refl, ℕ, zero, suc, ◌+◌, ◌-◌, ◌*◌, ◌/◌, ◌%◌, ◌^◌, ◌<◌, ◌≤◌, ◌==◌, ◌&&◌, ◌||◌, arith, inl, inr, Bool, true}
use Rattle.std.proofs.Common.{false, List, [], ◌∷◌, length, get_or, map, min, bit_and, bit_xor, IsTrue}
use Rattle.std.specs.Prelude.{nat_le, nat_lt, All}
use Rattle.std.specs.Int.{bit_at}
use Rattle.std.specs.List.{list_any}
use Rattle.std.proofs.lemmas.Bool.{cases_lt, cases_eq}
use Rattle.std.proofs.lemmas.Bool.Decides.{nat_tests}
use Rattle.std.proofs.lemmas.Nat.Bits.{bit_at-zero, bit_at-lt, bit_at_lowest, bit_at-suc, bit_at_mask_above, bit_at_mask_below, bit_at_mask_inside, bit_at_and}
use Rattle.std.proofs.lemmas.Nat.Bits.{bit_at_xor}
use Rattle.circuit_run.specs.States.{Bit}
use Rattle.flow_marks.specs.declared.span.Span.{Span}
use Rattle.flow_marks.specs.Slots.{is_in}
use Rattle.flow_spans.specs.Reads.{has_bit}
use Rattle.flow_order.specs.declared.mask.WordMask.{WordMask}
use Rattle.flow_order.specs.Masks.{mask_has, is_read, mask_of}

-- ---- the mask of a span

place_test : (low high i : ℕ) → (bit_at (2 ^ high - 2 ^ low) i == 1) ≡ (nat_le low i && nat_lt i high)
place_test low high i = elim (cases_lt i low) [
  | inl below ↦ let e : bit_at (2 ^ high - 2 ^ low) i ≡ 0 = bit_at_mask_below low high i below in grind (arith, nat_tests)
  | inr from ↦ elim (cases_lt i high) [
    | inl inside ↦ let e : bit_at (2 ^ high - 2 ^ low) i ≡ 1 = bit_at_mask_inside low high i from inside in grind (arith, nat_tests)
    | inr above ↦ let e : bit_at (2 ^ high - 2 ^ low) i ≡ 0 = bit_at_mask_above low high i above in grind (arith, nat_tests)
  ]
]

and_assoc : (a b c : Bool) → (a && (b && c)) ≡ (a && b && c)
and_assoc true b c = refl
and_assoc false b c = refl

pub one_span : (s : Span) (b : Bit) → mask_has (mask_of s) b ≡ is_in s b
one_span s b =
    ap (λ x. s.var == b.var && nat_le s.word b.word && nat_lt b.word s.word_end && x) (place_test s.place s.place_end b.place)
    ∙ and_assoc (s.var == b.var && nat_le s.word b.word && nat_lt b.word s.word_end) (nat_le s.place b.place) (nat_lt b.place s.place_end)

pub all_spans : (spans : List Span) (b : Bit) → is_read (map mask_of spans) b ≡ has_bit spans b
all_spans [] b = refl
all_spans (s ∷ spans) b = rw (one_span s b, all_spans spans b) refl

-- ---- bits that differ

some_within : (most n : ℕ) → n ≤ most → n ≢ 0 → (i : ℕ) × (bit_at n i ≡ 1)
some_within zero n le some = absurd (some (omega (arith, le)))
some_within (suc most) n le some = elim (cases_eq (n % 2) 1) [
  | inl odd ↦ (0, bit_at_lowest n ∙ odd)
  | inr even ↦ (
      let rest : (i : ℕ) × (bit_at (n / 2) i ≡ 1) = some_within most (n / 2) (omega (arith, le, even)) (λ none. some (omega (arith, none, even))) in
      (suc rest.0, bit_at-suc n rest.0 ∙ rest.1))
]

-- a number other than 0 has a one
pub some_bit : (n : ℕ) → n ≢ 0 → (i : ℕ) × (bit_at n i ≡ 1)
some_bit n some = some_within n n (omega arith) some

-- two words differ under a mask
pub record Differ (a b m : ℕ) : Type 0 where
  pub place : ℕ
  pub in_mask : bit_at m place ≡ 1
  pub differ : bit_at a place ≢ bit_at b place

at_place : (a b m i : ℕ) → bit_at (bit_and (bit_xor a b) m) i ≡ min ((bit_at a i + bit_at b i) % 2) (bit_at m i)
at_place a b m i = bit_at_and (bit_xor a b) m i ∙ ap (λ x. min x (bit_at m i)) (bit_at_xor a b i)

both_ones : (x y m : ℕ) → x < 2 → y < 2 → m < 2 → min ((x + y) % 2) m ≡ 1 → (m ≡ 1) × (x ≢ y)
both_ones x y m a b c e = (omega (arith, a, b, c, e), λ same. absurd (omega (arith, a, b, c, e, same)))

one_of_two : (x y m : ℕ) → x < 2 → y < 2 → m ≡ 1 → x ≢ y → min ((x + y) % 2) m ≡ 1
one_of_two x y m a b c d = omega (arith, a, b, c, d)

pub differ_from : (a b m : ℕ) → bit_and (bit_xor a b) m ≢ 0 → Differ a b m
differ_from a b m some =
    let one : (i : ℕ) × (bit_at (bit_and (bit_xor a b) m) i ≡ 1) = some_bit (bit_and (bit_xor a b) m) some in
    let two : (bit_at m one.0 ≡ 1) × (bit_at a one.0 ≢ bit_at b one.0) =
    both_ones (bit_at a one.0) (bit_at b one.0) (bit_at m one.0) (bit_at-lt a one.0) (bit_at-lt b one.0) (bit_at-lt m one.0) (sym (at_place a b m one.0)
    ∙ one.1) in
    record { place = one.0; in_mask = two.0; differ = two.1 }

pub differ_to : (a b m i : ℕ) → bit_and (bit_xor a b) m ≡ 0 → bit_at m i ≡ 1 → bit_at a i ≢ bit_at b i → ⊥
differ_to a b m i none on apart =
    let one : bit_at (bit_and (bit_xor a b) m) i ≡ 1 =
    at_place a b m i ∙ one_of_two (bit_at a i) (bit_at b i) (bit_at m i) (bit_at-lt a i) (bit_at-lt b i) on apart in
    let nil : bit_at (bit_and (bit_xor a b) m) i ≡ 0 = ap (λ n. bit_at n i) none ∙ bit_at-zero i in
    omega (arith, one, nil)

-- ---- bits of masks

pub record Has (m : WordMask) (b : Bit) : Type 0 where
  pub var : m.var ≡ b.var
  pub word : m.word ≤ b.word
  pub word_end : b.word < m.word_end
  pub place : bit_at m.mask b.place ≡ 1

pub mask_has_it : (m : WordMask) (b : Bit) → mask_has m b ≡ true → Has m b
mask_has_it m b h = record {
  var = grind (arith, nat_tests);
  word = grind (arith, nat_tests);
  word_end = grind (arith, nat_tests);
  place = grind (arith, nat_tests);
}

pub is_in_mask : (m : WordMask) (w i : ℕ) → m.word ≤ w → w < m.word_end → bit_at m.mask i ≡ 1 → mask_has m (record { var = m.var; word = w; place = i }) ≡ true
is_in_mask m w i a b c = grind (arith, nat_tests)

-- the mask that has a bit that is read
pub record ReadAt (reads : List WordMask) (b : Bit) : Type 0 where
  pub at : ℕ
  pub lt : at < length reads
  pub has : (d : WordMask) → mask_has (get_or reads at d) b ≡ true

read_either : (m : WordMask) (reads : List WordMask) (b : Bit) (x : Bool) → mask_has m b ≡ x → (x || is_read reads b) ≡ true
    → (is_read reads b ≡ true → ReadAt reads b) → ReadAt (m ∷ reads) b
read_either m reads b true e h more = record { at = 0; lt = omega arith; has = λ d. e }
read_either m reads b false e h more = let rest : ReadAt reads b = more h in record { at = suc rest.at; lt = omega (arith, rest.lt); has = rest.has }

pub read_at : (reads : List WordMask) (b : Bit) → is_read reads b ≡ true → ReadAt reads b
read_at [] b h = absurd (cc h)
read_at (m ∷ reads) b h = read_either m reads b (mask_has m b) refl h (read_at reads b)
