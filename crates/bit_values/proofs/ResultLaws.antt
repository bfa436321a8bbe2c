-- The laws on results that are values of their width, on bitwise operators and on reductions.
use Rattle.std.proofs.Common.{◌≡◌, ℕ, zero, suc, ◌+◌, ◌-◌, ◌*◌, ◌/◌, ◌%◌, ◌^◌, ◌<◌, ◌≤◌, refl, sym, ◌∙◌, ap, arith, inl, inr, true, false, ◌==◌, count_ones}
use Rattle.std.proofs.Common.{Bool, if◌then◌else◌}
use Rattle.std.proofs.Math.Nat.{div-le_self, mod-le, mod-eq_of_lt, pow-suc}
use Rattle.std.proofs.lemmas.Nat.{pow_pos, mod_below, div_below, shr_le, or_lt, xor_lt, ones_cat, ones-le, shr_split, zero_from_ones, ones_le_self}
use Rattle.std.specs.Int.Bits.{and_lt}
use Rattle.std.proofs.lemmas.Nat.Bits.{bit_at_and, bit_at_or, bit_at_xor, bit_at_ones, bit_at-zero, same_from_bits_below}
use Rattle.std.proofs.lemmas.Bool.{cases_eq, cases_lt, eq-eqb, lt-ltb, ne_eqb}
use Rattle.std.specs.Int.{bit_at}
use Rattle.bit_values.specs.Values as value
use Rattle.bit_values.specs.Laws.{AddFits, SubFits, MulFits, NegFits, TruncateFits, UdivFits, UremFits, SdivFits, SremFits, AndFits, OrFits, XorFits, NotFits}
use Rattle.bit_values.specs.Laws.{ShlFits, ShrFits, SarFits, SelectFits, AndBits, OrBits, XorBits, RedAndBits, RedOrBits, RedXorBits, ones_below}
use Rattle.bit_values.proofs.SizeLaws.{modulo_fits}
use Rattle.bit_values.proofs.BitLemmas.{bit_at-mod}

below : (w n : ℕ) → n % 2 ^ w < 2 ^ w
below w n = mod_below n (2 ^ w) (pow_pos w)

pub add_fits : AddFits
add_fits w a b = below w (a + b)

pub sub_fits : SubFits
sub_fits w a b = modulo_fits w _

pub mul_fits : MulFits
mul_fits w a b = below w (a * b)

pub neg_fits : NegFits
neg_fits w a = modulo_fits w _

pub truncate_fits : TruncateFits
truncate_fits w n = below w n

-- 0 or a number below the power
either_fits : (w n : ℕ) (t : Bool) → n < 2 ^ w → (if t then 0 else n) < 2 ^ w
either_fits w n true f = pow_pos w
either_fits w n false f = f

pub udiv_fits : UdivFits
udiv_fits w a b f = either_fits w (a / b) (b == 0) (omega (arith, div-le_self a b))

pub urem_fits : UremFits
urem_fits w a b f = either_fits w (a % b) (b == 0) (omega (arith, mod-le a b))

pub sdiv_fits : SdivFits
sdiv_fits w a b = either_fits w _ (b == 0) (modulo_fits w _)

pub srem_fits : SremFits
srem_fits w a b = either_fits w _ (b == 0) (modulo_fits w _)

pub and_fits : AndFits
and_fits w a b f g = and_lt w a b f g

pub or_fits : OrFits
or_fits w a b f g = or_lt w a b f g

pub xor_fits : XorFits
xor_fits w a b f g = xor_lt w a b f g

pub not_fits : NotFits
not_fits w a = omega (arith, pow_pos w)

pub shl_fits : ShlFits
shl_fits w a by = below w (a * 2 ^ by)

pub shr_fits : ShrFits
shr_fits w a by f = omega (arith, shr_le a by)

pub sar_fits : SarFits
sar_fits w a by = modulo_fits w _

pub select_fits : SelectFits
select_fits w n low = below w (value.moved n low)

pub and_bits : AndBits
and_bits a b i = bit_at_and a b i

pub or_bits : OrBits
or_bits a b i = bit_at_or a b i

pub xor_bits : XorBits
xor_bits a b i = bit_at_xor a b i

-- ---- reductions

all_ones : (w n : ℕ) → n < 2 ^ w → ((i : ℕ) → i < w → bit_at n i ≡ 1) → n ≡ 2 ^ w - 1
all_ones w n f all = same_from_bits_below w n (2 ^ w - 1) f (omega (arith, pow_pos w)) (λ i h. all i h ∙ sym (bit_at_ones w i h))

is_flagged : (n m : ℕ) → value.flag (n == m) ≡ 1 → n ≡ m
is_flagged n m e = elim (cases_eq n m) [ inl same ↦ same | inr other ↦ absurd (omega (arith, sym (ap value.flag (ne_eqb n m other)) ∙ e)) ]

flagged : (n : ℕ) → value.flag (n == n) ≡ 1
flagged n = ap value.flag (eq-eqb n n refl)

pub red_and_bits : RedAndBits
red_and_bits w n f = (
  λ e i h. ap (λ m. bit_at m i) (is_flagged n (2 ^ w - 1) e)
      ∙ bit_at_ones w i h,
  λ all. ap (λ m. value.flag (m == 2 ^ w - 1)) (all_ones w n f all) ∙ flagged (2 ^ w - 1),
)

no_ones : (w n : ℕ) → n < 2 ^ w → ((i : ℕ) → i < w → bit_at n i ≡ 0) → n ≡ 0
no_ones w n f all = same_from_bits_below w n 0 f (pow_pos w) (λ i h. all i h ∙ sym (bit_at-zero i))

none_flagged : (n : ℕ) → value.red_or n ≡ 0 → n ≡ 0
none_flagged n e = elim (cases_lt 0 n) [ inl some ↦ absurd (omega (arith, sym (ap value.flag (lt-ltb 0 n some)) ∙ e)) | inr none ↦ omega arith ]

pub red_or_bits : RedOrBits
red_or_bits w n f = (λ e i h. ap (λ m. bit_at m i) (none_flagged n e) ∙ bit_at-zero i, λ all. ap value.red_or (no_ones w n f all))

ones_none : count_ones 0 ≡ 0
ones_none = omega (arith, ones-le 0 0 (omega arith))

ones_of_bit : (b : ℕ) → b < 2 → count_ones b ≡ b
ones_of_bit b h = elim (cases_lt 0 (count_ones b)) [
  | inl some ↦ omega (arith, ones_le_self b)
  | inr none ↦ (let no : count_ones b ≡ 0 = omega arith in let zero_is : b ≡ 0 = zero_from_ones b no in omega arith)
]

-- the bits below w are those of the number modulo 2 ^ w
ones_same : (w v n : ℕ) → v ≤ w → ones_below (n % 2 ^ w) v ≡ ones_below n v
ones_same w zero n h = refl
ones_same w (suc v) n h =
    let low = ones_same w v n (omega arith) in
    let bit = bit_at-mod n w v h in
    omega arith

-- the ones of a number of w bits are counted bit by bit
ones_counted : (w n : ℕ) → n < 2 ^ w → count_ones n ≡ ones_below n w
ones_counted zero n f = let none : n ≡ 0 = omega arith in ap count_ones none ∙ ones_none
ones_counted (suc w) n f =
    let top : n / 2 ^ w < 2 = div_below n (2 ^ w) 2 (pow_pos w) (omega (arith, pow-suc 2 w)) in
    let bit : bit_at n w ≡ n / 2 ^ w = mod-eq_of_lt top in
    ap count_ones (sym (shr_split n w))
    ∙ ones_cat w (n / 2 ^ w) (n % 2 ^ w) (below w n)
    ∙ omega (arith, ones_of_bit (n / 2 ^ w) top, ones_counted w (n % 2 ^ w) (below w n), ones_same w w n (omega arith), bit)

pub red_xor_bits : RedXorBits
red_xor_bits w n f = ap (λ k. k % 2) (ones_counted w n f)
