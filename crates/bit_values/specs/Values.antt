-- What each call computes, in the words of IEEE 1364-2005 with two states. A value of w bits is a number below 2 ^ w.
use Rattle.std.specs.Prelude.{ℕ, zero, suc, ◌+◌, ◌-◌, ◌*◌, ◌/◌, ◌%◌, ◌^◌, Bool, true, false, if◌then◌else◌, nat_lt, nat_le, ◌==◌, ◌&&◌, ℤ, pos, negsuc, ◌+ℤ◌}
use Rattle.std.specs.Prelude.{◌-ℤ◌, neg_ℤ, int_lt, int_le, int_div, int_rem, unsigned_abs, count_ones}
use Rattle.std.specs.Int.{bit_at, int_div_euclid, int_rem_euclid}

-- ---- readings of a number

-- one bit: 1 where the test holds, else 0
abbrev pub flag : Bool → ℕ
flag true = 1
flag false = 0

-- the signed reading, in two's complement: the number, less 2 ^ w where its top bit is set (5.1.6)
abbrev pub signed : ℕ → ℕ → ℤ
signed w n = if nat_lt n (2 ^ (w - 1)) then pos n else pos n -ℤ pos (2 ^ w)

-- an integer modulo 2 ^ w: the number below 2 ^ w that differs from it by a multiple of 2 ^ w
abbrev pub modulo : ℕ → ℤ → ℕ
modulo w z = unsigned_abs (int_rem_euclid z (pos (2 ^ w)))

-- the bit at a position that may lie below the lowest, where it is 0
abbrev pub bit_in : ℕ → ℤ → ℕ
bit_in n (pos i) = bit_at n i
bit_in n (negsuc i) = 0

-- the number below 2 ^ w with these bits, the bit at 0 the lowest
unfoldable pub number_of : (ℕ → ℕ) → ℕ → ℕ
number_of bit zero = 0
number_of bit (suc w) = number_of bit w + bit w * 2 ^ w

-- ---- arithmetic operators (5.1.5)

-- the sum, without its carry
abbrev pub add : ℕ → ℕ → ℕ → ℕ
add w a b = (a + b) % 2 ^ w

-- the difference, without its borrow
abbrev pub sub : ℕ → ℕ → ℕ → ℕ
sub w a b = modulo w (pos a -ℤ pos b)

-- the product, without what exceeds the width
abbrev pub mul : ℕ → ℕ → ℕ → ℕ
mul w a b = (a * b) % 2 ^ w

-- the negative
abbrev pub neg : ℕ → ℕ → ℕ
neg w a = modulo w (neg_ℤ (pos a))

-- the unsigned quotient, 0 for a divisor 0
abbrev pub udiv : ℕ → ℕ → ℕ
udiv a b = if b == 0 then 0 else a / b

-- the unsigned remainder, 0 for a divisor 0
abbrev pub urem : ℕ → ℕ → ℕ
urem a b = if b == 0 then 0 else a % b

-- the signed quotient, truncated toward zero, 0 for a divisor 0
abbrev pub sdiv : ℕ → ℕ → ℕ → ℕ
sdiv w a b = if b == 0 then 0 else modulo w (int_div (signed w a) (signed w b))

-- the signed remainder, with the sign of the first operand, 0 for a divisor 0
abbrev pub srem : ℕ → ℕ → ℕ → ℕ
srem w a b = if b == 0 then 0 else modulo w (int_rem (signed w a) (signed w b))

-- ---- relational and equality operators (5.1.7, 5.1.8)

-- below, both unsigned
abbrev pub ult : ℕ → ℕ → ℕ
ult a b = flag (nat_lt a b)

-- below or equal, both unsigned
abbrev pub ule : ℕ → ℕ → ℕ
ule a b = flag (nat_le a b)

-- below, both signed
abbrev pub slt : ℕ → ℕ → ℕ → ℕ
slt w a b = flag (int_lt (signed w a) (signed w b))

-- below or equal, both signed
abbrev pub sle : ℕ → ℕ → ℕ → ℕ
sle w a b = flag (int_le (signed w a) (signed w b))

-- equal
abbrev pub equal : ℕ → ℕ → ℕ
equal a b = flag (a == b)

-- ---- bitwise negation (5.1.10) and reductions (5.1.11)

-- each bit turned: what is left of w ones
abbrev pub not : ℕ → ℕ → ℕ
not w a = 2 ^ w - 1 - a

-- whether all w bits are ones
abbrev pub red_and : ℕ → ℕ → ℕ
red_and w a = flag (a == 2 ^ w - 1)

-- whether some bit is a one
abbrev pub red_or : ℕ → ℕ
red_or a = flag (nat_lt 0 a)

-- the parity of the number of ones
abbrev pub red_xor : ℕ → ℕ
red_xor a = count_ones a % 2

-- ---- shift operators (5.1.12): the second operand is unsigned

-- to the left, zeros moved in
abbrev pub shl : ℕ → ℕ → ℕ → ℕ
shl w a by = (a * 2 ^ by) % 2 ^ w

-- to the right, zeros moved in
abbrev pub shr : ℕ → ℕ → ℕ
shr a by = a / 2 ^ by

-- to the right, the sign bit moved in: the signed reading divided by 2 ^ by, rounded down
abbrev pub sar : ℕ → ℕ → ℕ → ℕ
sar w a by = modulo w (int_div_euclid (signed w a) (pos (2 ^ by)))

-- ---- other sizes (5.5.2, 5.6) and concatenation (5.1.14)

-- a value of v bits in w bits, w no less than v: by its sign bit, which keeps the signed reading, or by zeros
abbrev pub extend : ℕ → ℕ → Bool → ℕ → ℕ
extend v w true n = modulo w (signed v n)
extend v w false n = n

-- the low w bits
abbrev pub truncate : ℕ → ℕ → ℕ
truncate w n = n % 2 ^ w

-- the bits of the first above the w bits of the second
abbrev pub concat : ℕ → ℕ → ℕ → ℕ
concat w high low = high * 2 ^ w + low

-- ---- bit-selects and part-selects (5.2.1): a position may lie outside

-- the number moved so that its bit at the position comes to be the lowest
abbrev pub moved : ℕ → ℤ → ℕ
moved n (pos k) = n / 2 ^ k
moved n (negsuc k) = n * 2 ^ suc k

-- the w bits from the position on: what lies outside the number reads 0
abbrev pub select : ℕ → ℕ → ℤ → ℕ
select w n low = moved n low % 2 ^ w

-- the bit at i, once a part of k bits stands at the position: the part's own where it lies, else the old one
abbrev pub replaced_bit : ℕ → ℤ → ℕ → ℕ → ℕ → ℕ
replaced_bit n low k part i =
    if int_le low (pos i) && int_lt (pos i) (low +ℤ pos k) then bit_in part (pos i -ℤ low) else bit_at n i

-- the w bits of n with a part of k bits at the position: what of the part lies outside is left out
abbrev pub replace : ℕ → ℕ → ℤ → ℕ → ℕ → ℕ
replace w n low k part = number_of (replaced_bit n low k part) w
