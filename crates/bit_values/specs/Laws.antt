-- Laws of the calls' values, over every width. A value of w bits is a number below 2 ^ w.
use Rattle.std.specs.Prelude.{◌≡◌, ℕ, zero, suc, ◌+◌, ◌-◌, ◌%◌, ◌^◌, ◌<◌, ◌≤◌, ◌↔◌, min, max, bit_and, bit_or, bit_xor, Bool, true, false, ℤ, pos, ◌+ℤ◌, ◌-ℤ◌}
use Rattle.std.specs.Prelude.{◌<ℤ◌, ◌≤ℤ◌}
use Rattle.std.specs.Int.{bit_at}
use Rattle.bit_values.specs.Values.{modulo, signed, bit_in, add, sub, mul, neg, udiv, urem, sdiv, srem, not, red_and, red_or, red_xor, shl, shr, sar, extend}
use Rattle.bit_values.specs.Values.{truncate, concat, select, replace}

-- ---- results are values of their width

-- an integer modulo 2 ^ w has w bits
abbrev pub ModuloFits : Type 0
ModuloFits = (w : ℕ) (z : ℤ) → modulo w z < 2 ^ w

-- sums, products and truncations have w bits
abbrev pub AddFits : Type 0
AddFits = (w a b : ℕ) → add w a b < 2 ^ w

abbrev pub SubFits : Type 0
SubFits = (w a b : ℕ) → sub w a b < 2 ^ w

abbrev pub MulFits : Type 0
MulFits = (w a b : ℕ) → mul w a b < 2 ^ w

abbrev pub NegFits : Type 0
NegFits = (w a : ℕ) → neg w a < 2 ^ w

abbrev pub TruncateFits : Type 0
TruncateFits = (w n : ℕ) → truncate w n < 2 ^ w

-- an unsigned quotient or remainder has the bits of the first operand
abbrev pub UdivFits : Type 0
UdivFits = (w a b : ℕ) → a < 2 ^ w → udiv a b < 2 ^ w

abbrev pub UremFits : Type 0
UremFits = (w a b : ℕ) → a < 2 ^ w → urem a b < 2 ^ w

-- a signed one has w bits
abbrev pub SdivFits : Type 0
SdivFits = (w a b : ℕ) → sdiv w a b < 2 ^ w

abbrev pub SremFits : Type 0
SremFits = (w a b : ℕ) → srem w a b < 2 ^ w

-- what is made bit by bit of values of w bits has w bits
abbrev pub AndFits : Type 0
AndFits = (w a b : ℕ) → a < 2 ^ w → b < 2 ^ w → bit_and a b < 2 ^ w

abbrev pub OrFits : Type 0
OrFits = (w a b : ℕ) → a < 2 ^ w → b < 2 ^ w → bit_or a b < 2 ^ w

abbrev pub XorFits : Type 0
XorFits = (w a b : ℕ) → a < 2 ^ w → b < 2 ^ w → bit_xor a b < 2 ^ w

abbrev pub NotFits : Type 0
NotFits = (w a : ℕ) → not w a < 2 ^ w

-- a shifted value has the bits it had
abbrev pub ShlFits : Type 0
ShlFits = (w a by : ℕ) → shl w a by < 2 ^ w

abbrev pub ShrFits : Type 0
ShrFits = (w a by : ℕ) → a < 2 ^ w → shr a by < 2 ^ w

abbrev pub SarFits : Type 0
SarFits = (w a by : ℕ) → sar w a by < 2 ^ w

-- a selection of w bits has w bits
abbrev pub SelectFits : Type 0
SelectFits = (w n : ℕ) (low : ℤ) → select w n low < 2 ^ w

-- an extension to w bits has w bits
abbrev pub ExtendFits : Type 0
ExtendFits = (v w n : ℕ) (by_sign : Bool) → v ≤ w → n < 2 ^ v → extend v w by_sign n < 2 ^ w

-- a concatenation has as many bits as its parts together
abbrev pub ConcatFits : Type 0
ConcatFits = (v w high low : ℕ) → high < 2 ^ v → low < 2 ^ w → concat w high low < 2 ^ (v + w)

-- a number with a part replaced has the bits it had
abbrev pub ReplaceFits : Type 0
ReplaceFits = (w n : ℕ) (low : ℤ) (k part : ℕ) → replace w n low k part < 2 ^ w

-- ---- other sizes

-- extension by the sign bit keeps the signed reading
abbrev pub ExtendKeepsSigned : Type 0
ExtendKeepsSigned = (v w n : ℕ) → 1 ≤ v → v ≤ w → n < 2 ^ v → signed w (extend v w true n) ≡ signed v n

-- an extension, truncated to the old size, is the value
abbrev pub TruncateUndoesExtend : Type 0
TruncateUndoesExtend = (v w n : ℕ) (by_sign : Bool) → v ≤ w → n < 2 ^ v → truncate v (extend v w by_sign n) ≡ n

-- an extension has the value's bits
abbrev pub ExtendBits : Type 0
ExtendBits = (v w n i : ℕ) (by_sign : Bool) → v ≤ w → n < 2 ^ v → i < v → bit_at (extend v w by_sign n) i ≡ bit_at n i

-- and above them zeros, where it is extended by zeros
abbrev pub ExtendZeros : Type 0
ExtendZeros = (v w n i : ℕ) → n < 2 ^ v → v ≤ i → bit_at (extend v w false n) i ≡ 0

-- or copies of the sign bit, where it is extended by the sign bit
abbrev pub ExtendSigns : Type 0
ExtendSigns = (v w n i : ℕ) → 1 ≤ v → v ≤ w → n < 2 ^ v → v ≤ i → i < w → bit_at (extend v w true n) i ≡ bit_at n (v - 1)

-- a truncation has the value's low bits
abbrev pub TruncateBits : Type 0
TruncateBits = (w n i : ℕ) → i < w → bit_at (truncate w n) i ≡ bit_at n i

-- and no others
abbrev pub TruncateZeros : Type 0
TruncateZeros = (w n i : ℕ) → w ≤ i → bit_at (truncate w n) i ≡ 0

-- a concatenation has the low part's bits
abbrev pub ConcatLowBits : Type 0
ConcatLowBits = (w high low i : ℕ) → i < w → bit_at (concat w high low) i ≡ bit_at low i

-- and above them the high part's
abbrev pub ConcatHighBits : Type 0
ConcatHighBits = (w high low i : ℕ) → low < 2 ^ w → w ≤ i → bit_at (concat w high low) i ≡ bit_at high (i - w)

-- ---- bitwise operators and reductions

-- each bit the lesser, the greater, or the sum without carry of the operands' bits
abbrev pub AndBits : Type 0
AndBits = (a b i : ℕ) → bit_at (bit_and a b) i ≡ min (bit_at a i) (bit_at b i)

abbrev pub OrBits : Type 0
OrBits = (a b i : ℕ) → bit_at (bit_or a b) i ≡ max (bit_at a i) (bit_at b i)

abbrev pub XorBits : Type 0
XorBits = (a b i : ℕ) → bit_at (bit_xor a b) i ≡ (bit_at a i + bit_at b i) % 2

-- how many of the lowest w bits are ones
abbrev pub ones_below : ℕ → ℕ → ℕ
ones_below n zero = 0
ones_below n (suc w) = ones_below n w + bit_at n w

-- the reduction by `and` is 1 exactly where each bit is 1
abbrev pub RedAndBits : Type 0
RedAndBits = (w n : ℕ) → n < 2 ^ w → (red_and w n ≡ 1) ↔ ((i : ℕ) → i < w → bit_at n i ≡ 1)

-- that by `or` is 0 exactly where each bit is 0
abbrev pub RedOrBits : Type 0
RedOrBits = (w n : ℕ) → n < 2 ^ w → (red_or n ≡ 0) ↔ ((i : ℕ) → i < w → bit_at n i ≡ 0)

-- that by exclusive `or` is the sum of the bits without carry
abbrev pub RedXorBits : Type 0
RedXorBits = (w n : ℕ) → n < 2 ^ w → red_xor n ≡ ones_below n w % 2

-- ---- shifts and negation

-- a negation has each bit turned
abbrev pub NotBits : Type 0
NotBits = (w n i : ℕ) → n < 2 ^ w → i < w → bit_at (not w n) i ≡ 1 - bit_at n i

-- a shift to the left has zeros below
abbrev pub ShlZeros : Type 0
ShlZeros = (w n by i : ℕ) → i < by → bit_at (shl w n by) i ≡ 0

-- and above them the value's bits
abbrev pub ShlBits : Type 0
ShlBits = (w n by i : ℕ) → i < w → by ≤ i → bit_at (shl w n by) i ≡ bit_at n (i - by)

-- a shift to the right has the value's high bits, and zeros above, as the value has
abbrev pub ShrBits : Type 0
ShrBits = (n by i : ℕ) → bit_at (shr n by) i ≡ bit_at n (i + by)

-- so has an arithmetic one
abbrev pub SarBits : Type 0
SarBits = (w n by i : ℕ) → n < 2 ^ w → i + by < w → bit_at (sar w n by) i ≡ bit_at n (i + by)

-- with copies of the sign bit above
abbrev pub SarSigns : Type 0
SarSigns = (w n by i : ℕ) → n < 2 ^ w → i < w → w ≤ i + by → bit_at (sar w n by) i ≡ bit_at n (w - 1)

-- ---- select

-- a selection has the bits from its position on, and 0 for each that lies outside
abbrev pub SelectBits : Type 0
SelectBits = (w n : ℕ) (low : ℤ) (i : ℕ) → i < w → bit_at (select w n low) i ≡ bit_in n (low +ℤ pos i)

-- and no others
abbrev pub SelectZeros : Type 0
SelectZeros = (w n : ℕ) (low : ℤ) (i : ℕ) → w ≤ i → bit_at (select w n low) i ≡ 0

-- at or past the top it reads 0
abbrev pub SelectPastTop : Type 0
SelectPastTop = (v w n : ℕ) (low : ℤ) → n < 2 ^ v → pos v ≤ℤ low → select w n low ≡ 0

-- wholly below the lowest bit it reads 0
abbrev pub SelectBelow : Type 0
SelectBelow = (w n : ℕ) (low : ℤ) → (low +ℤ pos w) ≤ℤ pos 0 → select w n low ≡ 0

-- the high part of a concatenation
abbrev pub SelectConcatHigh : Type 0
SelectConcatHigh = (v w high low : ℕ) → high < 2 ^ v → low < 2 ^ w → select v (concat w high low) (pos w) ≡ high

-- the low part of a concatenation
abbrev pub SelectConcatLow : Type 0
SelectConcatLow = (w high low : ℕ) → low < 2 ^ w → select w (concat w high low) (pos 0) ≡ low

-- ---- replace

-- a replacement has the part's bits where the part lies
abbrev pub ReplacePartBits : Type 0
ReplacePartBits =
    (w n : ℕ) (low : ℤ) (k part i : ℕ) →
    i < w → low ≤ℤ pos i → pos i <ℤ (low +ℤ pos k) → bit_at (replace w n low k part) i ≡ bit_in part (pos i -ℤ low)

-- the old bits below the part
abbrev pub ReplaceLowBits : Type 0
ReplaceLowBits = (w n : ℕ) (low : ℤ) (k part i : ℕ) → i < w → pos i <ℤ low → bit_at (replace w n low k part) i ≡ bit_at n i

-- the old bits above the part
abbrev pub ReplaceHighBits : Type 0
ReplaceHighBits =
    (w n : ℕ) (low : ℤ) (k part i : ℕ) → i < w → (low +ℤ pos k) ≤ℤ pos i → bit_at (replace w n low k part) i ≡ bit_at n i

-- and no others
abbrev pub ReplaceZeros : Type 0
ReplaceZeros = (w n : ℕ) (low : ℤ) (k part i : ℕ) → w ≤ i → bit_at (replace w n low k part) i ≡ 0

-- a part at or past the top is not written
abbrev pub ReplacePastTop : Type 0
ReplacePastTop = (w n : ℕ) (low : ℤ) (k part : ℕ) → n < 2 ^ w → pos w ≤ℤ low → replace w n low k part ≡ n

-- a part wholly below the lowest bit is not written
abbrev pub ReplaceBelow : Type 0
ReplaceBelow = (w n : ℕ) (low : ℤ) (k part : ℕ) → n < 2 ^ w → (low +ℤ pos k) ≤ℤ pos 0 → replace w n low k part ≡ n

-- the part is read back from its place
abbrev pub SelectReplaced : Type 0
SelectReplaced = (w n low k part : ℕ) → low + k ≤ w → part < 2 ^ k → select k (replace w n (pos low) k part) (pos low) ≡ part

-- below the part the old bits are read
abbrev pub SelectBelowReplaced : Type 0
SelectBelowReplaced =
    (w n : ℕ) (low : ℤ) (k part v : ℕ) (from : ℤ) →
    n < 2 ^ w → (from +ℤ pos v) ≤ℤ low → select v (replace w n low k part) from ≡ select v n from

-- above the part the old bits are read
abbrev pub SelectAboveReplaced : Type 0
SelectAboveReplaced =
    (w n : ℕ) (low : ℤ) (k part v : ℕ) (from : ℤ) →
    n < 2 ^ w → (low +ℤ pos k) ≤ℤ from → select v (replace w n low k part) from ≡ select v n from
