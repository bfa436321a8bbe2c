-- Worked examples of the definitions, by computation.
use Rattle.std.specs.Prelude.{◌≡◌, true, false, pos, negsuc, refl}
use Rattle.bit_values.specs.Values as value
use Rattle.bit_values.specs.Values.{number_of}

-- 4 bits: f reads -1 and 8 reads -8; 7 reads 7
pub signed_ones : value.signed 4 0xf ≡ negsuc 0
signed_ones = refl

pub signed_least : value.signed 4 8 ≡ negsuc 7
signed_least = refl

pub signed_greatest : value.signed 4 7 ≡ pos 7
signed_greatest = refl

-- -1 modulo 2 ^ 128 is all ones
pub modulo_wide : value.modulo 128 (negsuc 0) ≡ 0xffff_ffff_ffff_ffff_ffff_ffff_ffff_ffff
modulo_wide = refl

-- f + 1 is 0 at 4 bits and 10 (hexadecimal) at 5 bits
pub carry_lost : value.add 4 0xf 1 ≡ 0
carry_lost = refl

pub carry_kept : value.add 5 0xf 1 ≡ 0x10
carry_kept = refl

-- 0 - 1 is f at 4 bits
pub borrow_lost : value.sub 4 0 1 ≡ 0xf
borrow_lost = refl

-- 4 bits: -7 / 2 is -3, -7 % 2 is -1, 7 % -2 is 1, -8 / -1 is -8; by 0 both are 0
pub quotient_truncated : value.sdiv 4 9 2 ≡ 0xd
quotient_truncated = refl

pub remainder_negative : value.srem 4 9 2 ≡ 0xf
remainder_negative = refl

pub remainder_positive : value.srem 4 7 0xe ≡ 1
remainder_positive = refl

pub quotient_of_least : value.sdiv 4 8 0xf ≡ 8
quotient_of_least = refl

pub quotient_by_zero : value.sdiv 4 9 0 ≡ 0
quotient_by_zero = refl

pub remainder_by_zero : value.srem 4 9 0 ≡ 0
remainder_by_zero = refl

-- f is above 1 as unsigned, and below it as signed
pub unsigned_order : value.ult 0xf 1 ≡ 0
unsigned_order = refl

pub signed_order : value.slt 4 0xf 1 ≡ 1
signed_order = refl

-- -7 >>> 1 is -4, rounded down; by the width or more all sign bits
pub sign_filled : value.sar 4 9 1 ≡ 0xc
sign_filled = refl

pub sign_alone : value.sar 4 9 4 ≡ 0xf
sign_alone = refl

-- -7 at 8 bits, and 9 at 8 bits
pub extended_signed : value.extend 4 8 true 9 ≡ 0xf9
extended_signed = refl

pub extended_unsigned : value.extend 4 8 false 9 ≡ 9
extended_unsigned = refl

-- a above 5 is a5
pub parts_joined : value.concat 4 0xa 5 ≡ 0xa5
parts_joined = refl

-- of a5: 4 bits from 2 on, from -2 on and from 6 on
pub selected : value.select 4 0xa5 (pos 2) ≡ 9
selected = refl

pub selected_below : value.select 4 0xa5 (negsuc 1) ≡ 4
selected_below = refl

pub selected_past : value.select 4 0xa5 (pos 6) ≡ 2
selected_past = refl

-- 3 of 2 bits in 8 zeros: at 3, at -1, where its low bit is left out, and at 7, where its high bit is
pub replaced : value.replace 8 0 (pos 3) 2 3 ≡ 0x18
unfolding number_of
replaced = refl

pub replaced_below : value.replace 8 0 (negsuc 0) 2 3 ≡ 1
unfolding number_of
replaced_below = refl

pub replaced_past : value.replace 8 0 (pos 7) 2 3 ≡ 0x80
unfolding number_of
replaced_past = refl
