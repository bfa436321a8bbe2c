-- Concatenations, replications and system functions (IEEE 1364-2005, 5.1.14 and 17.7; IEEE 1800, 20.8 for `$clog2`).
-- All parts are valued by themselves.
use Rattle.std.specs.Prelude.{ℕ, zero, suc, ◌+◌, ◌*◌, ◌^◌, nat_lt, true, false, ◌&&◌, List, [], ◌∷◌, ◌++◌}
use Rattle.vlog_tree.specs.declared.operator.SystemCall.{SystemCall}
use Rattle.vlog_tree.specs.declared.operator.SystemCall.TheVariants as call
use Rattle.bit_values.specs.Values as value
use Rattle.circuit_run.specs.States.{State}
use Rattle.source_meaning.specs.Meaning.{Meaning, Object, own, by_itself, total_size, all_constant, fixed_value, fixed_integer, at_least_0}

-- the bits of the first above those of the rest
abbrev pub joined_value : List Meaning → State → ℕ
joined_value [] s = 0
joined_value (a ∷ rest) s = value.concat (total_size rest) (own a s) (joined_value rest s)

-- the objects that several targets name, the highest first
abbrev pub objects_of : List Meaning → List Object
objects_of [] = []
objects_of (a ∷ rest) = a.objects ++ objects_of rest

-- `{part, part}`
abbrev pub joined : List Meaning → Meaning
joined parts = record (by_itself (total_size parts) false (all_constant parts) (joined_value parts)) { objects = objects_of parts }

-- so many copies of a value of some bits, beside one another
abbrev pub copies : ℕ → ℕ → ℕ → ℕ
copies zero size n = 0
copies (suc k) size n = value.concat size (copies k size n) n

-- `{count{part, part}}`: the count is a constant
abbrev pub repeated : Meaning → List Meaning → Meaning
repeated count parts =
    let k = at_least_0 (fixed_integer count) in
    by_itself (k * total_size parts) false (count.constant && all_constant parts) λ s. copies k (total_size parts) (joined_value parts s)

-- how many of the first so many powers of 2, from the power 0 on, lie below a number
unfoldable pub powers_below : ℕ → ℕ → ℕ
powers_below zero n = 0
powers_below (suc most) n = powers_below most n + value.flag (nat_lt (2 ^ most) n)

-- the least n with 2 ^ n at least the value, for values below 2 ^ 128: as many powers of 2 lie below it
abbrev pub ceil_log2 : ℕ → ℕ
ceil_log2 = powers_below 128

-- `$signed`, `$unsigned`, and `$clog2` of a constant
abbrev pub called : SystemCall → Meaning → Meaning
called call.Signed a = by_itself a.size true a.constant (own a)
called call.Unsigned a = by_itself a.size false a.constant (own a)
called call.CeilLog2 a = by_itself 32 true a.constant λ s. ceil_log2 (fixed_value a)
