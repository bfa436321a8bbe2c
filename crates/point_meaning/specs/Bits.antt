-- Bits with toggle points (Verilator User's Guide, toggle coverage; the comments are this project's own).
use Rattle.std.specs.Prelude.{ℕ, ◌+◌, ◌*◌, ◌==◌, ◌&&◌, ◌||◌, not, nat_le, Bool, false, List, [], ◌∷◌, ◌++◌, codes, decimal, if◌then◌else◌}
use Rattle.cov_points.specs.declared.options.CoverOptions.{CoverOptions}
use Rattle.point_meaning.specs.Source.{Variable}

-- a number in brackets
abbrev pub bracketed : ℕ → List ℕ
bracketed n = codes "[" ++ decimal n ++ codes "]"

-- the comment of a bit: the name, the word of a memory, the bit of a vector, by declared numbers
abbrev pub bit_comment : Variable → ℕ → ℕ → List ℕ
bit_comment v word bit =
    v.name
    ++ (if v.memory then bracketed (v.word_low + word) else [])
    ++ (if v.vector then bracketed (v.low + bit) else [])

-- a name that begins with `_`
abbrev pub begins_with_underscore : List ℕ → Bool
begins_with_underscore [] = false
begins_with_underscore (byte ∷ bytes) = byte == 95

-- whether the bits of a variable have points: not those of an integer, of a name that begins with an underscore unless
-- it is asked for, and of a variable with more bits over all words than the limit
abbrev pub has_toggles : CoverOptions → Variable → Bool
has_toggles options v =
    options.toggle && not v.integer && (options.underscore || not (begins_with_underscore v.name))
    && nat_le (v.width * v.words) options.max_width
