-- The names of generate blocks and the text of a scope's module (IEEE 1364-2005, 12.4.3 external names for unnamed
-- generate blocks; module text: this project's own).
use Rattle.std.specs.Prelude.{ℕ, ◌+◌, not, if◌then◌else◌, List, [], ◌∷◌, ◌++◌, length, replicate, map, Option, Some, None, codes, decimal, ℤ}
use Rattle.std.specs.List.{find, range_with_len, join_with_byte}
use Rattle.vlog_tree.specs.declared.item.NamePlace.{NamePlace}
use Rattle.circuit_run.specs.Digits.{digits, trimmed, integer_text, hex_columns}
use Rattle.scope_meaning.specs.Constants.{Constant}
use Rattle.scope_meaning.specs.Declared.{is_in}

-- the block of a pass of a generate loop
abbrev pub pass_name : List ℕ → ℤ → List ℕ
pass_name block n = block ++ codes "[" ++ integer_text n ++ codes "]"

-- `genblk`, zeros, and the number of a construct
abbrev pub genblk : ℕ → ℕ → List ℕ
genblk n zeros = codes "genblk" ++ replicate zeros 48 ++ decimal n

abbrev pub or_empty : Option (List ℕ) → List ℕ
or_empty (Some name) = name
or_empty None = []

-- The name of an unnamed arm of construct n of a scope that declares these names: with the fewest zeros with which none
-- of them is the same. One more candidate than names is enough.
abbrev pub unnamed_block : List (List ℕ) → ℕ → List ℕ
unnamed_block names n = or_empty (find (λ name. not (is_in name names)) (map (genblk n) (range_with_len 0 (length names + 1))))

abbrev pub block_name : List (List ℕ) → ℕ → Option NamePlace → List ℕ
block_name names n (Some name) = name.name
block_name names n None = unnamed_block names n

-- a scope inside another
abbrev pub inside : List ℕ → List ℕ → List ℕ
inside path name = path ++ codes "." ++ name

-- lower-case hexadecimal digits of a number of a width, without leading zeros
abbrev pub hex_text : ℕ → ℕ → List ℕ
hex_text width n = trimmed (digits 16 (hex_columns width) n)

-- NAME=VALUE, the value with its size and sign in hexadecimal
abbrev pub constant_text : Constant → List ℕ
constant_text c = c.name ++ codes "=" ++ decimal c.width ++ (if c.signed then codes "'sh" else codes "'h") ++ hex_text c.width c.bits

-- a module's name, and where it has parameters `#(`, each with its value, `)`
abbrev pub module_text : List ℕ → List Constant → List ℕ
module_text name [] = name
module_text name (c ∷ cs) = name ++ codes "#(" ++ join_with_byte 44 (map constant_text (c ∷ cs)) ++ codes ")"
