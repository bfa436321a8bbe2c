-- Comments (IEEE 1364-2005, 3.3), and the coverage comments among them (Verilator User's Guide).
use Rattle.std.specs.Prelude.{ℕ, ◌+◌, ◌-◌, ◌&&◌, Bool, false, List, [], ◌∷◌, length, take, drop, Option, None, Some, codes, nat_eq, if◌then◌else◌}
use Rattle.std.specs.List.{prefix_len, starts_with, suffix_len}
use Rattle.std.specs.Option.{option_map}
use Rattle.std.specs.Str.{bytes_eq}
use Rattle.cov_types.specs.declared.pragma.PragmaKind.{PragmaKind}
use Rattle.cov_types.specs.declared.pragma.PragmaKind.TheVariants.{Off, On, BlockOff}
use Rattle.vlog_lexer.specs.Bytes.{is_gap}
use Rattle.std.specs.Char.{is_ascii_whitespace}

-- how many bytes stand before the next `*/`, where there is one
unfoldable pub block_length : List ℕ → Option ℕ
block_length [] = None
block_length (b ∷ rest) =
    if starts_with nat_eq (b ∷ rest) (codes "*/") then Some 0 else option_map (λ n. 1 + n) (block_length rest)

-- a text without the white space at its ends
unfoldable pub trimmed : List ℕ → List ℕ
trimmed text = let t = drop (prefix_len is_ascii_whitespace text) text in take (length t - suffix_len is_ascii_whitespace t) t

unfoldable pub begins_with_gap : List ℕ → Bool
begins_with_gap [] = false
begins_with_gap (b ∷ text) = is_gap b

-- whether the text begins with a space or a tab that another follows
unfoldable pub begins_with_gaps : List ℕ → Bool
begins_with_gaps [] = false
begins_with_gaps (b ∷ rest) = is_gap b && begins_with_gap rest

unfoldable pub as_space : ℕ → ℕ
as_space b = if is_gap b then 32 else b

-- a text with each run of spaces and tabs taken as one space
unfoldable pub squeezed : List ℕ → List ℕ
squeezed [] = []
squeezed (b ∷ rest) = if begins_with_gaps (b ∷ rest) then squeezed rest else as_space b ∷ squeezed rest

-- the coverage comment that a comment with this body is, if it is one
unfoldable pub pragma_of : List ℕ → Option PragmaKind
pragma_of body =
    let plain = squeezed (trimmed body) in
    if bytes_eq plain (codes "verilator coverage_off") then Some Off else (
    if bytes_eq plain (codes "verilator coverage_on") then Some On else (
    if bytes_eq plain (codes "verilator coverage_block_off") then Some BlockOff else None))
