-- Strings (IEEE 1364-2005, 3.6).
use Rattle.std.specs.Prelude.{◌≡◌, ℕ, ◌+◌, ◌==◌, ◌&&◌, Bool, not, nat_le, List, [], ◌∷◌, drop, Option, None, Some, Result, Ok, Err, if◌then◌else◌}
use Rattle.std.specs.Option.{option_map}

-- Where a backslash takes the byte after it, taken says that one stands before a byte.

unfoldable pub closes : Bool → ℕ → Bool
closes taken b = b == 34 && not taken

unfoldable pub takes_next : Bool → ℕ → Bool
takes_next taken b = b == 92 && not taken

-- how many bytes stand before the quote that closes a string on its line, where one does
unfoldable pub quoted_length : Bool → List ℕ → Option ℕ
quoted_length taken [] = None
quoted_length taken (b ∷ rest) =
    if b == 10 then None else (
    if closes taken b then Some 0 else option_map (λ n. 1 + n) (quoted_length (takes_next taken b) rest))

-- a byte that stands for itself: 32 to 126, and no backslash
unfoldable pub is_plain : ℕ → Bool
is_plain b = nat_le 32 b && nat_le b 126 && not (b == 92)

-- what the byte behind a backslash stands for
unfoldable pub escaped : ℕ → Option ℕ
escaped b =
    if b == 110 then Some 10 else (
    if b == 116 then Some 9 else (
    if b == 92 then Some 92 else (
    if b == 34 then Some 34 else None)))

-- one more byte of the string, from so many bytes of its text
abbrev pub one_more : ℕ → ℕ → Result (List ℕ) ℕ → Result (List ℕ) ℕ
one_more b n (Ok bytes) = Ok (b ∷ bytes)
one_more b n (Err at) = Err (n + at)

unfoldable pub plain_byte : ℕ → Option (ℕ × ℕ)
plain_byte b = if is_plain b then Some (b, 1) else None

-- what the front of a string's text stands for, and how many bytes it has, where it is in order
unfoldable pub first_byte : List ℕ → Option (ℕ × ℕ)
first_byte [] = None
first_byte (b ∷ []) = plain_byte b
first_byte (b ∷ c ∷ rest) = if b == 92 then option_map (λ d. (d, 2)) (escaped c) else plain_byte b

-- what follows the first byte that a text stands for
abbrev pub behind_first : Option (ℕ × ℕ) → Result (List ℕ) ℕ → Result (List ℕ) ℕ
behind_first None read = Err 0
behind_first (Some found) (Ok bytes) = Ok (found.0 ∷ bytes)
behind_first (Some found) (Err at) = Err (found.1 + at)

-- the bytes that the text between the quotes stands for, or how many bytes stand before the first
-- byte that may not stand in a string, or before the backslash of the first bad escape
unfoldable pub bytes_of : List ℕ → Result (List ℕ) ℕ
bytes_of [] = Ok []
bytes_of (b ∷ []) = behind_first (plain_byte b) (Ok [])
bytes_of (b ∷ c ∷ rest) =
    if b == 92 then behind_first (option_map (λ d. (d, 2)) (escaped c)) (bytes_of rest)
    else behind_first (plain_byte b) (bytes_of (c ∷ rest))

-- reading goes on so, by what the front of a text stands for
abbrev pub GoodAt : List ℕ → Result (List ℕ) ℕ → Option (ℕ × ℕ) → Type 0
GoodAt text read None = read ≡ Err 0
GoodAt text read (Some found) = read ≡ behind_first (Some found) (bytes_of (drop found.1 text))
