-- A text as lines.
use Rattle.std.specs.Prelude.{ℕ, ◌+◌, ◌==◌, Bool, true, false, nat_lt, List, [], ◌∷◌, length, if◌then◌else◌}

-- a line's bytes without its line feed, and whether a line feed ends it
abbrev pub Line : Type 0
Line = List ℕ × Bool

-- the lines with one byte more before the first
abbrev pub onto_line : ℕ → List Line → List Line
onto_line byte [] = (byte ∷ [], false) ∷ []
onto_line byte (l ∷ ls) = (byte ∷ l.0, l.1) ∷ ls

-- the lines of a text, from its end: each line feed ends one, and a rest that isn't empty is the last
abbrev pub lines_of : List ℕ → List Line
lines_of [] = []
lines_of (b ∷ bs) = if b == 10 then ([], true) ∷ lines_of bs else onto_line b (lines_of bs)

-- whether a line is longer than any line may be
abbrev pub is_long : Line → Bool
is_long l = nat_lt 65535 (length l.0)

-- the bytes that a line counts towards the size of its file: its own and its line feed, or 65,536 where it is too long
abbrev pub bytes_of : Line → ℕ
bytes_of l = if is_long l then 65536 else (length l.0 + (if l.1 then 1 else 0))
