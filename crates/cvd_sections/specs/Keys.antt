-- The key that a line ends with, and lists of counters.
use Rattle.std.specs.Prelude.{◌≡◌, ℕ, ◌==◌, ◌||◌, not, Bool, true, false, List, [], ◌∷◌, ◌++◌, codes, map, length, nat_lt, slice_get, ◌-◌, Option, None, Some}
use Rattle.std.specs.Prelude.{Result, Ok, Err, if◌then◌else◌}
use Rattle.std.specs.List.{list_all, slice_split}
use Rattle.std.specs.Option.{option_map}
use Rattle.std.specs.Str.{bytes_eq}
use Rattle.design_tree.specs.declared.instrumented.PointRow.{PointRow}
use Rattle.cvd_text.specs.Tokens.{Token, counters, words_of}
use Rattle.cvd_text.specs.Pieces.{Piece, a_word, feed, Mark, token, line_end}
use Rattle.cvd_text.specs.Sections.{are_below}
use Rattle.cvd_cursor.specs.Numerals.{is_numeral, value_of}
use Rattle.cvd_cursor.specs.Places.{Reading, first_word}
use Rattle.cvd_cursor.specs.Reads.{Takes, Refused, marks}
use Rattle.cvd_cursor.specs.declared.fault.ReadFault.{ReadFault}

abbrev pub is_blank : ℕ → Bool
is_blank byte = byte == 32

-- no word has a blank, as in the pieces of any text
abbrev pub is_cut : Piece → Bool
is_cut (a_word text) = list_all (λ b. not (is_blank b)) text
is_cut feed = true

abbrev pub AreCut : List Piece → Type 0
AreCut ps = list_all is_cut ps ≡ true

-- the words of a key, and the end of its line, which stands or doesn't by the key
abbrev pub keyed : (List ℕ → Bool) → List ℕ → List Mark
keyed holds key = map token (words_of key) ++ line_end (holds key) ∷ []

-- a key was read up to where no further word comes; or there is no word
abbrev pub ReadsKey : Reading → Result (List ℕ) ReadFault → Reading → Type 0
ReadsKey old (Ok key) new = Takes (marks words_of) old new key × (first_word new.rest ≡ None)
ReadsKey old (Err fault) new = (holds : List ℕ → Bool) → Refused (keyed holds) old fault new

-- the parts of a list of counters
abbrev pub parts_of : List ℕ → List (List ℕ)
parts_of text = slice_split (λ byte. byte == 44) text

-- whether a word is a list of counters
abbrev pub is_list : List ℕ → Bool
is_list text = bytes_eq text (codes "-") || list_all (is_numeral 10) (parts_of text)

abbrev pub counters_tokens : List ℕ → List Token
counters_tokens ns = counters ns ∷ []

-- a list of counters is held where they all are counters of the design
abbrev pub HoldsCounters : ℕ → List ℕ → Option (List ℕ) → Type 0
HoldsCounters n ns (Some held) = (held ≡ ns) × (are_below n ns ≡ true)
HoldsCounters n ns None = are_below n ns ≡ false

-- the list that a word spells
abbrev pub list_of : List ℕ → List ℕ
list_of text = if bytes_eq text (codes "-") then [] else map (value_of 10) (parts_of text)

-- a number is held where it is below another
abbrev pub HoldsNumber : ℕ → List ℕ → Option ℕ → Type 0
HoldsNumber n text (Some held) = (held ≡ value_of 10 text) × (nat_lt (value_of 10 text) n ≡ true)
HoldsNumber n text None = nat_lt (value_of 10 text) n ≡ false

-- plus and minus counters
abbrev pub Sides : Type 0
Sides = (plus : List ℕ) × List ℕ

abbrev pub sides_tokens : Sides → List Token
sides_tokens p = counters p.0 ∷ counters p.1 ∷ []

abbrev pub HoldsSides : ℕ → Sides → Option (List ℕ) × Option (List ℕ) → Type 0
HoldsSides n p held = HoldsCounters n p.0 held.0 × HoldsCounters n p.1 held.1

-- the key of the last point, if there is one
abbrev pub last_key : List PointRow → Option (List ℕ)
last_key points = option_map (λ (p : PointRow). p.key) (slice_get points (length points - 1))
