-- A text in pieces, and the marks of a design that they have to be.
use Rattle.std.specs.Prelude.{ℕ, ◌==◌, Bool, false, List, [], ◌∷◌, ◌++◌, map, if◌then◌else◌}
use Rattle.std.specs.Str.{bytes_eq}
use Rattle.std.specs.Cmp.Lexicographic.{pointwise}
use Rattle.design_tree.specs.declared.instrumented.Instrumented.{Instrumented}
use Rattle.cvd_text.specs.Tokens.{Token, token_text}
use Rattle.cvd_text.specs.Lines.{Load, Line, no_load, added, stands}
use Rattle.cvd_text.specs.Spelling.{design_lines}

-- a word of a text, between blanks, or the line feed at a line's end
pub data Piece : Type 0 where
  a_word : List ℕ → Piece
  feed : Piece

-- the pieces of a text with one byte more in front, and with a word begun in front; where no line feed ends the word it is none
abbrev pub onto_word : ℕ → List Piece → List Piece
onto_word byte [] = []
onto_word byte (a_word text ∷ ps) = a_word (byte ∷ text) ∷ ps
onto_word byte (feed ∷ ps) = a_word (byte ∷ []) ∷ feed ∷ ps

abbrev pub empty_word : List Piece → List Piece
empty_word [] = []
empty_word (p ∷ ps) = a_word [] ∷ p ∷ ps

-- the pieces of the lines of a text that line feeds end: words, some of them empty, with a blank between two, and line feeds
abbrev pub pieces_of : List ℕ → List Piece
pieces_of [] = []
pieces_of (b ∷ bs) =
    if b == 10 then a_word [] ∷ feed ∷ pieces_of bs
    else if b == 32 then empty_word (pieces_of bs)
    else onto_word b (pieces_of bs)

-- what has to stand somewhere in a design's text: a token, or a line's end, where the line stands or doesn't
pub data Mark : Type 0 where
  token : Token → Mark
  line_end : Bool → Mark

abbrev pub fits : Piece → Mark → Bool
fits (a_word text) (token t) = bytes_eq text (token_text t)
fits (a_word text) (line_end stands) = false
fits feed (token t) = false
fits feed (line_end stands) = stands

abbrev pub all_fit : List Piece → List Mark → Bool
all_fit given marks = pointwise fits given marks

-- the marks of lines behind lines that add up to this
abbrev pub marks_of : Load → List Line → List Mark
marks_of before [] = []
marks_of before (l ∷ ls) = map token l.tokens ++ line_end (stands before l) ∷ marks_of (added before l.load) ls

abbrev pub design_marks : Instrumented → List Mark
design_marks x = marks_of no_load (design_lines x)
