-- What is left of a text's pieces, and where in the text they stand.
use Rattle.std.specs.Prelude.{◌≡◌, ℕ, ◌==◌, Bool, true, List, [], ◌∷◌, ◌++◌, length, Option, None, Some, if◌then◌else◌}
use Rattle.cvd_text.specs.Pieces.{Piece, a_word, feed, pieces_of}
use Rattle.cvd_text.specs.Fault.{line_start}

-- a text, and those of its pieces that are left
pub record Reading : Type 0 where
  pub text : List ℕ
  pub rest : List Piece

-- the pieces of bytes, behind a line feed or not
abbrev pub pieces_left : Bool → List ℕ → List Piece
pieces_left at_feed rest = if at_feed then feed ∷ pieces_of rest else pieces_of rest

-- whether bytes are none or end with a line feed
abbrev pub is_ended : List ℕ → Bool
is_ended [] = true
is_ended (b ∷ []) = b == 10
is_ended (b ∷ c ∷ bs) = is_ended (c ∷ bs)

-- the bytes that are left lie in the text, and what is behind them is no piece
pub record IsPlaced (text rest : List ℕ) (count : ℕ) (at_feed : Bool) : Type 0 where
  pub front : List ℕ
  pub back : List ℕ
  pub split : text ≡ front ++ (rest ++ back)
  pub counted : length back ≡ count
  pub ended : is_ended rest ≡ true
  pub clear : pieces_of back ≡ []
  pub fed : at_feed ≡ true → (start : List ℕ) × (front ≡ start ++ 10 ∷ [])

abbrev pub first_word : List Piece → Option (List ℕ)
first_word [] = None
first_word (a_word w ∷ ps) = Some w
first_word (feed ∷ ps) = None

abbrev pub behind_word : List Piece → List Piece
behind_word [] = []
behind_word (a_word w ∷ ps) = ps
behind_word (feed ∷ ps) = feed ∷ ps

-- the line of the next piece begins there, whatever pieces come before it
abbrev pub IsLineStart : Reading → ℕ → Type 0
IsLineStart r place = (given : List Piece) → pieces_of r.text ≡ given ++ r.rest → place ≡ line_start r.text given
