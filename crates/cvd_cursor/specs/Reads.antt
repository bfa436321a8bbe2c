-- What it is to read a value off the pieces of a text.
use Rattle.std.specs.Prelude.{◌≡◌, Bool, true, false, List, [], ◌∷◌, map, Result, Ok, Err, if◌then◌else◌}
use Rattle.spelling_laws.specs.Spelled as laws
use Rattle.cvd_text.specs.Tokens.{Token, is_numeric}
use Rattle.cvd_text.specs.Pieces.{Piece, a_word, feed, Mark, token, line_end, fits}
use Rattle.cvd_cursor.specs.Places.{Reading}
use Rattle.cvd_cursor.specs.declared.fault.ReadFault.{ReadFault}
use Rattle.cvd_cursor.specs.declared.fault.ReadFault.TheVariants.{NoMemory, BadNumber, BadToken, BadShape, Truncated}

-- tokens as marks
abbrev pub marks : {A : Type 0} → (A → List Token) → A → List Mark
marks tokens a = map token (tokens a)

-- a line's end
abbrev pub line_marks : Bool → Unit {0} → List Mark
line_marks stands u = line_end stands ∷ []

abbrev pub is_nothing : List Piece → Bool
is_nothing [] = true
is_nothing (p ∷ ps) = false

-- the fault of pieces that don't begin with the token that must come next
abbrev pub fault_of : Bool → List Piece → ReadFault
fault_of numeric ps = if is_nothing ps then Truncated else (if numeric then BadNumber else BadToken)

-- the fault of pieces that don't begin with the mark that must come next
abbrev pub fault_at : List Piece → Mark → ReadFault
fault_at [] m = Truncated
fault_at (p ∷ ps) (token t) = fault_of (is_numeric t) (p ∷ ps)
fault_at (a_word w ∷ ps) (line_end stands) = BadToken
fault_at (feed ∷ ps) (line_end stands) = BadShape

-- a value was read
pub record Takes {A : Type 0} (spelled : A → List Mark) (old new : Reading) (value : A) : Type 0 where
  pub same : new.text ≡ old.text
  pub read : laws.IsRead fits spelled old.rest value new.rest

-- the pieces that are left begin with the first wrong one
pub record Stops {A : Type 0} (spelled : A → List Mark) (old new : Reading) (fault : ReadFault) : Type 0 where
  pub same : new.text ≡ old.text
  pub wanted : Mark
  pub wrong : laws.IsWrong fits spelled old.rest wanted new.rest
  pub kind : fault ≡ fault_at new.rest wanted

abbrev pub Refused : {A : Type 0} → (A → List Mark) → Reading → ReadFault → Reading → Type 0
Refused spelled old NoMemory new = Unit {0}
Refused spelled old BadNumber new = Stops spelled old new BadNumber
Refused spelled old BadToken new = Stops spelled old new BadToken
Refused spelled old BadShape new = Stops spelled old new BadShape
Refused spelled old Truncated new = Stops spelled old new Truncated

-- a value was read, and is held so; or the pieces stop being a value's
abbrev pub Reads : {A V : Type 0} → (A → List Mark) → (A → V → Type 0) → Reading → Result V ReadFault → Reading → Type 0
Reads {A} spelled Holds old (Ok held) new = (value : A) × (Takes spelled old new value × Holds value held)
Reads spelled Holds old (Err fault) new = Refused spelled old fault new
