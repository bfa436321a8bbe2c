-- Where a line may end: what is wrong with a line feed there.
use Rattle.std.specs.Prelude.{◌≡◌, Bool, List, ◌∷◌, ◌++◌, Result, Ok, Err}
use Rattle.spelling_laws.specs.Spelled.{Awaits}
use Rattle.cvd_text.specs.Pieces.{Piece, feed, Mark, line_end, fits}
use Rattle.cvd_cursor.specs.Places.{Reading}
use Rattle.cvd_cursor.specs.Reads.{Takes, Refused}
use Rattle.cvd_cursor.specs.declared.fault.ReadFault.{ReadFault}
use Rattle.cvd_cursor.specs.declared.fault.ReadFault.TheVariants.{NoMemory, BadNumber, BadToken, BadShape, Truncated}

-- the fault of a line feed that ends a line whose conditions break; memory may always be wanting
abbrev pub IsEndFault : ReadFault → Type 0
IsEndFault NoMemory = Unit {0}
IsEndFault BadNumber = ⊥
IsEndFault BadToken = ⊥
IsEndFault BadShape = Unit {0}
IsEndFault Truncated = ⊥

-- where the pieces stop at a line feed, and a line may end there, its conditions break
abbrev pub EndsLines : {A : Type 0} → (A → List Mark) → Reading → ReadFault → Reading → Type 0
EndsLines spelled old fault new =
    (given after : List Piece) (stands : Bool) → old.rest ≡ given ++ new.rest → new.rest ≡ feed ∷ after → Awaits fits spelled given (line_end stands)
    → IsEndFault fault

-- the pieces stop being a value's, and where they do at the end of a line, its conditions break
pub record Halts {A : Type 0} (spelled : A → List Mark) (old : Reading) (fault : ReadFault) (new : Reading) : Type 0 where
  pub refused : Refused spelled old fault new
  pub ends : EndsLines spelled old fault new

-- a value was read, and is held so; or the pieces stop being a value's
abbrev pub ReadsLines : {A V : Type 0} → (A → List Mark) → (A → V → Type 0) → Reading → Result V ReadFault → Reading → Type 0
ReadsLines {A} spelled Holds old (Ok held) new = (value : A) × (Takes spelled old new value × Holds value held)
ReadsLines spelled Holds old (Err fault) new = Halts spelled old fault new
