-- How a line ends whose tokens were read.
use Rattle.std.specs.Prelude.{◌≡◌, Bool, true, false, is_some, Option, None, Some, Result}
use Rattle.cvd_cursor.specs.Places.{Reading}
use Rattle.cvd_cursor.specs.Reads.{Reads, line_marks}
use Rattle.cvd_cursor.specs.declared.fault.ReadFault.{ReadFault}

-- what was found of a value: how it is held, where its conditions hold
abbrev pub Judges : {A V : Type 0} → (A → Bool) → (A → V → Type 0) → A → Option V → Type 0
Judges holds Holds value (Some held) = (holds value ≡ true) × Holds value held
Judges holds Holds value None = holds value ≡ false

-- the line of what was found ends; where nothing was found it breaks a condition
abbrev pub Closes : {V : Type 0} → Option V → Reading → Result V ReadFault → Reading → Type 0
Closes found old result new = Reads (line_marks (is_some found)) (λ u held. found ≡ Some held) old result new
