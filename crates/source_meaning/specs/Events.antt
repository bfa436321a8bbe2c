-- Events of a run: entered arms (this project's own; IEEE 1800, 16.14 for covers).
use Rattle.std.specs.Prelude.{ℕ}
use Rattle.cov_types.specs.declared.place.Place.{Place}

-- an arm of a process, beside the place that it has in the source
pub data Arm : Type 0 where
  -- the body of a process
  body : Arm
  -- the two arms of an `if`, written or not
  yes_arm : Arm
  no_arm : Arm
  -- a written arm of a `case`
  case_arm : Arm
  -- the arm of a `case` that no choice matches, and the body of an assignment
  unwritten : Arm
  -- a cover whose expression is not 0
  covered : Arm

-- an arm of a source place is entered in a scope
pub record Event : Type 0 where
  pub scope : ℕ
  pub place : Place
  pub arm : Arm
