-- What the program answers to words, given what each name holds.
use Rattle.std.specs.Prelude.{ℕ, List, []}
use Rattle.cov_types.specs.declared.limit.LimitName.{LimitName}
use Rattle.cov_types.specs.declared.place.Place.{Place}
use Rattle.command_ending.specs.ErrorLines.{limit_line, open_line, design_line, data_line}
use Rattle.command_ending.specs.declared.status.Status.{Status}
use Rattle.command_ending.specs.declared.status.Status.TheVariants.{Done, BadDesign, BadData, Fault, Limit}

-- a status, the text on standard output, the line on standard error, and what is stored, in order
pub record Answer : Type 0 where
  pub status : Status
  pub out : List ℕ
  pub line : List ℕ
  pub stores : List (List ℕ × List ℕ)

-- a refusal with this line, behind what was printed before; nothing is stored
abbrev pub refused_behind : List ℕ → Status → List ℕ → Answer
refused_behind out status line = record { status = status; out = out; line = line; stores = [] }

-- nothing but a refusal, with this line
abbrev pub refused_with : Status → List ℕ → Answer
refused_with status line = record { status = status; out = []; line = line; stores = [] }

-- a limit that is passed
abbrev pub over_limit : LimitName → Answer
over_limit name = refused_with Limit (limit_line name)

-- a name that isn't held
abbrev pub absent : List ℕ → Answer
absent name = refused_with Fault (open_line name)

-- a design that is refused at a place of a file, with a code
abbrev pub bad_design : List ℕ → Place → List ℕ → Answer
bad_design name place code = refused_with BadDesign (design_line name place code)

-- a data file that is refused at a line, with a code
abbrev pub bad_data : List ℕ → ℕ → List ℕ → Answer
bad_data name n code = refused_with BadData (data_line name n code)

-- all is done: this is printed, and this is stored
abbrev pub done : List ℕ → List (List ℕ × List ℕ) → Answer
done out stores = record { status = Done; out = out; line = []; stores = stores }
