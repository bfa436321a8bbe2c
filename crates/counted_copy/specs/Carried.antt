-- The counters that arms carry, by a list with a place for each arm.
use Rattle.std.specs.Prelude.{ℕ, List, Option, None, slice_index_or}
use Rattle.counted_circuit.specs.Plain.{as_list}

-- the counter at an arm's place, if it has one
abbrev pub carried_by : List (Option ℕ) → ℕ → List ℕ
carried_by carriers arm = as_list (slice_index_or carriers arm None)
