-- The counters that the last run of a process raised, and for how many there is room.
use Rattle.std.specs.Prelude.{ℕ, List, []}

pub record Raised : Type 0 where
  pub counters : List ℕ
  pub room : ℕ

-- none yet
abbrev pub none_raised : ℕ → Raised
none_raised room = record { counters = []; room = room }
