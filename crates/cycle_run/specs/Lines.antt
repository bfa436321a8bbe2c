-- The text of a cycle, and for how many bytes there is room.
use Rattle.std.specs.Prelude.{ℕ, List}

pub record Line : Type 0 where
  pub bytes : List ℕ
  pub room : ℕ
