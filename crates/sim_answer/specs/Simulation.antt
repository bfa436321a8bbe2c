-- What a `sim` is asked for (docs/commands.md, "sim").
use Rattle.std.specs.Prelude.{ℕ, List}

-- the names of the design, the stimulus and the data file, and the width of counts in bits
pub record Simulation : Type 0 where
  pub design : List ℕ
  pub stimulus : List ℕ
  pub data_name : List ℕ
  pub count_bits : ℕ
