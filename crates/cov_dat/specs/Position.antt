-- Where in a data file a line begins.
use Rattle.std.specs.Prelude.{ℕ, ◌+◌, ◌≤◌}

-- the next line's number and the bytes before it are those of a file within the limit on bytes
pub record IsInFile (number bytes : ℕ) : Type 0 where
  pub first : 1 ≤ number
  pub counted : number ≤ bytes + 1
  pub within : bytes ≤ 4294967296
