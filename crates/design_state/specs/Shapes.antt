-- States with the same variables.
use Rattle.std.specs.Prelude.{◌≡◌, ℕ, ◌<◌, length}
use Rattle.circuit_run.specs.States.{State, held}

-- two states have as many variables, and each has one width and one number of words in both
pub record HaveOneShape (s t : State) : Type 0 where
  pub variables : length s ≡ length t
  pub widths : (v : ℕ) → v < length s → (held s v).width ≡ (held t v).width
  pub words : (v : ℕ) → v < length s → length (held s v).words ≡ length (held t v).words
