-- Tests that compare.
use Rattle.std.proofs.Common.{◌≡◌, refl, ◌==◌, Bool, true, false, not}
use Rattle.bit_values.specs.Values.{flag}

-- a flag is 0 where it isn't set
pub unset : (b : Bool) → (flag b == 0) ≡ not b
unset true = refl
unset false = refl
