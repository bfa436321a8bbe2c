-- Private: what the parts of a cutter do.
use Rattle.std.specs.Prelude.{◌≡◌, ℕ, ◌+◌, ◌<◌, List, [], ◌∷◌, ◌++◌, length, take, drop, true, Option, Some, IfSome}
use Rattle.cov_port.specs.Cutting.{has_no_feed}
use Rattle.cov_port.specs.declared.line_step.LineStep.{LineStep}
use Rattle.cov_port.specs.declared.line_step.LineStep.TheVariants as step

-- the first line feed of these bytes stands at this place
pub record IsFeedAt (bytes : List ℕ) (at : ℕ) : Type 0 where
  pub within : at < length bytes
  pub clear : has_no_feed (take at bytes) ≡ true
  pub split : bytes ≡ take at bytes ++ 10 ∷ drop (at + 1) bytes

-- a read put n bytes behind those that were there; none come only at the end
pub record Fills (n : ℕ) (old new : List ℕ) (before after : Option (List ℕ)) : Type 0 where
  pub part : List ℕ
  pub count : length part ≡ n
  pub moved : new ≡ old ++ part
  pub told : IfSome before (λ left. (rest : List ℕ) × (after ≡ Some rest) × (left ≡ part ++ rest) × (n ≡ 0 → left ≡ []))

-- what the last bytes of a file are: a last line, or nothing
abbrev pub step_of : List ℕ → LineStep
step_of [] = step.End
step_of (b ∷ bs) = step.LastLine
