-- Sums that stop at the greatest number of their type.
use Rattle.std.specs.Prelude.{◌≡◌, true}
use Rattle.cvd_text.specs.Lines.{Load, added, is_within}

-- the sums are those of both, where one of them is within the limits
pub record AddsUp (before own after : Load) : Type 0 where
  pub same : is_within after ≡ is_within (added before own)
  pub exact : is_within after ≡ true → after ≡ added before own
