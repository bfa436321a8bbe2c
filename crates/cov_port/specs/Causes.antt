-- Numbers of faults that never fall, and meanings that an object may tell or not.
use Rattle.std.specs.Prelude.{◌≡◌, ℕ, ◌+◌, ◌-◌, ◌^◌, ◌<◌, ◌≤◌, min, Option, None, Some, Result, OnOk, OnErr}

-- the number rose, or stands at its end, where it can rise no further
abbrev pub Rose : ℕ → ℕ → Type 0
Rose before now = min (before + 1) (2 ^ 64 - 1) ≤ now

-- the number did not rise, nor does it stand at its end
abbrev pub IsQuiet : ℕ → ℕ → Type 0
IsQuiet before now = now < min (before + 1) (2 ^ 64 - 1)

-- a call's own number stays where the call succeeds, and rises where it fails
pub record HasCause {T E : Type 0} (before now : ℕ) (result : Result T E) : Type 0 where
  pub later : before ≤ now
  pub kept : OnOk result (now ≡ before)
  pub failed : OnErr result (Rose before now)

-- both are told and stand so to one another, or neither is told
abbrev pub Both : {A : Type 0} → (A → A → Type 0) → Option A → Option A → Type 0
Both R None None = Unit {0}
Both R None (Some b) = ⊥
Both R (Some a) None = ⊥
Both R (Some a) (Some b) = R a b
