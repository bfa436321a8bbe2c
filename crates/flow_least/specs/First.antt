-- The first place where a condition fails.
use Rattle.std.specs.Prelude.{ℕ, ◌<◌, Option, Some, None}
use Rattle.design_tree.specs.declared.design.Design.{Design}
use Rattle.design_meaning.specs.Flow.{Condition}
use Rattle.design_meaning.specs.FlowFaults.{Keeps, IsLeast}
use Rattle.flow_least.specs.declared.place.Place.{Place}

-- the least process and then the least variable for which the condition fails, or that it fails nowhere
abbrev pub IsFirst : Condition → Design → Option Place → Type 0
IsFirst Fails d None = Keeps Fails d
IsFirst Fails d (Some x) = IsLeast Fails d x.process x.var

-- it fails for no process before this one
abbrev pub KeepsBefore : Condition → Design → ℕ → Type 0
KeepsBefore Fails d p = (q w : ℕ) → q < p → Fails d q w → ⊥
