-- What judging a place of the walk gives.
use Rattle.std.specs.Prelude.{◌≡◌, Option, Some, None, Result, Ok, Err}
use Rattle.cov_types.specs.declared.place.Place.{Place}
use Rattle.elab_types.specs.declared.elab_fault.ElabFault.{ElabFault}
use Rattle.elab_types.specs.declared.elab_fault.ElabFault.TheVariants as fault
use Rattle.elab_ranges.specs.declared.fault.RangeFault.{RangeFault}
use Rattle.elab_ranges.specs.declared.fault.RangeFault.TheVariants as range

-- the fault is what refuses the place, want of memory aside
abbrev pub IsRefusal : Option ElabFault → ElabFault → Type 0
IsRefusal refused fault.NoMemory = Unit {0}
IsRefusal refused f = refused ≡ Some f

-- nothing refuses the place and it is what was asked for, or that refuses it
abbrev pub Judges : {A : Type 0} → (A → Type 0) → Option ElabFault → Result A ElabFault → Type 0
Judges is refused (Ok a) = (refused ≡ None) × is a
Judges is refused (Err f) = IsRefusal refused f

-- nothing is asked for
abbrev pub Nothing : Unit {0} → Type 0
Nothing u = Unit {0}

-- a fault of expressions and ranges at a place
abbrev pub fault_at : Place → RangeFault → ElabFault
fault_at p range.NotConstant = fault.NotConstant p
fault_at p range.BadSelect = fault.BadSelect p
fault_at p range.BadRange = fault.BadRange p
fault_at p range.WidthPast128 = fault.WidthPast128 p
fault_at p range.NoMemory = fault.NoMemory
