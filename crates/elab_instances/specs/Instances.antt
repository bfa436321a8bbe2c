-- What instances make, and why an instance of no module is refused.
use Rattle.std.specs.Prelude.{◌≡◌, ℕ, Bool, if◌then◌else◌, List, Some, Result, Ok, Err}
use Rattle.cov_types.specs.declared.place.Place.{Place}
use Rattle.vlog_tree.specs.declared.item.Conns.{Conns}
use Rattle.vlog_tree.specs.declared.module.Module.{Module}
use Rattle.elab_types.specs.declared.elab_fault.ElabFault.{ElabFault}
use Rattle.elab_types.specs.declared.elab_fault.ElabFault.TheVariants as fault
use Rattle.scope_meaning.specs.Constants.{Names}
use Rattle.scope_meaning.specs.Heads.{module_named}
use Rattle.scope_meaning.specs.Overrides.{givens}
use Rattle.elab_ranges.specs.declared.fault.RangeFault.{RangeFault}
use Rattle.elab_overrides.specs.declared.given.Givens.{Givens}
use Rattle.elab_overrides.specs.Given.{AreGiven}
use Rattle.elab_faults.specs.Judged.{fault_at}
use Rattle.elab_instances.specs.declared.judge.MadeOf.{MadeOf}

-- the module of that name is made, with the values that are given where its names mean this
pub record IsMadeOf (design : List Module) (known : Names) (of : List ℕ) (params : Conns) (made : MadeOf) : Type 0 where
  pub m : Module
  pub found : module_named design of ≡ Some (made.number, m)
  pub given : AreGiven (givens known m params) made.given

abbrev pub of_unknown : Place → Result Givens RangeFault → ElabFault
of_unknown p (Ok given) = fault.UnknownModule p
of_unknown p (Err f) = fault_at p f

-- whether values are bad, want of memory aside
abbrev pub IsBad : Bool → Result Bool ElabFault → Type 0
IsBad bad (Ok b) = b ≡ bad
IsBad bad (Err f) = f ≡ fault.NoMemory

-- bad values come before a module that is one of those around
abbrev pub refused : Place → Result Bool ElabFault → Bool → MadeOf → Result MadeOf ElabFault
refused p (Ok bad) inner made = if bad then Err (fault.BadOverride p) else (if inner then Err (fault.Recursive p) else Ok made)
refused p (Err f) inner made = Err f
