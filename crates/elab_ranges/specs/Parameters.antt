-- What a parameter has by its form (IEEE 1364-2005, 4.10 and 12.2).
use Rattle.std.specs.Prelude.{◌≡◌, ℕ, List, Some, Result, Ok, Err}
use Rattle.vlog_tree.specs.declared.item.ParamForm.{ParamForm}
use Rattle.vlog_tree.specs.declared.item.ParamForm.TheVariants as form
use Rattle.source_meaning.specs.Meaning.{Meaning}
use Rattle.scope_meaning.specs.Constants.{Names, Constant}
use Rattle.scope_meaning.specs.Ranges.{parameter_constant}
use Rattle.elab_constants.specs.declared.names.ConstantValue.{ConstantValue}
use Rattle.elab_ranges.specs.declared.fault.RangeFault.{RangeFault}
use Rattle.elab_ranges.specs.declared.fault.RangeFault.TheVariants as fault
use Rattle.elab_ranges.specs.Bounds.{IsVector}

-- a value as the constant of a name
abbrev pub named : List ℕ → ConstantValue → Constant
named name v = record { name = name; width = v.value.width; signed = v.signed; bits = v.value.bits }

-- why a form gives none: its range has no size
abbrev pub IsFormFault : Names → ParamForm → RangeFault → Type 0
IsFormFault known (form.Ranged signed range) f = IsVector known range (Err f)
IsFormFault known form.Plain f = ⊥
IsFormFault known form.Integer f = ⊥

-- the constant that a declaration of any name gives with this value and form, or why it gives none
abbrev pub IsParameter : Names → Meaning → ParamForm → Result ConstantValue RangeFault → Type 0
IsParameter known m form (Ok v) = (name : List ℕ) → parameter_constant known name m form ≡ Some (named name v)
IsParameter known m form (Err fault.NoMemory) = Unit {0}
IsParameter known m form (Err f) = IsFormFault known form f
