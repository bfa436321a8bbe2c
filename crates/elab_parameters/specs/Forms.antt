-- What the form of a declaration gives its parameters (IEEE 1364-2005, 4.10 and 12.2).
use Rattle.std.specs.Prelude.{◌≡◌, ℕ, List, Some}
use Rattle.vlog_tree.specs.declared.item.ParamForm.{ParamForm}
use Rattle.source_meaning.specs.Meaning.{Meaning, fixed_value}
use Rattle.scope_meaning.specs.Constants.{Names, Constant}
use Rattle.scope_meaning.specs.Ranges.{parameter_constant, typed}
use Rattle.elab_parameters.specs.declared.form.FormSize.{FormSize}
use Rattle.elab_parameters.specs.declared.form.FormSize.TheVariants as size

-- a value as the constant of a name
abbrev pub sized : FormSize → List ℕ → Meaning → Constant
sized size.Own name m = record { name = name; width = m.size; signed = m.signed; bits = fixed_value m }
sized (size.Fixed s) name m = typed name s.width s.signed m

-- A form gives this size and sign, whatever the value.
abbrev pub HasSize : Names → ParamForm → FormSize → Type 0
HasSize known form s = (name : List ℕ) (m : Meaning) → parameter_constant known name m form ≡ Some (sized s name m)
