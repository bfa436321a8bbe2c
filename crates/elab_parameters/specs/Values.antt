-- The value of a parameter.
use Rattle.std.specs.Prelude.{◌≡◌, ℕ, Bool, true, false, List, Option, Some, None}
use Rattle.vlog_tree.specs.declared.item.ParamName.{ParamName}
use Rattle.source_meaning.specs.Meaning.{Meaning}
use Rattle.scope_meaning.specs.Constants.{Names, option_of}
use Rattle.scope_meaning.specs.Heads.{parameter_value}
use Rattle.scope_meaning.specs.Overrides.{given_to}
use Rattle.scope_meaning.specs.Scope.{Here}
use Rattle.elab_constants.specs.declared.names.ConstantValue.{ConstantValue}
use Rattle.elab_ranges.specs.Parameters.{named}
use Rattle.elab_parameters.specs.declared.form.FormSize.{FormSize}
use Rattle.elab_parameters.specs.Forms.{sized}

-- the value that an instance gives to a parameter, unless it is local
abbrev pub given_value : Here → Bool → List ℕ → Option Meaning
given_value here true name = None
given_value here false name = given_to here.given name

-- a parameter has this value at the size and sign of its form
abbrev pub IsConstantOf : Here → Names → Bool → FormSize → ParamName → ConstantValue → Type 0
IsConstantOf here known is_local size p v =
    option_of (sized size p.name.name) (parameter_value here known is_local p) ≡ Some (named p.name.name v)
