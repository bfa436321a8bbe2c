-- What a declaration of parameters declares, and what is wrong in it.
use Rattle.std.specs.Prelude.{◌≡◌, Bool, List, ◌++◌, map, Option, Some, None, Result, Ok, Err}
use Rattle.cov_types.specs.declared.no_memory.NoMemory.{NoMemory}
use Rattle.vlog_tree.specs.declared.item.ParamForm.{ParamForm}
use Rattle.vlog_tree.specs.declared.item.ParamName.{ParamName}
use Rattle.elab_types.specs.declared.scope.Constant.{Constant as ConstantRow}
use Rattle.scope_meaning.specs.Constants.{Names}
use Rattle.scope_meaning.specs.Heads.{names_here, constants_of, constants_from}
use Rattle.scope_meaning.specs.Scope.{Here, At, frames}
use Rattle.scope_meaning.specs.ScopeTrees.{seen_constant}
use Rattle.scope_meaning.specs.Wanted.{values_from, form_range}
use Rattle.elab_constants.specs.declared.names.ConstantValue.{ConstantValue}
use Rattle.elab_ranges.specs.declared.fault.RangeFault.{RangeFault}
use Rattle.elab_ranges.specs.declared.fault.RangeFault.TheVariants as fault
use Rattle.elab_names.specs.declared.scope_names.ScopeNames.{ScopeNames}
use Rattle.elab_names.specs.Frames.{AreFrames}
use Rattle.elab_faults.specs.Flaws.{Flaws, first_flaw, flaws_in, both_flaws, vector_flaws, earlier}
use Rattle.elab_parameters.specs.declared.found.Found.{Found}

-- the place where these constants are known too
abbrev pub knowing : At → List ConstantRow → At
knowing at cs = record at { known = at.known ++ map seen_constant cs }

-- Parameters, by a form that is read with these names before them, are read: the first flaw of their values is this one;
-- where there is none these are their constants, and they are known.
pub record AreRead (here : Here) (at : At) (before : Names) (is_local : Bool) (form : ParamForm) (ps : List ParamName) (found : Found)
    (names : List ScopeNames) : Type 0 where
  pub flaw : first_flaw (flaws_in (values_from here at before is_local form ps)) ≡ found.flaw
  pub constants : found.flaw ≡ None → constants_from here at before is_local form ps ≡ Some (map seen_constant found.constants)
  pub known : AreFrames (frames here (knowing at found.constants)) names

-- These are the constants of a declaration, and they are known behind it.
abbrev pub AreDeclared : Here → At → Bool → ParamForm → List ParamName → List ScopeNames → List ConstantRow → Type 0
AreDeclared here at is_local form ps names cs =
    (constants_of here at is_local form ps ≡ Some (map seen_constant cs)) × AreFrames (frames here (knowing at cs)) names

-- of its range and of its values
abbrev pub declaration_flaws : Here → At → Bool → ParamForm → List ParamName → Flaws
declaration_flaws here at is_local form ps =
    both_flaws (vector_flaws (names_here here at) (form_range form)) (flaws_in (values_from here at (names_here here at) is_local form ps))

-- ---- of the code

-- nothing, or what hinders one of two
abbrev pub also : Result (Unit {0}) RangeFault → Result ConstantValue RangeFault → Result (Unit {0}) RangeFault
also (Ok u) (Ok v) = Ok tt
also (Ok u) (Err g) = Err g
also (Err f) (Ok v) = Err f
also (Err f) (Err g) = Err (earlier f g)

abbrev pub or_flaw : List ConstantRow → Option RangeFault → Result (List ConstantRow) RangeFault
or_flaw cs None = Ok cs
or_flaw cs (Some f) = Err f

abbrev pub constants_found : Result Found NoMemory → Result (List ConstantRow) RangeFault
constants_found (Ok found) = or_flaw found.constants found.flaw
constants_found (Err e) = Err fault.NoMemory

abbrev pub with_values : RangeFault → Result (Unit {0}) RangeFault → RangeFault
with_values f (Ok u) = f
with_values f (Err g) = earlier f g
