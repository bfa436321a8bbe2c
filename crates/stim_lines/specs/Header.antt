-- The header of a stimulus: each input of the design once, in any order (docs/formats.md, "Stimulus").
use Rattle.std.specs.Prelude.{ℕ, Bool, not, List, [], ◌∷◌, ◌++◌, map, slice_get, Option, None, Some, if◌then◌else◌}
use Rattle.std.specs.Option.{option_map_or}
use Rattle.std.specs.List.{list_any, list_all}
use Rattle.std.specs.Str.{bytes_eq}
use Rattle.cov_types.specs.declared.var.Var.{Var}
use Rattle.design_tree.specs.declared.design.Design.{Design}
use Rattle.design_tree.specs.declared.design.Input as design
use Rattle.stim_lines.specs.declared.fault.StimFault.{StimFault}
use Rattle.stim_lines.specs.declared.fault.StimFault.TheVariants.{UnknownInput, RepeatedInput, MissingInput}

-- an input by its name and its width
pub record Input : Type 0 where
  pub name : List ℕ
  pub width : ℕ

-- an input of a design with the width of its variable
abbrev pub input_of : List Var → design.Input → Input
input_of vars i = record { name = i.name; width = option_map_or (λ (v : Var). v.width) (slice_get vars i.var) 0 }

-- the inputs of a design
abbrev pub inputs_of : Design → List Input
inputs_of d = map (input_of d.vars) d.inputs

-- whether a text is one of these
abbrev pub is_among : List (List ℕ) → List ℕ → Bool
is_among texts text = list_any (bytes_eq text) texts

abbrev pub names_of : List Input → List (List ℕ)
names_of inputs = map (λ (i : Input). i.name) inputs

-- what is wrong with a field behind others: it names no input, or one that an earlier field names
abbrev pub field_fault : List Input → ℕ → List (List ℕ) → List ℕ → Option StimFault
field_fault inputs n before field =
    if not (is_among (names_of inputs) field) then Some (UnknownInput n)
    else if is_among before field then Some (RepeatedInput n)
    else None

-- the first of these, or the second where there is none
abbrev pub or_else : {A : Type 0} → Option A → Option A → Option A
or_else None second = second
or_else (Some a) second = Some a

-- the fault of the leftmost wrong field
abbrev pub fields_fault : List Input → ℕ → List (List ℕ) → List (List ℕ) → Option StimFault
fields_fault inputs n before [] = None
fields_fault inputs n before (field ∷ fields) = or_else (field_fault inputs n before field) (fields_fault inputs n (before ++ field ∷ []) fields)

-- an input that no field names
abbrev pub missing_fault : List Input → ℕ → List (List ℕ) → Option StimFault
missing_fault inputs n fields = if list_all (is_among fields) (names_of inputs) then None else Some (MissingInput n)

-- what is wrong with a header
abbrev pub header_fault : List Input → ℕ → List (List ℕ) → Option StimFault
header_fault inputs n fields = or_else (fields_fault inputs n [] fields) (missing_fault inputs n fields)
