-- Parts in braces, and how many times they stand there.
use Rattle.std.specs.Prelude.{◌≡◌, ◌⊎◌, ◌≤◌, ◌+◌, ℕ, min, nat_lt, Bool, false, if◌then◌else◌, List, [], ◌∷◌, ◌++◌, map, length, Result, Ok, Err}
use Rattle.std.specs.List.{AllZip}
use Rattle.elab_types.specs.declared.flat_source.FlatVar.{FlatVar}
use Rattle.elab_types.specs.declared.flat_expression.FlatExpr.{FlatExpr}
use Rattle.design_tree.specs.declared.typed.Typed.{Typed}
use Rattle.design_tree.specs.declared.typed.Typed.TheVariants as t
use Rattle.source_meaning.specs.Meaning.{total_size}
use Rattle.flat_meaning.specs.Expressions.{meaning}
use Rattle.flat_meaning.specs.Faults.{check, all_selects, all_sizes}
use Rattle.typed_form.specs.TypedExpressions.{IsTypedAlone}
use Rattle.lower_forms.specs.declared.form.Form.TheVariants as f
use Rattle.lower_forms.specs.declared.sized.SizedForm.{SizedForm}
use Rattle.lower_nodes.specs.declared.fault.ExpressionFault.{ExpressionFault}
use Rattle.lower_nodes.specs.declared.fault.ExpressionFault.TheVariants as fault
use Rattle.lower_nodes.specs.declared.braces.Parts.{Parts}
use Rattle.lower_nodes.specs.Operators.{own, Is}
use Rattle.lower_nodes.specs.Reads.{Gives}

-- a sum of sizes, 129 standing for any more than 128
abbrev pub sum : ℕ → ℕ → ℕ
sum size more = if nat_lt 128 size then 129 else (if nat_lt 128 (size + more) then 129 else size + more)

-- one part more
pub record IsWith (before : Parts) (part : SizedForm) (after : Parts) : Type 0 where
  pub typed : after.typed ≡ before.typed ++ own part ∷ []
  pub size : after.size ≡ sum before.size part.size

-- The typed forms of some parts, and their bits together, of which there are no fewer than parts.
pub record ArePartsOf (vars : List FlatVar) (ps : List FlatExpr) (parts : Parts) : Type 0 where
  pub typed : AllZip (IsTypedAlone vars) ps parts.typed
  pub size : parts.size ≡ min (total_size (map (meaning vars) ps)) 129
  pub least : length ps ≤ total_size (map (meaning vars) ps)

-- what reading the parts of braces gives
abbrev pub Gathers : List FlatVar → List FlatExpr → Result Parts ExpressionFault → Type 0
Gathers vars ps = Gives (all_selects (map (check vars) ps)) (all_sizes (map (check vars) ps)) (ArePartsOf vars ps)

-- parts beside one another, before a last one
abbrev pub joined_onto : List Typed → Typed → Typed
joined_onto [] last = last
joined_onto (a ∷ rest) last = t.Join a (joined_onto rest last)

-- all parts beside one another
pub record AreJoinedIn (parts : Parts) (n : ℕ) (all : Typed) : Type 0 where
  pub before : List Typed
  pub last : Typed
  pub typed : parts.typed ≡ before ++ last ∷ []
  pub whole : all ≡ joined_onto before last
  pub size : n ≡ parts.size
  pub some : 1 ≤ parts.size
  pub few : parts.size ≤ 128

-- there are too many bits, or no parts
abbrev pub HaveNoJoin : Parts → Type 0
HaveNoJoin parts = (129 ≤ parts.size) ⊎ ((parts.size ≡ 0) ⊎ (parts.typed ≡ []))

abbrev pub IsJoining : Parts → Result (ℕ × Typed) ExpressionFault → Type 0
IsJoining parts (Ok (size, all)) = AreJoinedIn parts size all
IsJoining parts (Err fault.NoMemory) = Unit {0}
IsJoining parts (Err fault.BadSelect) = ⊥
IsJoining parts (Err fault.WidthPast128) = HaveNoJoin parts

-- they are a form by themselves
abbrev pub IsJoined : Parts → Result SizedForm ExpressionFault → Type 0
IsJoined parts (Ok form) = (size : ℕ) × (all : Typed) × AreJoinedIn parts size all × Is size false (f.Alone size all) form
IsJoined parts (Err fault.NoMemory) = Unit {0}
IsJoined parts (Err fault.BadSelect) = ⊥
IsJoined parts (Err fault.WidthPast128) = HaveNoJoin parts
