-- When the code's scopes are those of a place (IEEE 1364-2005, 12.7).
use Rattle.std.specs.Prelude.{◌≡◌, ℕ, List, [], ◌∷◌, ◌++◌, length, Option, Some, None}
use Rattle.std.specs.List.{find}
use Rattle.std.specs.Str.{bytes_eq}
use Rattle.scope_meaning.specs.Constants.{Constant, option_of}
use Rattle.scope_meaning.specs.Declared.{Declared}
use Rattle.scope_meaning.specs.Scope.{Frame, Meant, a_constant, a_genvar, a_variable, no_value}
use Rattle.elab_constants.specs.declared.names.ConstantValue.{ConstantValue}
use Rattle.name_table.specs.Tables.{value_of}
use Rattle.elab_names.specs.declared.scope_names.NameMeaning.{NameMeaning}
use Rattle.elab_names.specs.declared.scope_names.NameMeaning.TheVariants as means
use Rattle.elab_names.specs.declared.scope_names.PassGenvar.{PassGenvar}
use Rattle.elab_names.specs.declared.scope_names.ScopeNames.{ScopeNames}
use Rattle.elab_names.specs.DeclaredNames.{kind_seen}

-- a value is that of a constant
pub record IsValue (c : Constant) (v : ConstantValue) : Type 0 where
  pub width : v.value.width ≡ c.width
  pub signed : v.signed ≡ c.signed
  pub bits : v.value.bits ≡ c.bits

abbrev pub IsValueIn : Option Constant → Option ConstantValue → Type 0
IsValueIn (Some c) (Some v) = IsValue c v
IsValueIn None None = Unit {0}
IsValueIn (Some c) None = ⊥
IsValueIn None (Some v) = ⊥

abbrev pub IsGenvar : Option Constant → Option PassGenvar → Type 0
IsGenvar (Some c) (Some g) = (g.name ≡ c.name) × IsValue c g.value
IsGenvar None None = Unit {0}
IsGenvar (Some c) None = ⊥
IsGenvar None (Some g) = ⊥

-- the names are those of a scope as it is seen from a place
pub record IsFrame (f : Frame) (s : ScopeNames) : Type 0 where
  pub count : s.count ≡ length f.declared
  pub declared : (q : List ℕ) → value_of s.declared q ≡ option_of (λ (d : Declared). kind_seen d.kind) (find (λ (d : Declared). bytes_eq q d.name) f.declared)
  pub genvar : IsGenvar f.genvar s.genvar
  pub known : (q : List ℕ) → IsValueIn (find (λ (c : Constant). bytes_eq q c.name) f.known) (value_of s.known q)

-- The scopes that are seen from a place, the innermost first, are the code's, whose innermost is the last.
pub data AreFrames : List Frame → List ScopeNames → Type 0 where
  nothing : AreFrames [] []
  inside : {fs : List Frame} {ss : List ScopeNames} {f : Frame} {s : ScopeNames} → AreFrames fs ss → IsFrame f s → AreFrames (f ∷ fs) (ss ++ s ∷ [])

-- what a name means in both
abbrev pub Agree : Option Meant → Option NameMeaning → Type 0
Agree (Some (a_constant c)) (Some (means.Constant v)) = IsValue c v
Agree (Some a_genvar) (Some means.Genvar) = Unit {0}
Agree (Some (a_variable n d)) (Some means.Other) = Unit {0}
Agree (Some no_value) (Some means.Other) = Unit {0}
Agree None None = Unit {0}
Agree _ _ = ⊥
