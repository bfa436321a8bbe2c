-- When the code's scopes are those that are seen from a place (IEEE 1364-2005, 12.7).
use Rattle.std.specs.Prelude.{◌≡◌, ◌+◌, ◌<◌, ◌≤◌, ℕ, List, [], ◌∷◌, slice_get, Option, Some, None}
use Rattle.std.specs.List.{find}
use Rattle.std.specs.Str.{bytes_eq}
use Rattle.scope_meaning.specs.Constants.{Constant, option_of}
use Rattle.scope_meaning.specs.Declared.{Declared}
use Rattle.scope_meaning.specs.Scope.{Frame, Meant, a_constant, a_genvar, a_variable, no_value}
use Rattle.elab_names.specs.Frames.{IsValue, IsValueIn, IsGenvar}
use Rattle.name_table.specs.declared.table.NameTable.{NameTable}
use Rattle.std.specs.Option.{option_or}
use Rattle.name_table.specs.Tables.{value_of, only}
use Rattle.elab_constants.specs.declared.names.ConstantValue.{ConstantValue}
use Rattle.flat_declared.specs.declared.declared.DeclaredKind.{DeclaredKind}
use Rattle.flat_declared.specs.declared.declared.KindOfName.{KindOfName}
use Rattle.flat_declared.specs.Kinds.{kind_seen}
use Rattle.flat_scopes.specs.declared.place.PlaceInScope.{PlaceInScope}
use Rattle.flat_scopes.specs.declared.scope.NameMeaning.{NameMeaning}
use Rattle.flat_scopes.specs.declared.scope.NameMeaning.TheVariants as means
use Rattle.flat_scopes.specs.declared.scope.KnownConstant.{KnownConstant}
use Rattle.flat_scopes.specs.declared.scope.SeenScope.{SeenScope}
use Rattle.flat_scopes.specs.Said.{visible}

-- the table has the first kind of each of these names
abbrev pub IsTableOf : List KindOfName → NameTable DeclaredKind → Type 0
IsTableOf names table = (q : List ℕ) → value_of table q
    ≡ option_of (λ (d : KindOfName). d.kind) (find (λ (d : KindOfName). bytes_eq q d.name) names)

-- the scope is as it is seen from a place in it
pub record IsFrameAt (f : Frame) (s : SeenScope) (at : PlaceInScope) : Type 0 where
  pub number : at.scope ≡ f.number
  pub within : at.known ≤ s.count
  pub counted : (q : List ℕ) (c : KnownConstant) → value_of s.known q ≡ Some c → c.before < s.count
  pub declared : (q : List ℕ) → value_of s.declared q ≡ option_of (λ (d : Declared). kind_seen d.kind) (find (λ (d : Declared). bytes_eq q d.name) f.declared)
  pub genvar : IsGenvar f.genvar s.genvar
  pub known : (q : List ℕ) → IsValueIn (find (λ (c : Constant). bytes_eq q c.name) f.known) (visible at.known (value_of s.known q))

-- a constant behind so many
abbrev pub behind_all : ℕ → ConstantValue → KnownConstant
behind_all n value = record { before = n; value = value }

-- the scope has one more constant, of a name, behind all others
pub record HasOneMore (name : List ℕ) (value : ConstantValue) (old new : SeenScope) : Type 0 where
  pub declared : new.declared ≡ old.declared
  pub genvar : new.genvar ≡ old.genvar
  pub outer : new.outer ≡ old.outer
  pub count : new.count ≡ old.count + 1
  pub known : (q : List ℕ) → value_of new.known q ≡ option_or (value_of old.known q) (only name (behind_all old.count value) q)

-- a scope has so many constants
abbrev pub IsLast : List SeenScope → ℕ → ℕ → Type 0
IsLast scopes scope k = (s : SeenScope) → slice_get scopes scope ≡ Some s → s.count ≡ k

mutual
  -- The scopes that are seen from a place, the innermost first.
  pub data AreFramesAt (scopes : List SeenScope) : PlaceInScope → List Frame → Type 0 where
    seen_from : {at : PlaceInScope} {f : Frame} {fs : List Frame} {s : SeenScope} → slice_get scopes at.scope ≡ Some s → IsFrameAt f s at
        → AreOutside scopes at.scope s.outer fs → AreFramesAt scopes at (f ∷ fs)

  -- The scopes outside one of a number; those around it have lower numbers.
  pub data AreOutside (scopes : List SeenScope) : ℕ → Option PlaceInScope → List Frame → Type 0 where
    nothing : {n : ℕ} → AreOutside scopes n None []
    around : {n : ℕ} {at : PlaceInScope} {fs : List Frame} → at.scope < n → AreFramesAt scopes at fs → AreOutside scopes n (Some at) fs

-- what a name means in both
abbrev pub Means : Option Meant → Option NameMeaning → Type 0
Means (Some (a_constant c)) (Some (means.Constant v)) = IsValue c v
Means (Some a_genvar) (Some means.Genvar) = Unit {0}
Means (Some (a_variable n d)) (Some (means.Variable s k)) = (s ≡ n) × (k ≡ kind_seen d.kind)
Means (Some no_value) (Some means.NoValue) = Unit {0}
Means None None = Unit {0}
Means _ _ = ⊥
