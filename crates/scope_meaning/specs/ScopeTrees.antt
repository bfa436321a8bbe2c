-- The scope tree of a design, or why it has none (IEEE 1364-2005, 12; docs/formats.md, "Refusals of a design").
use Rattle.std.specs.Prelude.{◌≡◌, ◌==◌, ℕ, Bool, true, if◌then◌else◌, List, [], ◌∷◌, ◌++◌, map, Option, Some, None, Result, Ok, Err, slice_get}
use Rattle.std.specs.List.{flat_map, filter, filter_map, AllZip}
use Rattle.cov_types.specs.declared.place.Place.{Place}
use Rattle.vlog_tree.specs.declared.module.Module.{Module}
use Rattle.vlog_tree.specs.declared.module.SourceFile.{SourceFile}
use Rattle.elab_types.specs.declared.scope.Constant.{Constant as ConstantRow}
use Rattle.elab_types.specs.declared.scope.Scope.{Scope}
use Rattle.elab_types.specs.declared.scope.ScopeItem.{ScopeItem}
use Rattle.elab_types.specs.declared.scope.ScopeTree.{ScopeTree}
use Rattle.elab_types.specs.declared.elab_fault.ElabFault.{ElabFault}
use Rattle.elab_types.specs.declared.elab_fault.ElabFault.TheVariants as fault
use Rattle.scope_meaning.specs.Constants.{Constant}
use Rattle.scope_meaning.specs.Declared.{is_in}
use Rattle.scope_meaning.specs.Overrides.{parameters}
use Rattle.scope_meaning.specs.BlockNames.{module_text}
use Rattle.scope_meaning.specs.Heads.{module_named}
use Rattle.scope_meaning.specs.Visits.{Visits, Visit, Entry, enters, has_constant, has_row}
use Rattle.scope_meaning.specs.Walk.{IsModule}
use Rattle.scope_meaning.specs.ScopeRules.{Refuses, refusal}

abbrev pub Files : Type 0
Files = List SourceFile

-- all modules, in the order of the files
abbrev pub modules : Files → List Module
modules files = flat_map (λ file. file.modules) files

-- ---- before all else

-- the place of the first module whose name stands before it
unfoldable pub second_name : List (List ℕ) → List Module → Option Place
second_name before [] = None
second_name before (m ∷ ms) = if is_in m.name before then Some m.place else second_name (m.name ∷ before) ms

-- a module name stands twice, or no module has the top's name
abbrev pub top_fault : Option Place → Option (ℕ × Module) → Option ElabFault
top_fault (Some p) found = Some (fault.Duplicate p)
top_fault None None = Some (fault.NoTop (record { file = 0; line = 1; column = 1 }))
top_fault None (Some m) = None

abbrev pub early_fault : List Module → List ℕ → Option ElabFault
early_fault design top = top_fault (second_name [] design) (module_named design top)

-- ---- the walk

-- a walk through the design, from its top module on
pub record IsWalkOf (design : List Module) (top : List ℕ) (vs : Visits) (whole : Bool) : Type 0 where
  pub number : ℕ
  pub top_module : Module
  pub next : ℕ
  pub found : module_named design top ≡ Some (number, top_module)
  pub walked : IsModule design 0 None top [] [] number top_module vs next whole

-- ---- the tree: what the walk has, scope by scope

abbrev pub entry_of : Visit → Option Entry
entry_of (enters e) = Some e
entry_of _ = None

abbrev pub constant_of : ℕ → Visit → Option Constant
constant_of n (has_constant k c) = if n == k then Some c else None
constant_of n _ = None

abbrev pub row_of : ℕ → Visit → Option ScopeItem
row_of n (has_row k item inner) = if n == k then Some (record { item = item; scope = inner }) else None
row_of n _ = None

abbrev pub constants_in : ℕ → Visits → List Constant
constants_in n vs = filter_map (constant_of n) vs

abbrev pub seen_constant : ConstantRow → Constant
seen_constant c = record { name = c.name; width = c.value.width; signed = c.signed; bits = c.value.bits }

-- The module's name with its parameters, those of its localparams left out.
abbrev pub text_of : Option Module → List Constant → List ℕ
text_of (Some m) cs = module_text m.name (filter (λ c. is_in c.name (parameters m)) cs)
text_of None cs = []

pub record IsScopeRow (design : List Module) (vs : Visits) (e : Entry) (row : Scope) : Type 0 where
  pub path : row.path ≡ e.path
  pub its_module : row.«module» ≡ e.module_number
  pub text : row.module_text ≡ text_of (slice_get design e.module_number) (constants_in e.home vs)
  pub parent : row.parent ≡ e.parent
  pub constants : map seen_constant row.constants ≡ constants_in e.number vs
  pub items : row.items ≡ filter_map (row_of e.number) vs

-- Nothing comes before all else, the walk is whole, nothing is refused in it, and the tree has its scopes in its order.
pub record IsTreeOf (files : Files) (top : List ℕ) (tree : ScopeTree) : Type 0 where
  pub early : early_fault (modules files) top ≡ None
  pub vs : Visits
  pub walk : IsWalkOf (modules files) top vs true
  pub calm : map (refusal (modules files)) vs ≡ map (λ v. None) vs
  pub rows : AllZip (IsScopeRow (modules files) vs) (filter_map entry_of vs) tree.scopes

-- ---- why there is none

-- The fault is one that holds somewhere on the walk.
pub record IsSomeRefusal (design : List Module) (top : List ℕ) (found : ElabFault) : Type 0 where
  pub before : Visits
  pub at : Visit
  pub after : Visits
  pub whole : Bool
  pub walk : IsWalkOf design top (before ++ at ∷ after) whole
  pub refused : Refuses design at found

-- The fault is that of the first place of the walk that has one.
pub record IsFirstRefusal (design : List Module) (top : List ℕ) (found : ElabFault) : Type 0 where
  pub before : Visits
  pub at : Visit
  pub after : Visits
  pub whole : Bool
  pub walk : IsWalkOf design top (before ++ at ∷ after) whole
  pub calm : map (refusal design) before ≡ map (λ v. None) before
  pub refused : refusal design at ≡ Some found

abbrev pub later_or : Type 0 → ElabFault → Option ElabFault → Type 0
later_or later found (Some early) = found ≡ early
later_or later found None = later

-- Why there is no tree: what comes before all else, or some refusal on the walk; and exactly, the first one.
abbrev pub IsSomeFault : Files → List ℕ → ElabFault → Type 0
IsSomeFault files top found = later_or (IsSomeRefusal (modules files) top found) found (early_fault (modules files) top)

abbrev pub IsFirstFault : Files → List ℕ → ElabFault → Type 0
IsFirstFault files top found = later_or (IsFirstRefusal (modules files) top found) found (early_fault (modules files) top)

-- What finding the scopes gives: the tree, or the first fault; want of memory aside.
abbrev pub GivesScopes : Files → List ℕ → Result ScopeTree ElabFault → Type 0
GivesScopes files top (Ok tree) = IsTreeOf files top tree
GivesScopes files top (Err fault.NoMemory) = Unit {0}
GivesScopes files top (Err found) = IsFirstFault files top found

-- Laws. Every walk is a front of the whole one; so a design has no tree where something refuses it, and one first fault.
abbrev pub WalksAgree : Type 0
WalksAgree = (design : List Module) (top : List ℕ) (vs ws : Visits) (whole : Bool)
    → IsWalkOf design top vs true → IsWalkOf design top ws whole → (rest : Visits) × (vs ≡ ws ++ rest)

abbrev pub TreeExcludesFault : Type 0
TreeExcludesFault = (files : Files) (top : List ℕ) (tree : ScopeTree) (found : ElabFault)
    → IsTreeOf files top tree → IsSomeFault files top found → ⊥

abbrev pub OneFirstFault : Type 0
OneFirstFault = (files : Files) (top : List ℕ) (found other : ElabFault) → IsFirstFault files top found → IsFirstFault files top other → found ≡ other
