-- A place in a scope, and what names mean there (IEEE 1364-2005, 12.7, scope rules).
use Rattle.std.specs.Prelude.{ℕ, Bool, true, false, if◌then◌else◌, List, [], ◌∷◌, Option, Some, None, ℤ}
use Rattle.std.specs.List.{find}
use Rattle.std.specs.Str.{bytes_eq}
use Rattle.bit_values.specs.Values as v
use Rattle.scope_meaning.specs.Constants.{Constant, Names}
use Rattle.source_meaning.specs.Meaning.{Meaning}
use Rattle.scope_meaning.specs.Declared.{Declared, DeclaredAs, constant, genvar, scope_name}

-- a scope as it is seen from a place in it: its number, all names that it declares, the genvar and value of its pass
-- where it is the block of a generate loop, and the constants that are declared before the place
pub record Frame : Type 0 where
  pub number : ℕ
  pub declared : List Declared
  pub genvar : Option Constant
  pub known : List Constant

-- a value that an instance gives to a parameter
pub record Given : Type 0 where
  pub name : List ℕ
  pub value : Meaning

-- A scope on the walk: its number and path, the number of its module and that of the module's scope, the modules that it
-- stands in from the top on, the values given to its parameters, its names, its genvar, and the scopes around it outward to
-- its module's, each as seen from its place.
pub record Here : Type 0 where
  pub number : ℕ
  pub path : List ℕ
  pub module_number : ℕ
  pub home : ℕ
  pub above : List (List ℕ)
  pub given : List Given
  pub declared : List Declared
  pub genvar : Option Constant
  pub outer : List Frame

-- A place between two items of a scope: the number of the next scope and of the next item, how many generate constructs
-- of the scope stand before it, and the constants and names declared before it.
pub record At : Type 0 where
  pub next : ℕ
  pub item : ℕ
  pub construct : ℕ
  pub known : List Constant
  pub earlier : List (List ℕ)

abbrev pub frames : Here → At → List Frame
frames here at =
    record { number = here.number; declared = here.declared; genvar = here.genvar; known = at.known } ∷ here.outer

-- what a name means: a constant, a genvar's value in a pass among them; a genvar that has none; a variable of a scope; or
-- something else without a value
pub data Meant : Type 0 where
  a_constant : Constant → Meant
  a_genvar : Meant
  a_variable : ℕ → Declared → Meant
  no_value : Meant

abbrev pub genvar_of : Option Constant → List ℕ → Option Meant → Option Meant
genvar_of None name outer = outer
genvar_of (Some c) name outer = if bytes_eq name c.name then Some (a_constant c) else outer

-- A constant that isn't declared yet is passed over, any other name hides what is outside at once.
abbrev pub known_or : Option Constant → Option Meant → Option Meant
known_or (Some c) outer = Some (a_constant c)
known_or None outer = outer

abbrev pub of_kind : Frame → Declared → Option Meant → DeclaredAs → Option Meant
of_kind f d outer constant = known_or (find (λ c. bytes_eq d.name c.name) f.known) outer
of_kind f d outer genvar = Some a_genvar
of_kind f d outer scope_name = Some no_value
of_kind f d outer _ = Some (a_variable f.number d)

abbrev pub in_frame : Frame → Option Declared → Option Meant → Option Meant
in_frame f None outer = outer
in_frame f (Some d) outer = of_kind f d outer d.kind

-- Names are looked up in a scope and outward to its module.
unfoldable pub meaning_of : List Frame → List ℕ → Option Meant
meaning_of [] name = None
meaning_of (f ∷ fs) name = in_frame f (find (λ d. bytes_eq name d.name) f.declared) (genvar_of f.genvar name (meaning_of fs name))

abbrev pub constant_in : Option Meant → Option Constant
constant_in (Some (a_constant c)) = Some c
constant_in _ = None

abbrev pub is_free_genvar : Option Meant → Bool
is_free_genvar (Some a_genvar) = true
is_free_genvar _ = false

-- the constants that names stand for
abbrev pub constants_at : List Frame → Names
constants_at fs name = constant_in (meaning_of fs name)

-- a value as a genvar has it: 32 bits, signed
abbrev pub genvar_constant : List ℕ → ℤ → Constant
genvar_constant name n = record { name = name; width = 32; signed = true; bits = v.modulo 32 n }

-- the same scopes seen from a head of a generate loop, where the name has a value if it means a genvar that has none
abbrev pub with_genvar : List ℕ → ℤ → List Frame → List Frame
with_genvar name n fs =
    if is_free_genvar (meaning_of fs name)
    then record { number = 0; declared = []; genvar = Some (genvar_constant name n); known = [] } ∷ fs
    else fs
