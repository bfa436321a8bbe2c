-- What a name means in a scope itself, as the code has it.
use Rattle.std.specs.Prelude.{ℕ, nat_lt, if◌then◌else◌, List, Option, Some, None}
use Rattle.std.specs.Str.{bytes_eq}
use Rattle.elab_constants.specs.declared.names.ConstantValue.{ConstantValue}
use Rattle.elab_names.specs.declared.scope_names.PassGenvar.{PassGenvar}
use Rattle.name_table.specs.Tables.{value_of}
use Rattle.flat_declared.specs.declared.declared.DeclaredKind.{DeclaredKind}
use Rattle.flat_declared.specs.declared.declared.DeclaredKind.TheVariants as kind
use Rattle.flat_scopes.specs.declared.place.PlaceInScope.{PlaceInScope}
use Rattle.flat_scopes.specs.declared.scope.NameMeaning.{NameMeaning}
use Rattle.flat_scopes.specs.declared.scope.NameMeaning.TheVariants as means
use Rattle.flat_scopes.specs.declared.scope.KnownConstant.{KnownConstant}
use Rattle.flat_scopes.specs.declared.scope.SeenScope.{SeenScope}

-- the genvar of a pass
abbrev pub genvar_said : Option PassGenvar → List ℕ → Option NameMeaning
genvar_said None name = None
genvar_said (Some g) name = if bytes_eq name g.name then Some (means.Constant g.value) else None

-- a constant among the first so many
abbrev pub visible : ℕ → Option KnownConstant → Option ConstantValue
visible known (Some c) = if nat_lt c.before known then Some c.value else None
visible known None = None

-- a constant, or what is found where there is none
abbrev pub constant_or : Option ConstantValue → Option NameMeaning → Option NameMeaning
constant_or (Some v) other = Some (means.Constant v)
constant_or None other = other

-- by what it is declared as
abbrev pub by_kind : SeenScope → PlaceInScope → List ℕ → DeclaredKind → Option NameMeaning
by_kind s at name kind.Constant = constant_or (visible at.known (value_of s.known name)) (genvar_said s.genvar name)
by_kind s at name kind.Genvar = Some means.Genvar
by_kind s at name kind.ScopeName = Some means.NoValue
by_kind s at name k = Some (means.Variable at.scope k)

abbrev pub by_declared : SeenScope → PlaceInScope → List ℕ → Option DeclaredKind → Option NameMeaning
by_declared s at name (Some k) = by_kind s at name k
by_declared s at name None = genvar_said s.genvar name

-- what a name means in the scope itself
abbrev pub said : SeenScope → PlaceInScope → List ℕ → Option NameMeaning
said s at name = by_declared s at name (value_of s.declared name)

-- where a scope says nothing, what is meant outside
abbrev pub or_outside : Option NameMeaning → Option NameMeaning → Option NameMeaning
or_outside (Some m) outer = Some m
or_outside None outer = outer
