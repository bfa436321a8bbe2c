-- What a name means in the code's scopes, the outermost first.
use Rattle.std.specs.Prelude.{ℕ, Bool, true, false, List, fold, Option, Some, None, if◌then◌else◌}
use Rattle.std.specs.Str.{bytes_eq}
use Rattle.source_meaning.specs.Environment.{Named, constant, unknown, Environment}
use Rattle.elab_constants.specs.declared.names.ConstantValue.{ConstantValue}
use Rattle.name_table.specs.declared.table.NameTable.{NameTable}
use Rattle.name_table.specs.Tables.{value_of}
use Rattle.elab_names.specs.declared.declared.NameKind.{NameKind}
use Rattle.elab_names.specs.declared.declared.NameKind.TheVariants as kind
use Rattle.elab_names.specs.declared.scope_names.NameMeaning.{NameMeaning}
use Rattle.elab_names.specs.declared.scope_names.NameMeaning.TheVariants as means
use Rattle.elab_names.specs.declared.scope_names.PassGenvar.{PassGenvar}
use Rattle.elab_names.specs.declared.scope_names.ScopeNames.{ScopeNames}

abbrev pub known_or : Option ConstantValue → Option NameMeaning → Option NameMeaning
known_or (Some v) outer = Some (means.Constant v)
known_or None outer = outer

abbrev pub by_kind : NameTable ConstantValue → List ℕ → Option NameMeaning → NameKind → Option NameMeaning
by_kind known name outer kind.Constant = known_or (value_of known name) outer
by_kind known name outer kind.Genvar = Some means.Genvar
by_kind known name outer kind.Other = Some means.Other

abbrev pub genvar_or : Option PassGenvar → List ℕ → Option NameMeaning → Option NameMeaning
genvar_or None name outer = outer
genvar_or (Some g) name outer = if bytes_eq name g.name then Some (means.Constant g.value) else outer

abbrev pub by_declared : NameTable ConstantValue → List ℕ → Option NameMeaning → Option NameKind → Option NameMeaning
by_declared known name outer (Some k) = by_kind known name outer k
by_declared known name outer None = outer

-- what a name means in a scope, where that is what it means outside
abbrev pub in_scope : ScopeNames → List ℕ → Option NameMeaning → Option NameMeaning
in_scope s name outer = by_declared s.known name (genvar_or s.genvar name outer) (value_of s.declared name)

-- and in scopes, each inside the one before it
abbrev pub meaning_by : List ScopeNames → List ℕ → Option NameMeaning
meaning_by scopes name = fold (λ outer s. in_scope s name outer) None scopes

-- what it stands for as a constant
abbrev pub stands : Option NameMeaning → Named
stands (Some (means.Constant v)) = constant v.value.width v.signed v.value.bits
stands _ = unknown

abbrev pub environment_by : List ScopeNames → Environment
environment_by scopes = record { scope = 0; look = λ name. stands (meaning_by scopes name) }

-- it is a genvar without a value
abbrev pub is_genvar : Option NameMeaning → Bool
is_genvar (Some means.Genvar) = true
is_genvar _ = false
