-- The declared names of a scope as the code has them.
use Rattle.std.specs.Prelude.{◌≡◌, ℕ, List, map}
use Rattle.std.specs.List.{find}
use Rattle.std.specs.Str.{bytes_eq}
use Rattle.scope_meaning.specs.Declared.{Declared, DeclaredAs, constant, genvar}
use Rattle.scope_meaning.specs.Constants.{option_of}
use Rattle.elab_names.specs.declared.declared.NameKind.{NameKind}
use Rattle.elab_names.specs.declared.declared.NameKind.TheVariants as kind
use Rattle.elab_names.specs.declared.declared.DeclaredName.{DeclaredName}
use Rattle.name_table.specs.declared.table.NameTable.{NameTable}
use Rattle.name_table.specs.Tables.{value_of}

-- a kind of name, as far as values need it
abbrev pub kind_seen : DeclaredAs → NameKind
kind_seen constant = kind.Constant
kind_seen genvar = kind.Genvar
kind_seen _ = kind.Other

abbrev pub seen : Declared → DeclaredName
seen d = record { name = d.name; kind = kind_seen d.kind }

-- a generate block
abbrev pub block_seen : List ℕ → DeclaredName
block_seen name = record { name = name; kind = kind.Other }

-- the table has the first kind of each of these names
abbrev pub IsTableOf : List DeclaredName → NameTable NameKind → Type 0
IsTableOf names table = (name : List ℕ) → value_of table name
    ≡ option_of (λ (d : DeclaredName). d.kind) (find (λ (d : DeclaredName). bytes_eq name d.name) names)
