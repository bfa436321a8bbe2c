-- The declared names of a scope as the code has them, each with what it is declared as.
use Rattle.std.specs.Prelude.{ℕ, List}
use Rattle.scope_meaning.specs.Declared.{Declared, DeclaredAs, input, output_wire, output_reg, wire, reg, integer, constant, genvar, scope_name}
use Rattle.flat_declared.specs.declared.declared.DeclaredKind.{DeclaredKind}
use Rattle.flat_declared.specs.declared.declared.DeclaredKind.TheVariants as kind
use Rattle.flat_declared.specs.declared.declared.KindOfName.{KindOfName}

-- what a name is declared as
abbrev pub kind_seen : DeclaredAs → DeclaredKind
kind_seen input = kind.Input
kind_seen output_wire = kind.OutputWire
kind_seen output_reg = kind.OutputReg
kind_seen wire = kind.Wire
kind_seen reg = kind.Reg
kind_seen integer = kind.Integer
kind_seen constant = kind.Constant
kind_seen genvar = kind.Genvar
kind_seen scope_name = kind.ScopeName

abbrev pub seen : Declared → KindOfName
seen d = record { name = d.name; kind = kind_seen d.kind }

-- a generate block
abbrev pub block_seen : List ℕ → KindOfName
block_seen name = record { name = name; kind = kind.ScopeName }
