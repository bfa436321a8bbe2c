-- What a name stands for as a constant.
use Rattle.std.specs.Prelude.{◌≡◌, Option, Some, None}
use Rattle.source_meaning.specs.Environment.{Named, constant}
use Rattle.elab_constants.specs.declared.names.ConstantValue.{ConstantValue}

-- the constant has the size, sign and value that the name stands for; where there is none, it stands for no constant
abbrev pub IsConstant : Named → Option ConstantValue → Type 0
IsConstant (constant size signed n) (Some c) = (c.value.width ≡ size) × (c.signed ≡ signed) × (c.value.bits ≡ n)
IsConstant (constant size signed n) None = ⊥
IsConstant _ (Some c) = ⊥
IsConstant _ None = Unit {0}
