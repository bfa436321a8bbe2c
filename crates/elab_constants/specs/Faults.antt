-- What of several faults comes first.
use Rattle.std.specs.Prelude.{Result, Ok, Err, Option, Some, None, if◌then◌else◌}
use Rattle.elab_constants.specs.declared.fault.ConstantFault.{ConstantFault}
use Rattle.elab_constants.specs.declared.fault.ConstantFault.TheVariants as fault
use Rattle.scope_meaning.specs.Constants.{Wrong}

-- the first of two: want of memory, a name, a select, a size
abbrev pub earlier : ConstantFault → ConstantFault → ConstantFault
earlier fault.NoMemory g = fault.NoMemory
earlier fault.NotConstant fault.NoMemory = fault.NoMemory
earlier fault.NotConstant g = fault.NotConstant
earlier fault.BadSelect fault.NoMemory = fault.NoMemory
earlier fault.BadSelect fault.NotConstant = fault.NotConstant
earlier fault.BadSelect g = fault.BadSelect
earlier fault.WidthPast128 g = g

-- both values, or what hinders
abbrev pub both : {A B : Type 0} → Result A ConstantFault → Result B ConstantFault → Result (A × B) ConstantFault
both (Ok a) (Ok b) = Ok (a, b)
both (Ok a) (Err g) = Err g
both (Err f) (Ok b) = Err f
both (Err f) (Err g) = Err (earlier f g)

-- the first thing that is wrong in an expression
abbrev pub first_wrong : Wrong → Option ConstantFault
first_wrong w =
    if w.name then Some fault.NotConstant else (if w.select then Some fault.BadSelect else (if w.wide then Some fault.WidthPast128 else None))
