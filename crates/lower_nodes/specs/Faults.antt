-- What of several faults comes first.
use Rattle.std.specs.Prelude.{Result, Ok, Err}
use Rattle.std.specs.declared.alloc.AllocError.{AllocError}
use Rattle.lower_nodes.specs.declared.fault.ExpressionFault.{ExpressionFault}
use Rattle.lower_nodes.specs.declared.fault.ExpressionFault.TheVariants as fault

-- the first of two: want of memory, a select, a size
abbrev pub earlier : ExpressionFault → ExpressionFault → ExpressionFault
earlier fault.NoMemory g = fault.NoMemory
earlier fault.BadSelect fault.NoMemory = fault.NoMemory
earlier fault.BadSelect g = fault.BadSelect
earlier fault.WidthPast128 g = g

-- both values, or what hinders
abbrev pub both : {A B : Type 0} → Result A ExpressionFault → Result B ExpressionFault → Result (A × B) ExpressionFault
both (Ok a) (Ok b) = Ok (a, b)
both (Ok a) (Err g) = Err g
both (Err f) (Ok b) = Err f
both (Err f) (Err g) = Err (earlier f g)

-- what was made, or want of memory
abbrev pub kept : {A : Type 0} → Result A AllocError → Result A ExpressionFault
kept (Ok a) = Ok a
kept (Err f) = Err fault.NoMemory
