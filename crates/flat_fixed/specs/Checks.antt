-- What the code says of the parts that have to be constants.
use Rattle.std.specs.Prelude.{◌≡◌, Bool, true, Result, IfOk}
use Rattle.cov_types.specs.declared.no_memory.NoMemory.{NoMemory}
use Rattle.vlog_tree.specs.declared.expression.Expr.{Expr}
use Rattle.vlog_tree.specs.declared.expression.Select.{Select, fold-Select}
use Rattle.vlog_tree.specs.declared.operator.SystemCall.{SystemCall}
use Rattle.vlog_tree.specs.declared.operator.SystemCall.TheVariants as call
use Rattle.source_meaning.specs.Environment.{Environment}
use Rattle.flat_source_meaning.specs.FixedParts.{Checked, CheckedSelect, node, part, is_constant}

-- it is said, unless memory is wanted
abbrev pub Checks : Bool → Result Bool NoMemory → Type 0
Checks p r = IfOk r (λ b. b ≡ p)

-- each part of a select that has to be a constant is one
abbrev pub select_fixed : Environment → Select → Bool
select_fixed env s = (fold-Select Checked CheckedSelect (node env) part s).fixed

-- the operand of a call is a constant where it has to be one
abbrev pub operand_is : Environment → SystemCall → Expr → Bool
operand_is env call.CeilLog2 a = is_constant env a
operand_is env _ a = true
