-- What expressions of a flat source are beside their form: each variable is there, each number has room in its size, a select is
-- of a variable or of a select of one, braces aren't empty, and constants stand where they have to (IEEE 1364-2005, 5).
use Rattle.std.specs.Prelude.{ℕ, ◌+◌, ◌^◌, nat_le, nat_lt, Bool, true, false, ◌&&◌, List, [], ◌∷◌, Option, Some, None, slice_get}
use Rattle.std.specs.List.{list_all}
use Rattle.vlog_tree.specs.declared.operator.SystemCall.{SystemCall}
use Rattle.vlog_tree.specs.declared.operator.SystemCall.TheVariants as call
use Rattle.elab_types.specs.declared.flat_source.FlatVar.{FlatVar}
use Rattle.elab_types.specs.declared.flat_expression.FlatExpr.{FlatExpr, FlatExpr-F, para-FlatExpr, out-FlatExpr}
use Rattle.elab_types.specs.declared.flat_expression.FlatExpr.TheOpen as x
use Rattle.elab_types.specs.declared.flat_expression.FlatSelect.{FlatSelect}
use Rattle.lower_meaning.specs.Constants.{is_right}

-- a variable has at least one bit, and the numbers of its bits have room
abbrev pub is_sound_var : Option FlatVar → Bool
is_sound_var (Some v) = nat_le 1 v.width && nat_lt (v.low + 127) (2 ^ 32)
is_sound_var None = false

-- a number has at least one bit, and room for its value
abbrev pub is_sound_number : ℕ → ℕ → Bool
is_sound_number w n = nat_le 1 w && nat_lt n (2 ^ w)

-- there is some of them
abbrev pub has_some : {A : Type 0} → List A → Bool
has_some [] = false
has_some (a ∷ rest) = true

-- a variable
abbrev pub is_var_layer : FlatExpr-F FlatExpr FlatSelect → Bool
is_var_layer (x.Var k) = true
is_var_layer _ = false

-- a variable, or a select of one
abbrev pub is_base_layer : FlatExpr-F FlatExpr FlatSelect → Bool
is_base_layer (x.Var k) = true
is_base_layer (x.Select base s) = is_var_layer (out-FlatExpr base)
is_base_layer _ = false

-- what may have a part selected
abbrev pub is_base : FlatExpr → Bool
is_base a = is_base_layer (out-FlatExpr a)

-- the operand of `$clog2` has to be a constant; any other is sound by itself
abbrev pub is_sound_operand : SystemCall → FlatExpr → Bool → Bool
is_sound_operand call.CeilLog2 a sound = is_right a && sound
is_sound_operand _ a sound = sound

-- one node, from its operands and whether each is sound
abbrev pub sound_node : List FlatVar → FlatExpr-F (FlatExpr × Bool) (FlatSelect × Bool) → Bool
sound_node vars (x.Number w signed n free) = is_sound_number w n
sound_node vars (x.Var k) = is_sound_var (slice_get vars k)
sound_node vars (x.Select base s) = is_base base.0 && base.1 && s.1
sound_node vars (x.Unary op a) = a.1
sound_node vars (x.Binary op a b) = a.1 && b.1
sound_node vars (x.Choose test a b) = test.1 && a.1 && b.1
sound_node vars (x.Join parts) = has_some parts && list_all (λ p. p.1) parts
sound_node vars (x.Repeat count parts) = is_right count.0 && has_some parts && list_all (λ p. p.1) parts
sound_node vars (x.Call f a) = is_sound_operand f a.0 a.1

-- the same of a select: bounds and widths are constants
abbrev pub sound_part : x.FlatSelect-F (FlatExpr × Bool) (FlatSelect × Bool) → Bool
sound_part (x.At i) = i.1
sound_part (x.Between high low) = is_right high.0 && is_right low.0
sound_part (x.Up i count) = i.1 && is_right count.0
sound_part (x.Down i count) = i.1 && is_right count.0

-- an expression is sound
abbrev pub is_sound : List FlatVar → FlatExpr → Bool
is_sound vars = para-FlatExpr Bool Bool (sound_node vars) sound_part
