-- The typed form of an expression (this project's own): one case for each way in which expressions stand for nodes.
use Rattle.std.specs.Prelude.{◌≡◌, ℕ, suc, ◌+◌, ◌-◌, max, Bool, true, false, ◌&&◌, nat_lt, List, [], ◌∷◌, slice_get, Some, pos, ◌-ℤ◌, ◌+ℤ◌}
use Rattle.vlog_tree.specs.declared.operator.UnaryOp.{UnaryOp}
use Rattle.vlog_tree.specs.declared.operator.UnaryOp.TheVariants as unary
use Rattle.vlog_tree.specs.declared.operator.BinaryOp.{BinaryOp}
use Rattle.vlog_tree.specs.declared.operator.SystemCall.TheVariants as call
use Rattle.elab_types.specs.declared.flat_source.FlatVar.{FlatVar}
use Rattle.elab_types.specs.declared.flat_expression.FlatExpr.{FlatExpr}
use Rattle.elab_types.specs.declared.flat_expression.FlatExpr.TheVariants as e
use Rattle.elab_types.specs.declared.flat_expression.FlatSelect.{FlatSelect}
use Rattle.elab_types.specs.declared.flat_expression.FlatSelect.TheVariants as select
use Rattle.design_tree.specs.declared.operator.TypedUnary.TheVariants as one
use Rattle.design_tree.specs.declared.typed.Index.{Index, roll-Index}
use Rattle.design_tree.specs.declared.typed.Typed.{Typed}
use Rattle.design_tree.specs.declared.typed.Typed.TheVariants as t
use Rattle.source_meaning.specs.Meaning.{fixed_value, fixed_integer}
use Rattle.source_meaning.specs.Joins.{ceil_log2}
use Rattle.flat_meaning.specs.Expressions.{meaning}
use Rattle.typed_form.specs.Nodes.{widened, test, reduction, arithmetic, shift, comparison, logical}

-- a position: the number of the lowest, and how the value is read
abbrev pub index : ℕ → Bool → Typed → Index
index low signed a = roll-Index (record { low = low; signed = signed; value = a })

-- the size of an expression by itself
abbrev pub size : List FlatVar → FlatExpr → ℕ
size vars a = (meaning vars a).size

-- whether it is signed by itself
abbrev pub signed : List FlatVar → FlatExpr → Bool
signed vars a = (meaning vars a).signed

-- The number is that of this variable, a memory or not.
abbrev pub IsVariable : List FlatVar → ℕ → Bool → FlatVar → Type 0
IsVariable vars k memory v = (slice_get vars k ≡ Some v) × (v.memory ≡ memory)

mutual
  -- the typed form of an expression in a context's size and sign
  pub data IsTyped (vars : List FlatVar) : FlatExpr → ℕ → Bool → Typed → Type 0 where
    -- a number, and by it a constant and a loop variable: one `k`
    number : {w x free n : ℕ} {sg by_sign : Bool} → IsTyped vars (e.Number w sg x free) n by_sign (widened w n by_sign (t.Number w x))
    -- a variable: one `v`
    var : {k n : ℕ} {by_sign : Bool} {v : FlatVar} → IsVariable vars k false v → IsTyped vars (e.Var k) n by_sign (widened v.width n by_sign (t.Var k))
    -- a select
    selected : {n : ℕ} {by_sign : Bool} {base : FlatExpr} {s : FlatSelect} {a : Typed}
        → IsSelect vars base s a → IsTyped vars (e.Select base s) n by_sign (widened (size vars (e.Select base s)) n by_sign a)
    -- unary `+`: no node; `-` and `~`: one
    plus : {n : ℕ} {by_sign : Bool} {of : FlatExpr} {a : Typed} → IsTyped vars of n by_sign a → IsTyped vars (e.Unary unary.Plus of) n by_sign a
    minus : {n : ℕ} {by_sign : Bool} {of : FlatExpr} {a : Typed}
        → IsTyped vars of n by_sign a → IsTyped vars (e.Unary unary.Minus of) n by_sign (t.Unary one.Neg a)
    complement : {n : ℕ} {by_sign : Bool} {of : FlatExpr} {a : Typed}
        → IsTyped vars of n by_sign a → IsTyped vars (e.Unary unary.Complement of) n by_sign (t.Unary one.Not a)
    -- `!` and reductions
    reduced : {op : UnaryOp} {f : Typed → Typed} {n : ℕ} {by_sign : Bool} {of : FlatExpr} {a : Typed}
        → reduction op ≡ Some f → IsTypedAlone vars of a → IsTyped vars (e.Unary op of) n by_sign (widened 1 n by_sign (f a))
    -- arithmetic and bitwise operators
    computed : {op : BinaryOp} {f : Typed → Typed → Typed} {n : ℕ} {by_sign : Bool} {left right : FlatExpr} {a b : Typed}
        → arithmetic op by_sign ≡ Some f → IsTyped vars left n by_sign a → IsTyped vars right n by_sign b
        → IsTyped vars (e.Binary op left right) n by_sign (f a b)
    -- shifts
    shifted : {op : BinaryOp} {f : Typed → Typed → Typed} {n : ℕ} {by_sign : Bool} {left right : FlatExpr} {a b : Typed}
        → shift op by_sign ≡ Some f → IsTyped vars left n by_sign a → IsTypedAlone vars right b
        → IsTyped vars (e.Binary op left right) n by_sign (f a b)
    -- comparisons
    compared : {op : BinaryOp} {f : Typed → Typed → Typed} {n : ℕ} {by_sign : Bool} {left right : FlatExpr} {a b : Typed}
        → comparison op (signed vars left && signed vars right) ≡ Some f
        → IsTyped vars left (max (size vars left) (size vars right)) (signed vars left && signed vars right) a
        → IsTyped vars right (max (size vars left) (size vars right)) (signed vars left && signed vars right) b
        → IsTyped vars (e.Binary op left right) n by_sign (widened 1 n by_sign (f a b))
    -- `&&` and `||`
    tested : {op : BinaryOp} {f : Typed → Typed → Typed} {n : ℕ} {by_sign : Bool} {left right : FlatExpr} {a b : Typed}
        → logical op ≡ Some f → IsTypedAlone vars left a → IsTypedAlone vars right b
        → IsTyped vars (e.Binary op left right) n by_sign (widened 1 n by_sign (f a b))
    -- `?:`: one `sel`, its test inside one `ror`
    chosen : {n : ℕ} {by_sign : Bool} {on left right : FlatExpr} {c a b : Typed}
        → IsTypedAlone vars on c → IsTyped vars left n by_sign a → IsTyped vars right n by_sign b
        → IsTyped vars (e.Choose on left right) n by_sign (t.Choose (test c) a b)
    -- parts in braces
    join : {n : ℕ} {by_sign : Bool} {parts : List FlatExpr} {a : Typed}
        → AreJoined vars parts a → IsTyped vars (e.Join parts) n by_sign (widened (size vars (e.Join parts)) n by_sign a)
    -- a replication: one `rep` round the parts
    repeat : {n k : ℕ} {by_sign : Bool} (count : FlatExpr) {parts : List FlatExpr} {a : Typed}
        → fixed_integer (meaning vars count) ≡ pos (suc k) → AreJoined vars parts a
        → IsTyped vars (e.Repeat count parts) n by_sign (widened (size vars (e.Repeat count parts)) n by_sign (t.Repeat (suc k) a))
    -- `$signed` and `$unsigned`: no node
    as_signed : {n : ℕ} {by_sign : Bool} {of : FlatExpr} {a : Typed}
        → IsTypedAlone vars of a → IsTyped vars (e.Call call.Signed of) n by_sign (widened (size vars of) n by_sign a)
    as_unsigned : {n : ℕ} {by_sign : Bool} {of : FlatExpr} {a : Typed}
        → IsTypedAlone vars of a → IsTyped vars (e.Call call.Unsigned of) n by_sign (widened (size vars of) n by_sign a)
    -- `$clog2`: one `k`
    logarithm : {n : ℕ} {by_sign : Bool} (of : FlatExpr)
        → IsTyped vars (e.Call call.CeilLog2 of) n by_sign (widened 32 n by_sign (t.Number 32 (ceil_log2 (fixed_value (meaning vars of)))))

  -- the typed form of an expression at its own size and sign
  pub data IsTypedAlone (vars : List FlatVar) : FlatExpr → Typed → Type 0 where
    alone : {of : FlatExpr} {a : Typed} → IsTyped vars of (size vars of) (signed vars of) a → IsTypedAlone vars of a

  -- the typed form of a select: a word of a memory is one `m` round the index, all else one `p` round the base and the
  -- position
  pub data IsSelect (vars : List FlatVar) : FlatExpr → FlatSelect → Typed → Type 0 where
    -- a word of a memory
    word : {k : ℕ} {v : FlatVar} {i : FlatExpr} {a : Typed}
        → IsVariable vars k true v → IsTypedAlone vars i a
        → IsSelect vars (e.Var k) (select.At i) (t.Word k (index v.word_low (signed vars i) a))
    -- bits of a variable
    part : {k w : ℕ} {v : FlatVar} {s : FlatSelect} {at : Index}
        → IsVariable vars k false v → IsPosition vars v.low s w at → IsSelect vars (e.Var k) s (t.Part w (t.Var k) at)
    -- bits of a word of a memory
    word_part : {w : ℕ} (k : ℕ) {v : FlatVar} (i : FlatExpr) {s : FlatSelect} {a : Typed} {at : Index}
        → IsVariable vars k true v → IsTypedAlone vars i a → IsPosition vars v.low s w at
        → IsSelect vars (e.Select (e.Var k) (select.At i)) s (t.Part w (t.Word k (index v.word_low (signed vars i) a)) at)

  -- the width and the position of a select, where the lowest bit has a declared number
  pub data IsPosition (vars : List FlatVar) : ℕ → FlatSelect → ℕ → Index → Type 0 where
    -- `[i]`: one bit
    at : {low : ℕ} {i : FlatExpr} {a : Typed} → IsTypedAlone vars i a → IsPosition vars low (select.At i) 1 (index low (signed vars i) a)
    -- `[h:l]`: the position is one `k`
    between : {low w : ℕ} (high l : FlatExpr)
        → ((fixed_integer (meaning vars high) -ℤ fixed_integer (meaning vars l)) +ℤ pos 1) ≡ pos (suc w)
        → IsPosition vars low (select.Between high l) (suc w) (index low (signed vars l) (t.Number (size vars l) (fixed_value (meaning vars l))))
    -- `[i+:c]`: it begins at the position
    up : {low w : ℕ} {i : FlatExpr} (count : FlatExpr) {a : Typed}
        → fixed_integer (meaning vars count) ≡ pos (suc w) → IsTypedAlone vars i a
        → IsPosition vars low (select.Up i count) (suc w) (index low (signed vars i) a)
    -- `[i-:c]`: it ends at the position
    down : {low w : ℕ} {i : FlatExpr} (count : FlatExpr) {a : Typed}
        → fixed_integer (meaning vars count) ≡ pos (suc w) → IsTypedAlone vars i a
        → IsPosition vars low (select.Down i count) (suc w) (index ((low + suc w) - 1) (signed vars i) a)

  -- parts in braces: one `cat` less than parts
  pub data AreJoined (vars : List FlatVar) : List FlatExpr → Typed → Type 0 where
    last : {of : FlatExpr} {a : Typed} → IsTypedAlone vars of a → AreJoined vars (of ∷ []) a
    more : {of next : FlatExpr} {rest : List FlatExpr} {a b : Typed}
        → IsTypedAlone vars of a → AreJoined vars (next ∷ rest) b → AreJoined vars (of ∷ next ∷ rest) (t.Join a b)

-- the typed form of a right side of an assignment to so many bits: one `t` round a value wider than its target
pub data IsAssigned (vars : List FlatVar) (w : ℕ) : FlatExpr → Typed → Type 0 where
  truncated : {of : FlatExpr} {a : Typed} → nat_lt w (size vars of) ≡ true → IsTypedAlone vars of a → IsAssigned vars w of (t.Truncate w a)
  as_it_is : {of : FlatExpr} {a : Typed} → nat_lt w (size vars of) ≡ false → IsTyped vars of w (signed vars of) a → IsAssigned vars w of a
