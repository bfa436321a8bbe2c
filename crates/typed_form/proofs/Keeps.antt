-- Rules by which nodes keep values.
use Rattle.std.proofs.Common.{◌≡◌, ◌∙◌, sym, ap, ap₂, refl, ℕ, ◌≤◌, Bool, true, false, if◌then◌else◌, nat_lt, Option, Some, None, is_some, true≢false}
use Rattle.std.proofs.Common.{ltb-false, le_antisymm}
use Rattle.bit_values.specs.Values as value
use Rattle.vlog_tree.specs.declared.operator.UnaryOp.{UnaryOp}
use Rattle.vlog_tree.specs.declared.operator.UnaryOp.TheVariants as unary
use Rattle.design_tree.specs.declared.operator.TypedUnary.{TypedUnary}
use Rattle.design_tree.specs.declared.operator.TypedUnary.TheVariants as one
use Rattle.design_tree.specs.declared.operator.TypedBinary.{TypedBinary}
use Rattle.design_tree.specs.declared.typed.Typed.{Typed}
use Rattle.design_tree.specs.declared.typed.Typed.TheVariants as t
use Rattle.design_tree.specs.declared.typed.Typed.TheOpen as o
use Rattle.circuit_run.specs.States.{State}
use Rattle.source_meaning.specs.Meaning.{Meaning, in_size, by_itself, own}
use Rattle.source_meaning.specs.Operators.{unary_of}
use Rattle.design_meaning.specs.Values.{of_width, value_in, node_value, unary_value, binary_value}
use Rattle.typed_form.specs.Nodes.{widened, inverted, reduction}
use Rattle.typed_form.proofs.NodeValues.{in-ZeroExtend, in-SignExtend, in-Unary, in-Binary}

-- In a state the node has the meaning's value at a size and sign of a context that holds it.
abbrev pub Keeps : State → ℕ → Bool → Typed → Meaning → Type 0
Keeps s n by_sign a m = m.size ≤ n → value_in s a ≡ of_width n (m.value s n by_sign)

-- at its own size and sign
abbrev pub KeepsOwn : State → Typed → Meaning → Type 0
KeepsOwn s a m = value_in s a ≡ of_width m.size (own m s)

-- ---- extension

in_if : (s : State) (c : Bool) (a b : Typed) (n x y : ℕ) → value_in s a ≡ of_width n x → (c ≡ false → value_in s b ≡ of_width n y)
    → value_in s (if c then a else b) ≡ of_width n (if c then x else y)
in_if s true a b n x y p q = p
in_if s false a b n x y p q = q refl

same_size : (size n : ℕ) → size ≤ n → nat_lt size n ≡ false → size ≡ n
same_size size n le h = le_antisymm le (ltb-false size n h)

pub keeps_widened : (s : State) (size n : ℕ) (by_sign : Bool) (a : Typed) (x : ℕ) → value_in s a ≡ of_width size x → size ≤ n
    → value_in s (widened size n by_sign a) ≡ of_width n (in_size size n by_sign x)
keeps_widened s size n true a x p le =
    in_if s (nat_lt size n) (t.SignExtend n a) a n (value.extend size n true x) x (in-SignExtend s n a ∙ ap (λ v. node_value s (o.SignExtend n v)) p)
    (λ h. p ∙ ap (λ w. of_width w x) (same_size size n le h))
keeps_widened s size n false a x p le =
    in_if s (nat_lt size n) (t.ZeroExtend n a) a n (value.extend size n false x) x (in-ZeroExtend s n a ∙ ap (λ v. node_value s (o.ZeroExtend n v)) p)
    (λ h. p ∙ ap (λ w. of_width w x) (same_size size n le h))

-- what is valued by itself
pub keeps_itself : (s : State) (size n : ℕ) (signed constant by_sign : Bool) (f : State → ℕ) (a : Typed) → value_in s a ≡ of_width size (f s)
    → Keeps s n by_sign (widened size n by_sign a) (by_itself size signed constant f)
keeps_itself s size n signed constant by_sign f a p le = keeps_widened s size n by_sign a (f s) p le

-- ---- nodes

pub unary_node : (s : State) (op : TypedUnary) (a : Typed) (w x : ℕ) → value_in s a ≡ of_width w x → value_in s (t.Unary op a) ≡ unary_value op (of_width w x)
unary_node s op a w x p = in-Unary s op a ∙ ap (unary_value op) p

pub binary_node : (s : State) (op : TypedBinary) (a b : Typed) (v w x y : ℕ) → value_in s a ≡ of_width v x → value_in s b ≡ of_width w y
    → value_in s (t.Binary op a b) ≡ binary_value op (of_width v x) (of_width w y)
binary_node s op a b v w x y p q = in-Binary s op a b ∙ ap₂ (binary_value op) p q

-- what the rules take from a table
abbrev pub use_one : Option (Typed → Typed) → Typed → Typed
use_one (Some f) a = f a
use_one None a = a

abbrev pub use_two : Option (Typed → Typed → Typed) → Typed → Typed → Typed
use_two (Some f) a b = f a b
use_two None a b = a

pub not_none : {A : Type 0} → false ≡ true → A
not_none h = absurd (true≢false (sym h))

-- ---- `!` and reductions

inverted_node : (s : State) (a : Typed) (x : ℕ) → value_in s a ≡ of_width 1 x → value_in s (inverted a) ≡ of_width 1 (value.not 1 x)
inverted_node s a x p = unary_node s one.Not a 1 x p

pub reduction_rule : (s : State) (op : UnaryOp) (n : ℕ) (by_sign : Bool) (a : Typed) (m : Meaning) → is_some (reduction op) ≡ true → KeepsOwn s a m
    → Keeps s n by_sign (widened 1 n by_sign (use_one (reduction op) a)) (unary_of op m)
reduction_rule s unary.LogicalNot n by_sign a m h p le = keeps_widened s 1 n by_sign _ _ (inverted_node s _ _ (unary_node s one.ReduceOr a m.size (own m s) p))
    le
reduction_rule s unary.ReduceAnd n by_sign a m h p le = keeps_widened s 1 n by_sign _ _ (unary_node s one.ReduceAnd a m.size (own m s) p) le
reduction_rule s unary.ReduceNand n by_sign a m h p le = keeps_widened s 1 n by_sign _ _ (inverted_node s _ _ (unary_node s one.ReduceAnd a m.size (own m s) p))
    le
reduction_rule s unary.ReduceOr n by_sign a m h p le = keeps_widened s 1 n by_sign _ _ (unary_node s one.ReduceOr a m.size (own m s) p) le
reduction_rule s unary.ReduceNor n by_sign a m h p le = keeps_widened s 1 n by_sign _ _ (inverted_node s _ _ (unary_node s one.ReduceOr a m.size (own m s) p))
    le
reduction_rule s unary.ReduceXor n by_sign a m h p le = keeps_widened s 1 n by_sign _ _ (unary_node s one.ReduceXor a m.size (own m s) p) le
reduction_rule s unary.ReduceTildeCaret n by_sign a m h p le = keeps_widened s 1 n by_sign _ _
    (inverted_node s _ _ (unary_node s one.ReduceXor a m.size (own m s) p)) le
reduction_rule s unary.ReduceCaretTilde n by_sign a m h p le = keeps_widened s 1 n by_sign _ _
    (inverted_node s _ _ (unary_node s one.ReduceXor a m.size (own m s) p)) le
reduction_rule s unary.Plus n by_sign a m h p le = not_none h
reduction_rule s unary.Minus n by_sign a m h p le = not_none h
reduction_rule s unary.Complement n by_sign a m h p le = not_none h
