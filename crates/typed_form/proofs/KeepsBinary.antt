-- Rules by which the nodes of binary operators keep values.
use Rattle.std.proofs.Common.{◌≡◌, ◌∙◌, ap, ap₂, refl, ℕ, max, Bool, true, false, ◌&&◌, ◌||◌, ◌==◌, if◌then◌else◌, is_some, le_trans, bit_and, bit_or, bit_xor}
use Rattle.std.proofs.Math.Nat.{le-max_left, le-max_right}
use Rattle.bit_values.specs.Values as value
use Rattle.vlog_tree.specs.declared.operator.BinaryOp.{BinaryOp}
use Rattle.vlog_tree.specs.declared.operator.BinaryOp.TheVariants as binary
use Rattle.design_tree.specs.declared.operator.TypedUnary.TheVariants as one
use Rattle.design_tree.specs.declared.operator.TypedBinary.TheVariants as two
use Rattle.design_tree.specs.declared.typed.Typed.{Typed}
use Rattle.design_tree.specs.declared.typed.Typed.TheVariants as t
use Rattle.design_tree.specs.declared.typed.Typed.TheOpen as o
use Rattle.circuit_run.specs.States.{State}
use Rattle.source_meaning.specs.Meaning.{Meaning, own, holds}
use Rattle.source_meaning.specs.Operators.{binary_of, in_context, shifted, compared, chosen, quotient, remainder, below, at_most, filled_shift}
use Rattle.design_meaning.specs.Values.{Value, of_width, value_in, node_value}
use Rattle.typed_form.specs.Nodes.{widened, inverted, test, arithmetic, shift, comparison, logical}
use Rattle.typed_form.proofs.NodeValues.{in-Choose}
use Rattle.typed_form.proofs.Keeps.{Keeps, KeepsOwn, keeps_widened, unary_node, binary_node, use_two, not_none}

-- A node of two operands of one width has this value.
abbrev Gives : State → ℕ → (Typed → Typed → Typed) → (ℕ → ℕ → ℕ) → ℕ → Type 0
Gives s n node f w = (a b : Typed) (x y : ℕ) → value_in s a ≡ of_width n x → value_in s b ≡ of_width n y → value_in s (node a b) ≡ of_width w (f x y)

-- ---- arithmetic and bitwise operators

context_rule : (s : State) (n : ℕ) (by_sign : Bool) (node : Typed → Typed → Typed) (f : ℕ → Bool → ℕ → ℕ → ℕ) (a b : Typed) (p q : Meaning)
    → Gives s n node (f n by_sign) n → Keeps s n by_sign a p → Keeps s n by_sign b q → Keeps s n by_sign (node a b) (in_context f p q)
context_rule s n by_sign node f a b p q gives ka kb le =
    gives a b _ _ (ka (le_trans (le-max_left p.size q.size) le)) (kb (le_trans (le-max_right p.size q.size) le))

pub arithmetic_rule : (s : State) (op : BinaryOp) (n : ℕ) (by_sign : Bool) (a b : Typed) (p q : Meaning) → is_some (arithmetic op by_sign) ≡ true
    → Keeps s n by_sign a p → Keeps s n by_sign b q → Keeps s n by_sign (use_two (arithmetic op by_sign) a b) (binary_of op p q)
arithmetic_rule s binary.Add n by_sign a b p q h = context_rule s n by_sign (t.Binary two.Add) (λ n by_sign x y. value.add n x y) a b p q
    (λ a b x y u v. binary_node s two.Add a b n n x y u v)
arithmetic_rule s binary.Subtract n by_sign a b p q h = context_rule s n by_sign (t.Binary two.Sub) (λ n by_sign x y. value.sub n x y) a b p q
    (λ a b x y u v. binary_node s two.Sub a b n n x y u v)
arithmetic_rule s binary.Multiply n by_sign a b p q h = context_rule s n by_sign (t.Binary two.Mul) (λ n by_sign x y. value.mul n x y) a b p q
    (λ a b x y u v. binary_node s two.Mul a b n n x y u v)
arithmetic_rule s binary.Divide n true a b p q h = context_rule s n true (t.Binary two.DivideSigned) quotient a b p q
    (λ a b x y u v. binary_node s two.DivideSigned a b n n x y u v)
arithmetic_rule s binary.Divide n false a b p q h = context_rule s n false (t.Binary two.DivideUnsigned) quotient a b p q
    (λ a b x y u v. binary_node s two.DivideUnsigned a b n n x y u v)
arithmetic_rule s binary.Remainder n true a b p q h = context_rule s n true (t.Binary two.RemainderSigned) remainder a b p q
    (λ a b x y u v. binary_node s two.RemainderSigned a b n n x y u v)
arithmetic_rule s binary.Remainder n false a b p q h = context_rule s n false (t.Binary two.RemainderUnsigned) remainder a b p q
    (λ a b x y u v. binary_node s two.RemainderUnsigned a b n n x y u v)
arithmetic_rule s binary.And n by_sign a b p q h = context_rule s n by_sign (t.Binary two.And) (λ n by_sign x y. bit_and x y) a b p q
    (λ a b x y u v. binary_node s two.And a b n n x y u v)
arithmetic_rule s binary.Or n by_sign a b p q h = context_rule s n by_sign (t.Binary two.Or) (λ n by_sign x y. bit_or x y) a b p q
    (λ a b x y u v. binary_node s two.Or a b n n x y u v)
arithmetic_rule s binary.Xor n by_sign a b p q h = context_rule s n by_sign (t.Binary two.Xor) (λ n by_sign x y. bit_xor x y) a b p q
    (λ a b x y u v. binary_node s two.Xor a b n n x y u v)
arithmetic_rule s binary.TildeCaret n by_sign a b p q h =
    context_rule s n by_sign (λ a b. inverted (t.Binary two.Xor a b)) (λ n by_sign x y. value.not n (bit_xor x y)) a b p q
    (λ a b x y u v. unary_node s one.Not _ n (bit_xor x y) (binary_node s two.Xor a b n n x y u v))
arithmetic_rule s binary.CaretTilde n by_sign a b p q h =
    context_rule s n by_sign (λ a b. inverted (t.Binary two.Xor a b)) (λ n by_sign x y. value.not n (bit_xor x y)) a b p q
    (λ a b x y u v. unary_node s one.Not _ n (bit_xor x y) (binary_node s two.Xor a b n n x y u v))
arithmetic_rule s op n by_sign a b p q h = not_none h

-- ---- shifts

shifted_rule : (s : State) (n : ℕ) (by_sign : Bool) (node : Typed → Typed → Typed) (f : ℕ → Bool → ℕ → ℕ → ℕ) (a b : Typed) (p q : Meaning)
    → ((x : ℕ) → value_in s a ≡ of_width n x → value_in s (node a b) ≡ of_width n (f n by_sign x (own q s)))
    → Keeps s n by_sign a p → Keeps s n by_sign (node a b) (shifted f p q)
shifted_rule s n by_sign node f a b p q gives ka le = gives _ (ka le)

pub shift_rule : (s : State) (op : BinaryOp) (n : ℕ) (by_sign : Bool) (a b : Typed) (p q : Meaning) → is_some (shift op by_sign) ≡ true
    → Keeps s n by_sign a p → KeepsOwn s b q → Keeps s n by_sign (use_two (shift op by_sign) a b) (binary_of op p q)
shift_rule s binary.ShiftLeft n by_sign a b p q h ka kb = shifted_rule s n by_sign (t.Binary two.ShiftLeft) (λ n by_sign x by. value.shl n x by) a b p q
    (λ x u. binary_node s two.ShiftLeft a b n q.size x (own q s) u kb) ka
shift_rule s binary.ArithmeticShiftLeft n by_sign a b p q h ka kb = shifted_rule s n by_sign (t.Binary two.ShiftLeft) (λ n by_sign x by. value.shl n x by) a b p
    q (λ x u. binary_node s two.ShiftLeft a b n q.size x (own q s) u kb) ka
shift_rule s binary.ShiftRight n by_sign a b p q h ka kb = shifted_rule s n by_sign (t.Binary two.ShiftRight) (λ n by_sign x by. value.shr x by) a b p q
    (λ x u. binary_node s two.ShiftRight a b n q.size x (own q s) u kb) ka
shift_rule s binary.ArithmeticShiftRight n true a b p q h ka kb = shifted_rule s n true (t.Binary two.ShiftRightSigned) filled_shift a b p q
    (λ x u. binary_node s two.ShiftRightSigned a b n q.size x (own q s) u kb) ka
shift_rule s binary.ArithmeticShiftRight n false a b p q h ka kb = shifted_rule s n false (t.Binary two.ShiftRight) filled_shift a b p q
    (λ x u. binary_node s two.ShiftRight a b n q.size x (own q s) u kb) ka
shift_rule s op n by_sign a b p q h ka kb = not_none h

-- ---- comparisons

-- the operands' size and sign
abbrev pub both_size : Meaning → Meaning → ℕ
both_size p q = max p.size q.size

abbrev pub both_signed : Meaning → Meaning → Bool
both_signed p q = p.signed && q.signed

-- one bit, of operands of one width
pub compared_rule : (s : State) (n : ℕ) (by_sign : Bool) (node : Typed → Typed → Typed) (f : ℕ → Bool → ℕ → ℕ → ℕ) (a b : Typed) (p q : Meaning)
    → Gives s (both_size p q) node (f (both_size p q) (both_signed p q)) 1
    → Keeps s (both_size p q) (both_signed p q) a p → Keeps s (both_size p q) (both_signed p q) b q
    → Keeps s n by_sign (widened 1 n by_sign (node a b)) (compared f p q)
compared_rule s n by_sign node f a b p q gives ka kb le =
    keeps_widened s 1 n by_sign (node a b) _ (gives a b _ _ (ka (le-max_left p.size q.size)) (kb (le-max_right p.size q.size))) le

less_gives : (s : State) (m : ℕ) (both : Bool) → Gives s m (use_two (comparison binary.Less both)) (below m both) 1
less_gives s m true a b x y u v = binary_node s two.BelowSigned a b m m x y u v
less_gives s m false a b x y u v = binary_node s two.BelowUnsigned a b m m x y u v

at_most_gives : (s : State) (m : ℕ) (both : Bool) → Gives s m (use_two (comparison binary.LessOrEqual both)) (at_most m both) 1
at_most_gives s m true a b x y u v = binary_node s two.AtMostSigned a b m m x y u v
at_most_gives s m false a b x y u v = binary_node s two.AtMostUnsigned a b m m x y u v

greater_gives : (s : State) (m : ℕ) (both : Bool) → Gives s m (use_two (comparison binary.Greater both)) (λ x y. below m both y x) 1
greater_gives s m true a b x y u v = binary_node s two.BelowSigned b a m m y x v u
greater_gives s m false a b x y u v = binary_node s two.BelowUnsigned b a m m y x v u

at_least_gives : (s : State) (m : ℕ) (both : Bool) → Gives s m (use_two (comparison binary.GreaterOrEqual both)) (λ x y. at_most m both y x) 1
at_least_gives s m true a b x y u v = binary_node s two.AtMostSigned b a m m y x v u
at_least_gives s m false a b x y u v = binary_node s two.AtMostUnsigned b a m m y x v u

equal_gives : (s : State) (m : ℕ) → Gives s m (t.Binary two.Equal) (λ x y. value.equal x y) 1
equal_gives s m a b x y u v = binary_node s two.Equal a b m m x y u v

differ_gives : (s : State) (m : ℕ) → Gives s m (λ a b. inverted (t.Binary two.Equal a b)) (λ x y. value.not 1 (value.equal x y)) 1
differ_gives s m a b x y u v = unary_node s one.Not _ 1 (value.equal x y) (binary_node s two.Equal a b m m x y u v)

-- A comparison keeps its value where its operands do, at their greater size, signed where both are.
abbrev Compares : BinaryOp → Type 0
Compares op =
    (s : State) (n : ℕ) (by_sign : Bool) (a b : Typed) (p q : Meaning) → is_some (comparison op (both_signed p q)) ≡ true
    → Keeps s (both_size p q) (both_signed p q) a p → Keeps s (both_size p q) (both_signed p q) b q
    → Keeps s n by_sign (widened 1 n by_sign (use_two (comparison op (both_signed p q)) a b)) (binary_of op p q)

pub comparison_rule : (op : BinaryOp) → Compares op
comparison_rule binary.Equal s n by_sign a b p q h = compared_rule s n by_sign (t.Binary two.Equal) (λ n by_sign x y. value.equal x y) a b p q
    (equal_gives s (both_size p q))
comparison_rule binary.CaseEqual s n by_sign a b p q h = compared_rule s n by_sign (t.Binary two.Equal) (λ n by_sign x y. value.equal x y) a b p q
    (equal_gives s (both_size p q))
comparison_rule binary.NotEqual s n by_sign a b p q h = compared_rule s n by_sign (λ a b. inverted (t.Binary two.Equal a b))
    (λ n by_sign x y. value.not 1 (value.equal x y)) a b p q (differ_gives s (both_size p q))
comparison_rule binary.CaseNotEqual s n by_sign a b p q h = compared_rule s n by_sign (λ a b. inverted (t.Binary two.Equal a b))
    (λ n by_sign x y. value.not 1 (value.equal x y)) a b p q (differ_gives s (both_size p q))
comparison_rule binary.Less s n by_sign a b p q h =
    compared_rule s n by_sign (use_two (comparison binary.Less (both_signed p q))) below a b p q (less_gives s (both_size p q) (both_signed p q))
comparison_rule binary.LessOrEqual s n by_sign a b p q h =
    compared_rule s n by_sign (use_two (comparison binary.LessOrEqual (both_signed p q))) at_most a b p q (at_most_gives s (both_size p q) (both_signed p q))
comparison_rule binary.Greater s n by_sign a b p q h =
    compared_rule s n by_sign (use_two (comparison binary.Greater (both_signed p q))) (λ m both x y. below m both y x) a b p q
    (greater_gives s (both_size p q) (both_signed p q))
comparison_rule binary.GreaterOrEqual s n by_sign a b p q h =
    compared_rule s n by_sign (use_two (comparison binary.GreaterOrEqual (both_signed p q))) (λ m both x y. at_most m both y x) a b p q
    (at_least_gives s (both_size p q) (both_signed p q))
comparison_rule op s n by_sign a b p q h = not_none h

-- ---- `&&`, `||` and `?:`

pub test_node : (s : State) (a : Typed) (m : Meaning) → KeepsOwn s a m → value_in s (test a) ≡ of_width 1 (value.flag (holds m s))
test_node s a m p = unary_node s one.ReduceOr a m.size (own m s) p

and_flags : (x y : Bool) → bit_and (value.flag x) (value.flag y) ≡ value.flag (x && y)
and_flags true true = refl
and_flags true false = refl
and_flags false true = refl
and_flags false false = refl

or_flags : (x y : Bool) → bit_or (value.flag x) (value.flag y) ≡ value.flag (x || y)
or_flags true true = refl
or_flags true false = refl
or_flags false true = refl
or_flags false false = refl

pub logical_rule : (s : State) (op : BinaryOp) (n : ℕ) (by_sign : Bool) (a b : Typed) (p q : Meaning) → is_some (logical op) ≡ true
    → KeepsOwn s a p → KeepsOwn s b q → Keeps s n by_sign (widened 1 n by_sign (use_two (logical op) a b)) (binary_of op p q)
logical_rule s binary.LogicalAnd n by_sign a b p q h ka kb le =
    keeps_widened s 1 n by_sign _ _ (binary_node s two.And (test a) (test b) 1 1 _ _ (test_node s a p ka) (test_node s b q kb)
    ∙ ap (of_width 1) (and_flags (holds p s) (holds q s))) le
logical_rule s binary.LogicalOr n by_sign a b p q h ka kb le =
    keeps_widened s 1 n by_sign _ _ (binary_node s two.Or (test a) (test b) 1 1 _ _ (test_node s a p ka) (test_node s b q kb)
    ∙ ap (of_width 1) (or_flags (holds p s) (holds q s))) le
logical_rule s op n by_sign a b p q h ka kb le = not_none h

-- the node of a choice, from its test
choose_flag : (c : Bool) (n x y : ℕ) → (if value.flag c == 0 then of_width n y else of_width n x) ≡ of_width n (if c then x else y)
choose_flag true n x y = refl
choose_flag false n x y = refl

three : (s : State) (u v w u' v' w' : Value) → u ≡ u' → v ≡ v' → w ≡ w' → node_value s (o.Choose u v w) ≡ node_value s (o.Choose u' v' w')
three s u v w u' v' w' p q r = ap (λ x. node_value s (o.Choose x v w)) p ∙ ap₂ (λ x y. node_value s (o.Choose u' x y)) q r

pub choice_rule : (s : State) (n : ℕ) (by_sign : Bool) (c a b : Typed) (m p q : Meaning) → KeepsOwn s c m → Keeps s n by_sign a p → Keeps s n by_sign b q
    → Keeps s n by_sign (t.Choose (test c) a b) (chosen m p q)
choice_rule s n by_sign c a b m p q kc ka kb le =
    in-Choose s (test c) a b
    ∙ three s _ _ _ _ _ _ (test_node s c m kc) (ka (le_trans (le-max_left p.size q.size) le)) (kb (le_trans (le-max_right p.size q.size) le))
    ∙ choose_flag (holds m s) n (p.value s n by_sign) (q.value s n by_sign)
