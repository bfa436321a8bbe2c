-- The value of a typed expression, by its parts.
use Rattle.std.proofs.Common.{◌≡◌, ◌∙◌, sym, ap, ℕ, Bool, ℤ}
use Rattle.design_tree.specs.declared.operator.TypedUnary.{TypedUnary}
use Rattle.design_tree.specs.declared.operator.TypedBinary.{TypedBinary}
use Rattle.design_tree.specs.declared.typed.Index.{Index, roll-Index, fold-roll-Index}
use Rattle.design_tree.specs.declared.typed.Typed.{Typed, fold-roll-Typed}
use Rattle.design_tree.specs.declared.typed.Typed.TheVariants as e
use Rattle.design_tree.specs.declared.typed.Typed.TheOpen as t
use Rattle.circuit_run.specs.States.{State}
use Rattle.design_meaning.specs.Values.{Value, value_in, position_in, position, node_value, index_position}

pub in-Number : (s : State) (w n : ℕ) → value_in s (e.Number w n) ≡ node_value s (t.Number w n)
in-Number s w n = ap (value_in s) (sym (e.rolls-Number w n)) ∙ fold-roll-Typed Value ℤ (node_value s) index_position (t.Number w n)

pub in-Var : (s : State) (v : ℕ) → value_in s (e.Var v) ≡ node_value s (t.Var v)
in-Var s v = ap (value_in s) (sym (e.rolls-Var v)) ∙ fold-roll-Typed Value ℤ (node_value s) index_position (t.Var v)

pub in-Word : (s : State) (v : ℕ) (at : Index) → value_in s (e.Word v at) ≡ node_value s (t.Word v (position_in s at))
in-Word s v at = ap (value_in s) (sym (e.rolls-Word v at)) ∙ fold-roll-Typed Value ℤ (node_value s) index_position (t.Word v at)

pub in-Part : (s : State) (w : ℕ) (of : Typed) (at : Index) → value_in s (e.Part w of at) ≡ node_value s (t.Part w (value_in s of) (position_in s at))
in-Part s w of at = ap (value_in s) (sym (e.rolls-Part w of at)) ∙ fold-roll-Typed Value ℤ (node_value s) index_position (t.Part w of at)

pub in-ZeroExtend : (s : State) (w : ℕ) (of : Typed) → value_in s (e.ZeroExtend w of) ≡ node_value s (t.ZeroExtend w (value_in s of))
in-ZeroExtend s w of = ap (value_in s) (sym (e.rolls-ZeroExtend w of)) ∙ fold-roll-Typed Value ℤ (node_value s) index_position (t.ZeroExtend w of)

pub in-SignExtend : (s : State) (w : ℕ) (of : Typed) → value_in s (e.SignExtend w of) ≡ node_value s (t.SignExtend w (value_in s of))
in-SignExtend s w of = ap (value_in s) (sym (e.rolls-SignExtend w of)) ∙ fold-roll-Typed Value ℤ (node_value s) index_position (t.SignExtend w of)

pub in-Truncate : (s : State) (w : ℕ) (of : Typed) → value_in s (e.Truncate w of) ≡ node_value s (t.Truncate w (value_in s of))
in-Truncate s w of = ap (value_in s) (sym (e.rolls-Truncate w of)) ∙ fold-roll-Typed Value ℤ (node_value s) index_position (t.Truncate w of)

pub in-Unary : (s : State) (op : TypedUnary) (of : Typed) → value_in s (e.Unary op of) ≡ node_value s (t.Unary op (value_in s of))
in-Unary s op of = ap (value_in s) (sym (e.rolls-Unary op of)) ∙ fold-roll-Typed Value ℤ (node_value s) index_position (t.Unary op of)

pub in-Binary : (s : State) (op : TypedBinary) (a b : Typed) → value_in s (e.Binary op a b) ≡ node_value s (t.Binary op (value_in s a) (value_in s b))
in-Binary s op a b = ap (value_in s) (sym (e.rolls-Binary op a b)) ∙ fold-roll-Typed Value ℤ (node_value s) index_position (t.Binary op a b)

pub in-Join : (s : State) (a b : Typed) → value_in s (e.Join a b) ≡ node_value s (t.Join (value_in s a) (value_in s b))
in-Join s a b = ap (value_in s) (sym (e.rolls-Join a b)) ∙ fold-roll-Typed Value ℤ (node_value s) index_position (t.Join a b)

pub in-Repeat : (s : State) (n : ℕ) (of : Typed) → value_in s (e.Repeat n of) ≡ node_value s (t.Repeat n (value_in s of))
in-Repeat s n of = ap (value_in s) (sym (e.rolls-Repeat n of)) ∙ fold-roll-Typed Value ℤ (node_value s) index_position (t.Repeat n of)

pub in-Choose : (s : State) (a b c : Typed) → value_in s (e.Choose a b c) ≡ node_value s (t.Choose (value_in s a) (value_in s b) (value_in s c))
in-Choose s a b c = ap (value_in s) (sym (e.rolls-Choose a b c)) ∙ fold-roll-Typed Value ℤ (node_value s) index_position (t.Choose a b c)

pub at-Index : (s : State) (low : ℕ) (signed : Bool) (of : Typed)
    → position_in s (roll-Index (record { low = low; signed = signed; value = of })) ≡ position low signed (value_in s of)
at-Index s low signed of = fold-roll-Index Value ℤ (node_value s) index_position (record { low = low; signed = signed; value = of })
