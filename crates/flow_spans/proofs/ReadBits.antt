-- The bits that expressions read, and whether they are constant: one equation a variant, in the order of the code.
use Rattle.std.proofs.Common.{◌≡◌, ◌∙◌, sym, ap, refl, ℕ, Bool, true, false, ◌||◌, Option, Some, None, List, [], ◌++◌}
use Rattle.std.specs.Prelude.{ℤ, pos, if◌then◌else◌, is_some}
use Rattle.design_tree.specs.declared.operator.TypedUnary.{TypedUnary}
use Rattle.design_tree.specs.declared.operator.TypedBinary.{TypedBinary}
use Rattle.design_tree.specs.declared.typed.Index.{Index}
use Rattle.design_tree.specs.declared.typed.Typed.{Typed}
use Rattle.design_tree.specs.declared.typed.Typed.TheVariants as e
use Rattle.circuit_run.specs.States.{State, Bit}
use Rattle.design_meaning.specs.Values.{position_in}
use Rattle.design_meaning.specs.Spans.{
  Span,
  Reading,
  is_in,
  is_in_any,
  is_constant,
  constant_position,
  places_from,
  reads_of_index,
  node_reads,
  index_reads,
  node_constant,
  index_constant,
}
use Rattle.design_meaning.proofs.TypedFolds as typed
use Rattle.design_meaning.proofs.Equations as equation
use Rattle.design_meaning.proofs.Constants.{same_position}
use Rattle.design_meaning.proofs.ListLaws.{any_append, or_false}
use Rattle.design_state.specs.declared.position.Position.{Position}
use Rattle.design_state.specs.Positions.{offset}
use Rattle.flow_spans.specs.Asked.{reads_asked, constant}
use Rattle.flow_spans.specs.Clips.{word_asked}

or_comm : (a b : Bool) → (a || b) ≡ (b || a)
or_comm true true = refl
or_comm true false = refl
or_comm false true = refl
or_comm false false = refl

-- ---- bits

pub number_bits : (w n : ℕ) (asked : Option (ℤ × ℕ)) (b : Bit) → is_in_any b (reads_asked (e.Number w n) asked) ≡ false
number_bits w n asked b = ap (is_in_any b) (equation.reads-Number w n asked)

pub var_bits : (v : ℕ) (asked : Option (ℤ × ℕ)) (b : Bit) → is_in b (record { var = v; word = Some (pos 0); places = asked }) ≡ is_in_any b (reads_asked
    (e.Var v) asked)
var_bits v asked b = sym (ap (is_in_any b) (equation.reads-Var v asked) ∙ or_false (is_in b (record { var = v; word = Some (pos 0); places = asked })))

pub word_bits : (v : ℕ) (at : Index) (asked : Option (ℤ × ℕ)) (b : Bit)
    → (is_in_any b (reads_of_index at) || is_in b (record { var = v; word = constant_position at; places = asked })) ≡ is_in_any b (reads_asked (e.Word v
    at) asked)
word_bits v at asked b =
    or_comm (is_in_any b (reads_of_index at)) (is_in b (record { var = v; word = constant_position at; places = asked }))
    ∙ sym (ap (is_in_any b) (equation.reads-Word v at asked))

pub part_bits : (w : ℕ) (of : Typed) (at : Index) (asked : Option (ℤ × ℕ)) (b : Bit)
    → (is_in_any b (reads_of_index at) || is_in_any b (reads_asked of (places_from (constant_position at) w))) ≡ is_in_any b (reads_asked (e.Part w of at)
    asked)
part_bits w of at asked b =
    or_comm (is_in_any b (reads_of_index at)) (is_in_any b (reads_asked of (places_from (constant_position at) w)))
    ∙ sym (ap (is_in_any b) (equation.reads-Part w of at asked) ∙ any_append (is_in b) (reads_asked of (places_from (constant_position at) w))
    (reads_of_index at))

pub zero_bits : (w : ℕ) (of : Typed) (asked : Option (ℤ × ℕ)) (b : Bit) → is_in_any b (reads_asked of None) ≡ is_in_any b (reads_asked (e.ZeroExtend w of)
    asked)
zero_bits w of asked b = sym (ap (is_in_any b) (equation.reads-ZeroExtend w of asked))

pub sign_bits : (w : ℕ) (of : Typed) (asked : Option (ℤ × ℕ)) (b : Bit) → is_in_any b (reads_asked of None) ≡ is_in_any b (reads_asked (e.SignExtend w of)
    asked)
sign_bits w of asked b = sym (ap (is_in_any b) (equation.reads-SignExtend w of asked))

pub truncate_bits : (w : ℕ) (of : Typed) (asked : Option (ℤ × ℕ)) (b : Bit) → is_in_any b (reads_asked of None) ≡ is_in_any b (reads_asked (e.Truncate w
    of) asked)
truncate_bits w of asked b = sym (ap (is_in_any b) (equation.reads-Truncate w of asked))

pub unary_bits : (op : TypedUnary) (of : Typed) (asked : Option (ℤ × ℕ)) (b : Bit) → is_in_any b (reads_asked of None) ≡ is_in_any b (reads_asked (e.Unary
    op of) asked)
unary_bits op of asked b = sym (ap (is_in_any b) (equation.reads-Unary op of asked))

pub repeat_bits : (count : ℕ) (of : Typed) (asked : Option (ℤ × ℕ)) (b : Bit) → is_in_any b (reads_asked of None) ≡ is_in_any b (reads_asked (e.Repeat
    count of) asked)
repeat_bits count of asked b = sym (ap (is_in_any b) (equation.reads-Repeat count of asked))

pub binary_bits : (op : TypedBinary) (left right : Typed) (asked : Option (ℤ × ℕ)) (b : Bit)
    → (is_in_any b (reads_asked left None) || is_in_any b (reads_asked right None)) ≡ is_in_any b (reads_asked (e.Binary op left right) asked)
binary_bits op left right asked b =
    sym (ap (is_in_any b) (equation.reads-Binary op left right asked) ∙ any_append (is_in b) (reads_asked left None) (reads_asked right None))

pub join_bits : (high low : Typed) (asked : Option (ℤ × ℕ)) (b : Bit)
    → (is_in_any b (reads_asked high None) || is_in_any b (reads_asked low None)) ≡ is_in_any b (reads_asked (e.Join high low) asked)
join_bits high low asked b =
    sym (ap (is_in_any b) (equation.reads-Join high low asked) ∙ any_append (is_in b) (reads_asked high None) (reads_asked low None))

pub choose_bits : (test left right : Typed) (asked : Option (ℤ × ℕ)) (b : Bit)
    → ((is_in_any b (reads_asked test None) || is_in_any b (reads_asked left None)) || is_in_any b (reads_asked right None))
    ≡ is_in_any b (reads_asked (e.Choose test left right) asked)
choose_bits test left right asked b =
    sym (ap (is_in_any b) (equation.reads-Choose test left right asked)
    ∙ any_append (is_in b) (reads_asked test None ++ reads_asked left None) (reads_asked right None)
    ∙ ap (λ r. r || is_in_any b (reads_asked right None)) (any_append (is_in b) (reads_asked test None) (reads_asked left None)))

pub index_bits : (at : Index) (b : Bit) → is_in_any b (reads_asked at.value None) ≡ is_in_any b (reads_of_index at)
index_bits at b = sym (ap (is_in_any b) (typed.para-index Reading (List Span) node_reads index_reads at.low at.signed at.value))

-- ---- constant positions

pub constant_index : (at : Index) → is_constant at ≡ constant at.value
constant_index at = typed.fold-index Bool Bool node_constant index_constant at.low at.signed at.value

chosen : (at : Index) (c : Bool) → is_constant at ≡ c → (if c then Some (position_in [] at) else None) ≡ constant_position at
chosen at c h = ap (λ c. if c then Some (position_in [] at) else None) (sym h)

pub position_is : (s : State) (at : Index) (z : ℤ) → true ≡ constant at.value → z ≡ position_in s at → Some z ≡ constant_position at
position_is s at z h k =
    let is : is_constant at ≡ true = constant_index at ∙ sym h in
    ap Some (k ∙ same_position at is s []) ∙ chosen at true is

pub no_position : (at : Index) → false ≡ constant at.value → None ≡ constant_position at
no_position at h = chosen at false (constant_index at ∙ sym h)

is_there : (at : Index) (p : Option Position) (c : Bool) → word_asked p ≡ (if c then Some (position_in [] at) else None) → is_some p ≡ c
is_there at None true h = absurd cc
is_there at None false h = refl
is_there at (Some p) true h = refl
is_there at (Some p) false h = absurd cc

pub is_fixed_at : (at : Index) (p : Option Position) → word_asked p ≡ constant_position at → is_some p ≡ is_constant at
is_fixed_at at p h = is_there at p (is_constant at) h
