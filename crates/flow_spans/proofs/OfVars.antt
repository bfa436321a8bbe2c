-- The bits and spans of the variables of a valid design, in sets of bits of these variables.
use Rattle.std.proofs.Common.{◌≡◌, ◌∙◌, sym, ap, ap₂, subst, refl, ℕ, zero, suc, ◌+◌, ◌*◌, ◌<◌, ◌≤◌, arith, inl, inr, List, [], ◌∷◌, length, map}
use Rattle.std.specs.Prelude.{All}
use Rattle.std.proofs.Math.Nat.{mul_comm, mul-le-mul_right}
use Rattle.std.proofs.lemmas.List.Elements.{All-head, All-tail, All-weaker}
use Rattle.cov_types.specs.declared.var.Var.{Var}
use Rattle.design_tree.specs.declared.design.Design.{Design}
use Rattle.circuit_run.specs.Lists.{total}
use Rattle.circuit_run.specs.States.{Bit, IsBitOf, var_of}
use Rattle.design_meaning.specs.ValidVariables.{IsVariable}
use Rattle.design_meaning.specs.Valid.{IsValidDesign}
use Rattle.flow_marks.specs.declared.slot.Slot.{Slot}
use Rattle.flow_marks.specs.declared.span.Span.{Span}
use Rattle.flow_marks.specs.Slots.{slot_of, slots_from, all_bits, all_columns, AreFew, IsIn, IsSpan, IsOneOrAll}
use Rattle.flow_spans.specs.Reads.{IsSpanOf}

-- ---- how many

bits_total : (vars : List Var) → all_bits vars ≡ total (map (λ (v : Var). v.width * v.words) vars)
bits_total [] = refl
bits_total (v ∷ vs) = ap₂ (λ m n. m + n) (mul_comm v.words v.width) (bits_total vs)

columns_few : (vars : List Var) → All IsVariable vars → all_columns vars ≤ all_bits vars
columns_few [] h = omega arith
columns_few (v ∷ vs) h =
    let first : IsVariable v = All-head IsVariable v vs h in
    let one : 1 * v.width ≤ v.words * v.width = mul-le-mul_right v.width first.some_words in
    omega (arith, one, columns_few vs (All-tail IsVariable v vs h))

few_in : (d : Design) (x : IsValidDesign d) → AreFew x.0.design.vars
few_in d x =
    let bits : all_bits x.0.design.vars ≤ 16777216 = omega (arith, bits_total x.0.design.vars, x.1.limits.bits) in
    record {
      bits = bits;
      columns = omega (arith, bits, columns_few x.0.design.vars x.1.variables);
      words = All-weaker IsVariable (λ v. v.words ≤ 65536) (λ v h. h.few_words) x.0.design.vars x.1.variables;
    }

-- the variables of a valid design are few
pub few_of : (d : Design) → IsValidDesign d → AreFew d.vars
few_of d x = subst (λ (d : Design). AreFew d.vars) x.2 (few_in d x)

-- ---- slots are of variables

pub slots_many : (b c : ℕ) (vars : List Var) → length (slots_from b c vars) ≡ length vars
slots_many b c [] = refl
slots_many b c (v ∷ vs) = ap suc (slots_many (b + v.words * v.width) (c + v.width) vs)

-- a slot has the words and the width of its variable
pub record IsSlotOf (s : Slot) (v : Var) : Type 0 where
  pub words : s.words ≡ v.words
  pub width : s.width ≡ v.width

pub slot_is : (b c : ℕ) (vars : List Var) (v : ℕ) → v < length vars → IsSlotOf (slot_of (slots_from b c vars) v) (var_of vars v)
slot_is b c [] v h = absurd (omega (arith, h))
slot_is b c (x ∷ vs) zero h = record { words = refl; width = refl }
slot_is b c (x ∷ vs) (suc v) h = slot_is (b + x.words * x.width) (c + x.width) vs v (omega arith)

pub bit_in : (vars : List Var) (b : Bit) → IsBitOf vars b → IsIn (slots_from 0 0 vars) b
bit_in vars b h =
    let s : IsSlotOf (slot_of (slots_from 0 0 vars) b.var) (var_of vars b.var) = slot_is 0 0 vars b.var h.of_variable in
    record {
      of_variable = omega (arith, slots_many 0 0 vars, h.of_variable);
      of_word = omega (arith, s.words, h.of_word);
      in_width = omega (arith, s.width, h.in_width);
    }

pub bit_from : (vars : List Var) (b : Bit) → IsIn (slots_from 0 0 vars) b → IsBitOf vars b
bit_from vars b h =
    let lt : b.var < length vars = omega (arith, slots_many 0 0 vars, h.of_variable) in
    let s : IsSlotOf (slot_of (slots_from 0 0 vars) b.var) (var_of vars b.var) = slot_is 0 0 vars b.var lt in
    record {
      of_variable = lt;
      of_word = omega (arith, s.words, h.of_word);
      in_width = omega (arith, s.width, h.in_width);
    }

pub span_in : (vars : List Var) (s : Span) → IsSpanOf vars s → IsSpan (slots_from 0 0 vars) s
span_in vars s h =
    let t : IsSlotOf (slot_of (slots_from 0 0 vars) s.var) (var_of vars s.var) = slot_is 0 0 vars s.var h.of_variable in
    record {
      of_variable = omega (arith, slots_many 0 0 vars, h.of_variable);
      words = omega (arith, h.some_word);
      places = h.places;
      of_words = omega (arith, t.words, h.of_words);
      in_width = omega (arith, t.width, h.in_width);
    }

pub spans_in : (vars : List Var) (spans : List Span) → All (IsSpanOf vars) spans → All (IsSpan (slots_from 0 0 vars)) spans
spans_in vars spans h = All-weaker (IsSpanOf vars) (IsSpan (slots_from 0 0 vars)) (span_in vars) spans h

pub one_or_all : (vars : List Var) (s : Span) → IsSpanOf vars s → IsOneOrAll (slots_from 0 0 vars) s
one_or_all vars s h = elim h.one_or_all [ inl e ↦ inl e | inr e ↦ inr (e.0, e.1 ∙ sym (slot_is 0 0 vars s.var h.of_variable).words) ]
