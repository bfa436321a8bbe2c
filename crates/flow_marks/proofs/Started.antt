-- The layout of variables, and the set without bits.
use Rattle.std.proofs.Common.{◌≡◌, ◌∙◌, sym, ap, subst, refl, arith, ℕ, zero, suc, ◌+◌, ◌*◌, ◌<◌, ◌≤◌, inl, inr, Bool, false, List, [], ◌∷◌, ◌++◌, length}
use Rattle.std.proofs.Common.{get_or, replicate, drop, append_assoc, append-nil}
use Rattle.std.specs.Prelude.{All}
use Rattle.std.proofs.lemmas.List.{drop_more, drop_all, length-replicate, get_or-replicate, get_or_past}
use Rattle.std.proofs.lemmas.List.Elements.{All-head, All-tail}
use Rattle.std.proofs.lemmas.Bool.{cases_lt}
use Rattle.cov_types.specs.declared.var.Var.{Var}
use Rattle.cov_types.specs.declared.kind.VarKind.TheVariants.{Input}
use Rattle.flow_marks.specs.declared.slot.Slot.{Slot}
use Rattle.flow_marks.specs.Slots.{before, slot_of, size, wide, number, AreFew, IsLayout, slots_from, all_bits, all_columns}
use Rattle.flow_marks.specs.Sets.{IsKept, marked, column_of}

abbrev pub no_var : Var
no_var = record { width = 0; words = 0; start = 0; kind = Input }

abbrev pub var_at : List Var → ℕ → Var
var_at vars i = get_or vars i no_var

abbrev pub Layout : List Var → ℕ → List Slot → ℕ → ℕ → Type 0
Layout vars i so_far b c = record {
  bits : b + all_bits (drop i vars) ≡ all_bits vars;
  columns : c + all_columns (drop i vars) ≡ all_columns vars;
  slots : so_far ++ slots_from b c (drop i vars) ≡ slots_from 0 0 vars;
}

pub layout_more : (vars : List Var) (i : ℕ) (slots : List Slot) (bits columns : ℕ) → i < length vars
    → bits + all_bits (drop i vars) ≡ all_bits vars → columns + all_columns (drop i vars) ≡ all_columns vars
    → slots ++ slots_from bits columns (drop i vars) ≡ slots_from 0 0 vars
    → Layout vars (i + 1) (slots ++ record { bit = bits; column = columns; words = (var_at vars i).words; width = (var_at vars i).width } ∷ [])
    (bits + (var_at vars i).words * (var_at vars i).width) (columns + (var_at vars i).width)
layout_more vars i slots bits columns l b c s =
    let e : drop i vars ≡ var_at vars i ∷ drop (i + 1) vars = drop_more vars i no_var l in
    record {
      bits = (let x : bits + all_bits (var_at vars i ∷ drop (i + 1) vars) ≡ all_bits vars = subst (λ vs. bits + all_bits vs ≡ all_bits vars) e b in omega
          arith);
      columns = (let x : columns + all_columns (var_at vars i ∷ drop (i + 1) vars) ≡ all_columns vars = subst (λ vs. columns + all_columns vs ≡ all_columns
          vars) e c in omega arith);
      slots = append_assoc slots (record { bit = bits; column = columns; words = (var_at vars i).words; width = (var_at vars i).width } ∷ [])
          (slots_from (bits + (var_at vars i).words * (var_at vars i).width) (columns + (var_at vars i).width) (drop (i + 1) vars))
          ∙ subst (λ vs. slots ++ slots_from bits columns vs ≡ slots_from 0 0 vars) e s;
    }

pub layout_end : (vars : List Var) (i : ℕ) (slots : List Slot) (bits columns : ℕ) → length vars ≤ i
    → bits + all_bits (drop i vars) ≡ all_bits vars → columns + all_columns (drop i vars) ≡ all_columns vars
    → slots ++ slots_from bits columns (drop i vars) ≡ slots_from 0 0 vars → IsLayout vars slots bits columns
layout_end vars i slots bits columns l b c s =
    let e : drop i vars ≡ [] = drop_all i vars l in
    record {
      slots_are = sym (append-nil slots) ∙ subst (λ vs. slots ++ slots_from bits columns vs ≡ slots_from 0 0 vars) e s;
      bits_are = (let x : bits + all_bits [] ≡ all_bits vars = subst (λ vs. bits + all_bits vs ≡ all_bits vars) e b in omega arith);
      columns_are = (let x : columns + all_columns [] ≡ all_columns vars = subst (λ vs. columns + all_columns vs ≡ all_columns vars) e c in omega arith);
    }

-- ---- no bits

bits_before : (b c : ℕ) (vars : List Var) → before size (slots_from b c vars) (length (slots_from b c vars)) ≡ all_bits vars
bits_before b c [] = refl
bits_before b c (v ∷ vs) = ap (λ n. v.words * v.width + n) (bits_before (b + v.words * v.width) (c + v.width) vs)

columns_before : (b c : ℕ) (vars : List Var) → before wide (slots_from b c vars) (length (slots_from b c vars)) ≡ all_columns vars
columns_before b c [] = refl
columns_before b c (v ∷ vs) = ap (λ n. v.width + n) (columns_before (b + v.words * v.width) (c + v.width) vs)

bit_at_slot : (b c : ℕ) (vars : List Var) (v : ℕ) → v < length (slots_from b c vars)
    → (slot_of (slots_from b c vars) v).bit ≡ b + before size (slots_from b c vars) v
bit_at_slot b c [] v h = absurd (omega arith)
bit_at_slot b c (x ∷ vs) zero h = omega arith
bit_at_slot b c (x ∷ vs) (suc v) h = let r = bit_at_slot (b + x.words * x.width) (c + x.width) vs v (let i : v < length (slots_from (b + x.words * x.width)
    (c + x.width) vs) = omega arith in i) in omega (arith, r)

column_at_slot : (b c : ℕ) (vars : List Var) (v : ℕ) → v < length (slots_from b c vars)
    → (slot_of (slots_from b c vars) v).column ≡ c + before wide (slots_from b c vars) v
column_at_slot b c [] v h = absurd (omega arith)
column_at_slot b c (x ∷ vs) zero h = omega arith
column_at_slot b c (x ∷ vs) (suc v) h = let r = column_at_slot (b + x.words * x.width) (c + x.width) vs v (let i : v < length (slots_from (b + x.words *
    x.width) (c + x.width) vs) = omega arith in i) in omega (arith, r)

few_words : (b c : ℕ) (vars : List Var) (v : ℕ) → All (λ x. x.words ≤ 65536) vars → (slot_of (slots_from b c vars) v).words ≤ 65536
few_words b c [] v h = omega arith
few_words b c (x ∷ vs) zero h = All-head (λ x. x.words ≤ 65536) x vs h
few_words b c (x ∷ vs) (suc v) h = few_words (b + x.words * x.width) (c + x.width) vs v (All-tail (λ x. x.words ≤ 65536) x vs h)

zeros : (n i : ℕ) → ◌≡◌ {A = ℕ} (get_or (replicate n 0) i 0) 0
zeros n i = elim (cases_lt i n) [
  | inl h ↦ get_or-replicate {A = ℕ} n i 0 0 h
  | inr h ↦ get_or_past {X = ℕ} (replicate n 0) i 0 (omega (arith, length-replicate {A = ℕ} n 0))
]

pub blanks : (n i : ℕ) → get_or (replicate n false) i false ≡ false
blanks n i = elim (cases_lt i n) [
  | inl h ↦ get_or-replicate n i false false h
  | inr h ↦ get_or_past (replicate n false) i false (let l : length (replicate n false) ≤ i = omega (arith, length-replicate n false) in l)
]

marked_none : (f : ℕ → Bool) (n : ℕ) → ((w : ℕ) → f w ≡ false) → marked f n ≡ 0
marked_none f zero h = refl
marked_none f (suc n) h = rw (h n, marked_none f n h) refl

pub none_kept : (vars : List Var) → AreFew vars → IsKept (slots_from 0 0 vars) (replicate (all_bits vars) false) (replicate (all_columns vars) 0)
none_kept vars few = record {
  laid = record {
    bit = λ v h. omega (arith, bit_at_slot 0 0 vars v h);
    column = λ v h. omega (arith, column_at_slot 0 0 vars v h);
    few = λ v h. few_words 0 0 vars v few.words;
  };
  as_many = length-replicate (all_bits vars) false ∙ sym (bits_before 0 0 vars);
  columns = length-replicate (all_columns vars) 0 ∙ sym (columns_before 0 0 vars);
  counted = λ v c hv hc. zeros (all_columns vars) ((slot_of (slots_from 0 0 vars) v).column + c)
      ∙ sym (marked_none (column_of (slots_from 0 0 vars) (replicate (all_bits vars) false) v c) (slot_of (slots_from 0 0 vars) v).words
      (λ w. blanks (all_bits vars) (number (slots_from 0 0 vars) (record { var = v; word = w; place = c }))));
}
