-- Some state agrees with registers and values of the inputs: regs as they were, inputs as given, and 0 on wires.
use Rattle.std.proofs.Common.{pow_pos, ◌≡◌, ◌∙◌, sym, ap, subst, refl, ℕ, zero, suc, ◌<◌, ◌^◌, List, [], ◌∷◌, map, length, inl, inr, arith}
use Rattle.std.proofs.lemmas.Bool.{ne_eqb, eq-eqb, cases_eq}
use Rattle.std.proofs.lemmas.Nat.Bits.{bit_at-zero}
use Rattle.std.specs.Prelude.{All, AllPairs, slice_index, slice_index_or, replicate, ◌==◌, if◌then◌else◌}
use Rattle.std.specs.List.{AllByRecursion}
use Rattle.std.specs.Int.{bit_at}
use Rattle.cov_types.specs.declared.kind.VarKind.{VarKind}
use Rattle.cov_types.specs.declared.kind.VarKind.TheVariants as var_kind
use Rattle.design_tree.specs.declared.design.Input.{Input}
use Rattle.design_tree.specs.declared.design.Design.{Design}
use Rattle.circuit_run.specs.States.{State, VarWords, no_words, AreWordsOf, held}
use Rattle.design_meaning.specs.States.{IsStateOf, var_of}
use Rattle.design_meaning.specs.Settled.{inputs_in, Agrees}
use Rattle.design_meaning.specs.Circuit.{input_vars}
use Rattle.design_meaning.specs.ValidVariables.{AreInputs}
use Rattle.design_meaning.specs.Valid.{IsValidDesign}
use Rattle.design_meaning.specs.SettledLaws.{IsRow, SomeStateAgrees}
use Rattle.design_meaning.proofs.AgreeOutside.{inputs_of}
use Rattle.design_meaning.proofs.Listed.{by_recursion}
use Rattle.design_meaning.proofs.StateOf.{table, length-table, at-table}
use Rattle.design_meaning.proofs.SettledTheorem.{map_same}

-- ---- the value of an input

abbrev value_for : List ℕ → List ℕ → ℕ → ℕ
value_for [] row v = 0
value_for (x ∷ xs) [] v = 0
value_for (x ∷ xs) (n ∷ ns) v = if x == v then n else value_for xs ns v

value_fits : (width : ℕ → ℕ) (xs row : List ℕ) → ((k : ℕ) → k < length row → slice_index row k < 2 ^ width (slice_index xs k)) → (v : ℕ)
    → value_for xs row v < 2 ^ width v
value_fits width [] row h v = pow_pos (width v)
value_fits width (x ∷ xs) [] h v = pow_pos (width v)
value_fits width (x ∷ xs) (n ∷ ns) h v = elim (cases_eq x v) [
  | inl e ↦ rw (eq-eqb x v e) (subst (λ w. n < 2 ^ width w) e (h zero (omega arith)))
  | inr ne ↦ rw (ne_eqb x v ne) (value_fits width xs ns (λ k lt. h (suc k) (omega (arith, lt))) v)
]

later_same : (x n : ℕ) (xs ns ys : List ℕ) → AllByRecursion (λ y. x < y) ys → map (value_for (x ∷ xs) (n ∷ ns)) ys ≡ map (value_for xs ns) ys
later_same x n xs ns [] h = refl
later_same x n xs ns (y ∷ ys) h = rw (ne_eqb x y (λ e. omega (arith, e, h.0)), later_same x n xs ns ys h.1) refl

values_are : (xs row : List ℕ) → length row ≡ length xs → AllPairs (λ m n. m < n) xs → map (value_for xs row) xs ≡ row
values_are [] [] e h = refl
values_are [] (n ∷ ns) e h = absurd (omega (arith, e))
values_are (x ∷ xs) [] e h = absurd (omega (arith, e))
values_are (x ∷ xs) (n ∷ ns) e h =
    ap (λ c. (if c then n else value_for xs ns x) ∷ map (value_for (x ∷ xs) (n ∷ ns)) xs) (eq-eqb x x refl)
    ∙ ap (λ ys. n ∷ ys) (later_same x n xs ns xs (by_recursion (λ y. x < y) xs (λ k d lt. h zero (suc k) d (omega arith) (omega (arith, lt))))
    ∙ values_are xs ns (omega (arith, e)) (λ i j d lt k. h (suc i) (suc j) d (omega (arith, lt)) (omega (arith, k))))

-- ---- the state

abbrev words_at : Design → State → List ℕ → ℕ → VarKind → VarWords
words_at d r row v var_kind.Reg = held r v
words_at d r row v var_kind.Wire = record { width = (var_of d v).width; words = replicate (var_of d v).words 0 }
words_at d r row v var_kind.Input = record { width = (var_of d v).width; words = value_for (input_vars d) row v ∷ [] }

abbrev base : Design → State → List ℕ → State
base d r row = table (λ v. words_at d r row v (var_of d v).kind) (length d.vars)

at_base : (d : Design) (r : State) (row : List ℕ) (v : ℕ) (k : VarKind) → v < length d.vars → (var_of d v).kind ≡ k
    → held (base d r row) v ≡ words_at d r row v k
at_base d r row v k lt e = at-table (λ v. words_at d r row v (var_of d v).kind) no_words (length d.vars) v lt ∙ ap (words_at d r row v) e

zeros : (n k : ℕ) → slice_index (replicate n 0) k ≡ 0
zeros zero k = refl
zeros (suc n) zero = refl
zeros (suc n) (suc k) = zeros n k

length_zeros : (n : ℕ) → length {A = ℕ} (replicate n 0) ≡ n
length_zeros zero = refl
length_zeros (suc n) = ap suc (length_zeros n)

all_zeros : (w n : ℕ) → All (λ m. m < 2 ^ w) (replicate n 0)
all_zeros w zero k d lt = absurd (omega (arith, lt))
all_zeros w (suc n) zero d lt = pow_pos w
all_zeros w (suc n) (suc k) d lt = all_zeros w n k d (omega (arith, lt))

module _ (d : Design) (r : State) (row : List ℕ) (valid : IsValidDesign d) (hr : IsStateOf d r) (hrow : IsRow d row) where
  input_single : (v : ℕ) → v < length d.vars → (var_of d v).kind ≡ var_kind.Input → (var_of d v).words ≡ 1
  input_single v lt k = let c = (inputs_of d valid).all_inputs v lt k in subst (λ v. (var_of d v).words ≡ 1) c.2 ((inputs_of d valid).single c.0 v c.1)

  one_fits : (w n : ℕ) → n < 2 ^ w → All (λ m. m < 2 ^ w) (n ∷ [])
  one_fits w n h zero e lt = h
  one_fits w n h (suc k) e lt = absurd (omega (arith, lt))

  words_fit : (v : ℕ) → v < length d.vars → (k : VarKind) → (var_of d v).kind ≡ k → AreWordsOf (var_of d v) (words_at d r row v k)
  words_fit v lt var_kind.Reg e = hr.each v lt
  words_fit v lt var_kind.Wire e = record { as_wide = refl; as_many = length_zeros (var_of d v).words; fit = all_zeros (var_of d v).width (var_of d v).words }
  words_fit v lt var_kind.Input e = record {
    as_wide = refl;
    as_many = sym (input_single v lt e);
    fit = one_fits (var_of d v).width (value_for (input_vars d) row v) (value_fits (λ v. (var_of d v).width) (input_vars d) row hrow.fit v);
  }

  is_state : IsStateOf d (base d r row)
  is_state = record {
    as_many = length-table (λ v. words_at d r row v (var_of d v).kind) (length d.vars);
    each = λ v lt. subst (AreWordsOf (var_of d v)) (sym (at_base d r row v (var_of d v).kind lt refl)) (words_fit v lt (var_of d v).kind refl);
  }

  input_word : (v : ℕ) → v < length d.vars → (var_of d v).kind ≡ var_kind.Input → slice_index (held (base d r row) v).words 0 ≡ value_for (input_vars d) row v
  input_word v lt k = ap (λ x. slice_index x.words 0) (at_base d r row v var_kind.Input lt k)

  vars_length : (inputs : List Input) → length (map (λ input. input.var) inputs) ≡ length inputs
  vars_length [] = refl
  vars_length (input ∷ inputs) = ap suc (vars_length inputs)

  abbrev IsWord : ℕ → Type 0
  IsWord v = slice_index (held (base d r row) v).words 0 ≡ value_for (input_vars d) row v

  inputs_are : inputs_in d (base d r row) ≡ row
  inputs_are =
      let ins : AreInputs d = inputs_of d valid in
      map_same (λ v. slice_index (held (base d r row) v).words 0) (value_for (input_vars d) row) (input_vars d)
      (by_recursion IsWord (input_vars d) (λ k v lt. input_word (slice_index_or (input_vars d) k v) (ins.stand k v lt) (ins.only_inputs k v lt)))
      ∙ values_are (input_vars d) row (hrow.as_many ∙ sym (vars_length d.inputs)) ins.ascend

  agrees : Agrees d r row (base d r row)
  agrees = record {
    is_state = is_state;
    registers = λ b h. ap (λ x. bit_at (slice_index x.words b.word) b.place) (at_base d r row b.var var_kind.Reg h.here.of_variable h.of_reg);
    inputs = inputs_are;
    undriven = λ b h. ap (λ x. bit_at (slice_index x.words b.word) b.place) (at_base d r row b.var var_kind.Wire h.here.of_variable h.of_wire)
        ∙ ap (λ n. bit_at n b.place) (zeros (var_of d b.var).words b.word) ∙ bit_at-zero b.place;
  }

pub some_state_agrees : SomeStateAgrees
some_state_agrees d r row valid hr hrow = (base d r row, agrees d r row valid hr hrow)
