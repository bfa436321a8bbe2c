-- States word by word.
use Rattle.std.proofs.Common.{◌≡◌, ◌≢◌, ◌∙◌, sym, ap, subst, refl, ℕ, zero, suc, ◌<◌, ◌≤◌, ◌*◌, ◌+◌, ◌^◌, ◌⊎◌, inl, inr, List, [], ◌∷◌, length, map, arith}
use Rattle.std.specs.Prelude.{All, slice_index, slice_index_or, slice_set, Contains}
use Rattle.std.proofs.lemmas.Bool.{cases_eq, cases_lt}
use Rattle.std.proofs.lemmas.List.{get_or-set_same, get_or-set_other, length-set, ext_get_or, get_or_default, get_or-map, length-map, get_or_past}
use Rattle.cov_types.specs.declared.var.Var.{Var}
use Rattle.design_tree.specs.declared.design.Input.{Input}
use Rattle.design_tree.specs.declared.design.Design.{Design}
use Rattle.circuit_run.specs.States.{State, VarWords, no_words, AreWordsOf, held}
use Rattle.design_meaning.specs.States.{IsStateOf, var_of}
use Rattle.design_meaning.specs.Settled.{inputs_in}
use Rattle.design_meaning.specs.SettledLaws.{IsRow}
use Rattle.design_meaning.specs.Circuit.{input_vars}
use Rattle.design_meaning.specs.ValidVariables.{AreInputs}
use Rattle.design_state.specs.Shapes.{HaveOneShape}

-- ---- one word written

abbrev pub word_written : State → ℕ → ℕ → ℕ → State
word_written s v w n = slice_set s v (record (held s v) { words = slice_set (held s v).words w n })

pub other_held : (s : State) (v w n u : ℕ) → u ≢ v → held (word_written s v w n) u ≡ held s u
other_held s v w n u ne = get_or-set_other s v u (record (held s v) { words = slice_set (held s v).words w n }) no_words ne

pub this_held : (s : State) (v w n : ℕ) → v < length s → held (word_written s v w n) v ≡ record (held s v) { words = slice_set (held s v).words w n }
this_held s v w n lt = get_or-set_same s v (record (held s v) { words = slice_set (held s v).words w n }) no_words lt

word_set : (v : Var) (x : VarWords) (w n : ℕ) → n < 2 ^ x.width → AreWordsOf v x → AreWordsOf v (record x { words = slice_set x.words w n })
word_set v x w n small a = record { as_wide = a.as_wide; as_many = length-set x.words w n ∙ a.as_many; fit = fit }
  where
    fit : All (λ m. m < 2 ^ v.width) (slice_set x.words w n)
    fit k d lt = elim (cases_eq w k) [
      | inl e ↦ subst (λ m. slice_index_or (slice_set x.words w n) m d < 2 ^ v.width) e
          (subst (λ m. m < 2 ^ v.width) (sym (get_or-set_same x.words w n d (omega (arith, e, lt, length-set x.words w n))))
          (subst (λ width. n < 2 ^ width) a.as_wide small))
      | inr ne ↦ subst (λ m. m < 2 ^ v.width) (sym (get_or-set_other x.words w k n d (λ e. ne (sym e)))) (a.fit k d (omega (arith, lt, length-set x.words w n)))
    ]

pub write_keeps : (d : Design) (s : State) (v w n : ℕ) → IsStateOf d s → v < length d.vars → n < 2 ^ (held s v).width → IsStateOf d (word_written s v w n)
write_keeps d s v w n h here small = record { as_many = length-set s v changed ∙ h.as_many; each = each }
  where
    changed : VarWords
    changed = record (held s v) { words = slice_set (held s v).words w n }

    each : (u : ℕ) → u < length d.vars → AreWordsOf (var_of d u) (held (slice_set s v changed) u)
    each u lt = elim (cases_eq v u) [
      | inl e ↦ subst (λ u. AreWordsOf (var_of d u) (held (slice_set s v changed) u)) e
          (subst (AreWordsOf (var_of d v)) (sym (get_or-set_same s v changed no_words (omega (arith, here, h.as_many))))
          (word_set (var_of d v) (held s v) w n small (h.each v here)))
      | inr ne ↦ subst (AreWordsOf (var_of d u)) (sym (get_or-set_other s v u changed no_words (λ e. ne (sym e)))) (h.each u lt)
    ]

-- ---- states of one design

pub one_shape : (d : Design) (s t : State) → IsStateOf d s → IsStateOf d t → HaveOneShape s t
one_shape d s t h k = record {
  variables = h.as_many ∙ sym k.as_many;
  widths = λ v lt. (h.each v (here v lt)).as_wide ∙ sym (k.each v (here v lt)).as_wide;
  words = λ v lt. (h.each v (here v lt)).as_many ∙ sym (k.each v (here v lt)).as_many;
}
  where
    here : (v : ℕ) → v < length s → v < length d.vars
    here v lt = omega (arith, lt, h.as_many)

-- ---- inputs

vars_length : (inputs : List Input) → length (map (λ input. input.var) inputs) ≡ length inputs
vars_length inputs = length-map inputs (λ input. input.var)

abbrev pub input_at : Design → ℕ → ℕ
input_at d k = slice_index (input_vars d) k

-- the first so many inputs have their values, and nothing but inputs is changed
pub record AreTaken (d : Design) (n : ℕ) (values : List ℕ) (old new : State) : Type 0 where
  pub of : IsStateOf d new
  pub taken : (k : ℕ) → k < n → slice_index (held new (input_at d k)).words 0 ≡ slice_index values k
  pub others : (v : ℕ) → Contains (input_vars d) v ⊎ (held new v ≡ held old v)

module _ (d : Design) (ins : AreInputs d) (values : List ℕ) (row : IsRow d values) where
  pub stands : (k : ℕ) → k < length values → input_at d k < length d.vars
  stands k lt = ins.stand k 0 (omega (arith, lt, row.as_many, vars_length d.inputs))

  pub has_word : (k : ℕ) → k < length values → (var_of d (input_at d k)).words ≡ 1
  has_word k lt = ins.single k 0 (omega (arith, lt, row.as_many, vars_length d.inputs))

  pub value_fits : (s : State) (k : ℕ) → IsStateOf d s → k < length values → slice_index values k < 2 ^ (held s (input_at d k)).width
  value_fits s k hs lt = subst (λ w. slice_index values k < 2 ^ w) (sym (hs.each (input_at d k) (stands k lt)).as_wide) (row.fit k lt)

  pub one_taken : (n : ℕ) (old new : State) → n < length values → AreTaken d n values old new
      → AreTaken d (n + 1) values old (word_written new (input_at d n) 0 (slice_index values n))
  one_taken n old new lt h = record {
    of = write_keeps d new v 0 x h.of (stands n lt) (value_fits new n h.of lt);
    taken = λ k l. elim (cases_lt k n) [
      | inl less ↦ ap (λ y. slice_index y.words 0) (other_held new v 0 x (input_at d k) (λ e. omega (arith, e, ins.ascend k n 0 less many)))
          ∙ h.taken k less
      | inr more ↦ subst (λ k. slice_index (held (word_written new v 0 x) (input_at d k)).words 0 ≡ slice_index values k) (same k l more)
          (ap (λ y. slice_index y.words 0) (this_held new v 0 x in_new) ∙ get_or-set_same (held new v).words 0 x 0 one_word)
    ];
    others = λ u. elim (cases_eq u v) [
      | inl e ↦ inl (n, many, ap (λ z. z) (get_or_default (input_vars d) n u 0 many) ∙ sym e)
      | inr ne ↦ elim (h.others u) [
        | inl c ↦ inl c
        | inr e ↦ inr (other_held new v 0 x u ne ∙ e)
      ]
    ];
  }
    where
      v : ℕ
      v = slice_index (input_vars d) n

      x : ℕ
      x = slice_index values n

      many : n < length (input_vars d)
      many = omega (arith, lt, row.as_many, vars_length d.inputs)

      in_new : slice_index (input_vars d) n < length new
      in_new = omega (arith, stands n lt, h.of.as_many)

      one_word : 0 < length (held new (slice_index (input_vars d) n)).words
      one_word = omega (arith, has_word n lt, (h.of.each (input_at d n) (stands n lt)).as_many)

      same : (k : ℕ) → k < n + 1 → n ≤ k → n ≡ k
      same k l more = omega (arith, l, more)

  pub all_taken : (n : ℕ) (old new : State) → length values ≤ n → AreTaken d n values old new → inputs_in d new ≡ values
  all_taken n old new past h =
      ext_get_or 0 (inputs_in d new) values (length-map (input_vars d) (λ v. slice_index (held new v).words 0) ∙ vars_length d.inputs ∙ sym row.as_many)
      (λ k lt.
      let here : k < length (input_vars d) = omega (arith, lt, length-map (input_vars d) (λ v. slice_index (held new v).words 0)) in
      get_or-map (λ v. slice_index (held new v).words 0) (input_vars d) k 0 0 here ∙ h.taken k (omega (arith, here, past, vars_length d.inputs, row.as_many)))

-- the variable of an input that is read from the design's list
pub var_at : (d : Design) (inputs : List Input) (n : ℕ) (x : Input) → inputs ≡ d.inputs → n < length inputs → x ≡ slice_index_or inputs n x
    → x.var ≡ input_at d n
var_at d inputs n x e lt is = ap (λ input. input.var) is ∙ sym (get_or-map (λ input. input.var) inputs n x 0 lt)
    ∙ ap (λ l. slice_index (map (λ input. input.var) l) n) e
