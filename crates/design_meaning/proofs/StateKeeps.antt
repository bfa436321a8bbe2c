-- Written parts leave states of the design, and two states of a design are alike.
use Rattle.std.proofs.Common.{pow_pos, ◌≡◌, ◌∙◌, sym, ap, subst, ℕ, ◌<◌, ◌≤◌, ◌^◌, List, [], ◌∷◌, length, inl, inr, arith}
use Rattle.std.proofs.lemmas.List.{get_or-set_same, get_or-set_other, get_or_past, length-set}
use Rattle.std.proofs.lemmas.Bool.{cases_eq, cases_lt}
use Rattle.std.proofs.lemmas.Nat.Bits.{bit_at-zero, bit_at_above}
use Rattle.std.specs.Prelude.{ℤ, pos, negsuc, All, IsTrue, slice_index, slice_index_or, slice_set}
use Rattle.std.specs.Int.{bit_at}
use Rattle.bit_values.specs.Values.{replace}
use Rattle.bit_values.proofs.PartLaws.{replace_fits}
use Rattle.cov_types.specs.declared.var.Var.{Var}
use Rattle.design_tree.specs.declared.design.Design.{Design}
use Rattle.circuit_run.specs.States.{State, VarWords, no_words, no_var, Bit, bit, AreWordsOf, held}
use Rattle.design_meaning.specs.States.{IsBitOf, IsStateOf, var_of}
use Rattle.circuit_run.specs.Writes.{Part, written, word_written, all_written}
use Rattle.design_meaning.specs.Spans.{Span, is_in_any}
use Rattle.design_meaning.proofs.ValueReads.{Alike, Same}
use Rattle.design_meaning.proofs.StateBits.{word_fits}

set_keeps : (v : Var) (x : VarWords) (n value : ℕ) → value < 2 ^ x.width → AreWordsOf v x → AreWordsOf v (record x { words = slice_set x.words n value })
set_keeps v x n value small a = record { as_wide = a.as_wide; as_many = length-set x.words n value ∙ a.as_many; fit = fit }
  where
    fit : All (λ m. m < 2 ^ v.width) (slice_set x.words n value)
    fit k d lt = elim (cases_eq n k) [
      | inl e ↦ subst (λ m. slice_index_or (slice_set x.words n value) m d < 2 ^ v.width) e
          (subst (λ m. m < 2 ^ v.width) (sym (get_or-set_same x.words n value d (omega (arith, e, lt, length-set x.words n value))))
          (subst (λ w. value < 2 ^ w) a.as_wide small))
      | inr ne ↦ subst (λ m. m < 2 ^ v.width) (sym (get_or-set_other x.words n k value d (λ e. ne (sym e))))
          (a.fit k d (omega (arith, lt, length-set x.words n value)))
    ]

word_keeps : (v : Var) (x : VarWords) (z : ℤ) (p : Part) → AreWordsOf v x → AreWordsOf v (word_written x z p)
word_keeps v x (negsuc n) p a = a
word_keeps v x (pos n) p a = set_keeps v x n (replace x.width (slice_index x.words n) p.low p.width p.number)
    (replace_fits x.width (slice_index x.words n) p.low p.width p.number) a

pub written_keeps : (d : Design) (s : State) (p : Part) → IsStateOf d s → IsStateOf d (written s p)
written_keeps d s p h = record { as_many = length-set s p.var (word_written (held s p.var) p.word p) ∙ h.as_many; each = each }
  where
    each : (v : ℕ) → v < length d.vars → AreWordsOf (var_of d v) (held (written s p) v)
    each v lt = elim (cases_eq p.var v) [
      | inl e ↦ subst (AreWordsOf (var_of d v))
          (sym (subst (λ w. held (written s p) w
          ≡ word_written (held s w) p.word p) e (get_or-set_same s p.var (word_written (held s p.var) p.word p) no_words (omega (arith, e, lt, h.as_many)))))
          (word_keeps (var_of d v) (held s v) p.word p (h.each v lt))
      | inr ne ↦ subst (AreWordsOf (var_of d v)) (sym (get_or-set_other s p.var v (word_written (held s p.var) p.word p) no_words (λ e. ne (sym e))))
          (h.each v lt)
    ]

pub all_keep_state : (d : Design) (ps : List Part) (s : State) → IsStateOf d s → IsStateOf d (all_written s ps)
all_keep_state d [] s h = h
all_keep_state d (p ∷ ps) s h = all_keep_state d ps (written s p) (written_keeps d s p h)

-- ---- two states of a design

no_variable : (d : Design) (s : State) (v : ℕ) → IsStateOf d s → length d.vars ≤ v → held s v ≡ no_words
no_variable d s v h past = get_or_past s v no_words (omega (arith, h.as_many, past))

pub width_of_state : (d : Design) (s : State) (v : ℕ) → IsStateOf d s → (held s v).width ≡ (var_of d v).width
width_of_state d s v h = elim (cases_lt v (length d.vars)) [
  | inl lt ↦ (h.each v lt).as_wide
  | inr past ↦ ap (λ x. x.width) (no_variable d s v h past) ∙ sym (ap (λ x. x.width) (get_or_past d.vars v no_var past))
]

pub any_fits : (d : Design) (s : State) (v w : ℕ) → IsStateOf d s → slice_index (held s v).words w < 2 ^ (var_of d v).width
any_fits d s v w h = elim (cases_lt v (length d.vars)) [
  | inl lt ↦ word_fits d s v w h lt
  | inr past ↦ rw (no_variable d s v h past) (pow_pos (var_of d v).width)
]

pub alike : (d : Design) (s u : State) → IsStateOf d s → IsStateOf d u → Alike s u
alike d s u hs hu = record {
  most = λ v. (var_of d v).width;
  wide = λ v. width_of_state d s v hs ∙ sym (width_of_state d u v hu);
  fits = λ v w. any_fits d s v w hs;
  fits_too = λ v w. any_fits d u v w hu;
}

-- a bit that the design doesn't have is 0
pub outside : (d : Design) (s : State) (b : Bit) → IsStateOf d s → (IsBitOf d b → ⊥) → bit s b ≡ 0
outside d s b h n = elim (cases_lt b.place (var_of d b.var).width) [
  | inr past ↦ bit_at_above (slice_index (held s b.var).words b.word) (var_of d b.var).width b.place (any_fits d s b.var b.word h) past
  | inl inside ↦ elim (cases_lt b.var (length d.vars)) [
    | inr past ↦ ap (λ x. bit_at (slice_index x.words b.word) b.place) (no_variable d s b.var h past) ∙ bit_at-zero b.place
    | inl lt ↦ elim (cases_lt b.word (var_of d b.var).words) [
      | inl w ↦ absurd (n (record { of_variable = lt; of_word = w; in_width = inside }))
      | inr past ↦ ap (λ x. bit_at x b.place) (get_or_past (held s b.var).words b.word 0 (omega (arith, past, (h.each b.var lt).as_many))) ∙ bit_at-zero b.place
    ]
  ]
]

-- states that agree on the bits of these spans that the design has agree on all bits of them
pub same_from : (d : Design) (s u : State) (spans : List Span) → IsStateOf d s → IsStateOf d u
    → ((b : Bit) → IsBitOf d b → IsTrue (is_in_any b spans) → bit s b ≡ bit u b) → Same s u spans
same_from d s u spans hs hu same b i = elim (cases_lt b.var (length d.vars)) [
  | inr past ↦ outside d s b hs (λ h. omega (arith, past, h.of_variable)) ∙ sym (outside d u b hu (λ h. omega (arith, past, h.of_variable)))
  | inl v ↦ elim (cases_lt b.word (var_of d b.var).words) [
    | inr past ↦ outside d s b hs (λ h. omega (arith, past, h.of_word)) ∙ sym (outside d u b hu (λ h. omega (arith, past, h.of_word)))
    | inl w ↦ elim (cases_lt b.place (var_of d b.var).width) [
      | inr past ↦ outside d s b hs (λ h. omega (arith, past, h.in_width)) ∙ sym (outside d u b hu (λ h. omega (arith, past, h.in_width)))
      | inl p ↦ same b (record { of_variable = v; of_word = w; in_width = p }) i
    ]
  ]
]
