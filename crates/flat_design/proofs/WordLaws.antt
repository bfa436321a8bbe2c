-- A word that fits leaves a state of the design.
use Rattle.std.proofs.Common.{◌∙◌, sym, subst, ℕ, ◌<◌, ◌^◌, length, inl, inr, arith}
use Rattle.std.specs.Prelude.{All, slice_index_or, slice_set}
use Rattle.std.proofs.lemmas.List.{get_or-set_same, get_or-set_other, length-set}
use Rattle.std.proofs.lemmas.Bool.{cases_eq}
use Rattle.cov_types.specs.declared.var.Var.{Var}
use Rattle.circuit_run.specs.States.{VarWords, no_words, AreWordsOf, held}
use Rattle.design_meaning.specs.States.{var_of}
use Rattle.flat_design.specs.Laws.{WordsKeepStates}

word_set : (v : Var) (x : VarWords) (w n : ℕ) → n < 2 ^ x.width → AreWordsOf v x → AreWordsOf v (record x { words = slice_set x.words w n })
word_set v x w n small a = record { as_wide = a.as_wide; as_many = length-set x.words w n ∙ a.as_many; fit = fit }
  where
    fit : All (λ m. m < 2 ^ v.width) (slice_set x.words w n)
    fit k d lt = elim (cases_eq w k) [
      | inl e ↦ subst (λ m. slice_index_or (slice_set x.words w n) m d < 2 ^ v.width) e
          (subst (λ m. m < 2 ^ v.width) (sym (get_or-set_same x.words w n d (omega (arith, e, lt, length-set x.words w n))))
          (subst (λ width. n < 2 ^ width) a.as_wide small))
      | inr ne ↦ subst (λ m. m < 2 ^ v.width) (sym (get_or-set_other x.words w k n d (λ e. ne (sym e)))) (a.fit k d (omega (arith, lt, length-set x.words w n)))
    ]

pub words_keep_states : WordsKeepStates
words_keep_states d s v w n h here small = record { as_many = length-set s v changed ∙ h.as_many; each = each }
  where
    changed : VarWords
    changed = record (held s v) { words = slice_set (held s v).words w n }

    own : AreWordsOf (var_of d v) changed
    own = word_set (var_of d v) (held s v) w n small (h.each v (omega (arith, here, h.as_many)))

    each : (u : ℕ) → u < length d.vars → AreWordsOf (var_of d u) (held (slice_set s v changed) u)
    each u lt = elim (cases_eq v u) [
      | inl e ↦ subst (λ u. AreWordsOf (var_of d u) (held (slice_set s v changed) u)) e
          (subst (AreWordsOf (var_of d v)) (sym (get_or-set_same s v changed no_words here)) own)
      | inr ne ↦ subst (AreWordsOf (var_of d u)) (sym (get_or-set_other s v u changed no_words (λ e. ne (sym e)))) (h.each u lt)
    ]
