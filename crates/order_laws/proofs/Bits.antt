-- The processes and bits of a design are finitely many, so whether one of them has a property is decided.
use Rattle.std.proofs.Common.{◌≡◌, ℕ, ◌<◌, inl, inr, Bool, false, length, sym, ap, ◌∙◌}
use Rattle.std.proofs.lemmas.Bool.{cases_lt, true≢false}
use Rattle.std.proofs.lemmas.List.{get_or_past}
use Rattle.std.proofs.Math.Decide.{map_dec, dec_lt}
use Rattle.std.specs.Prelude.{IsTrue}
use Rattle.design_tree.specs.declared.design.Process.{Process}
use Rattle.design_tree.specs.declared.design.Design.{Design}
use Rattle.circuit_run.specs.States.{Bit}
use Rattle.design_meaning.specs.States.{IsBitOf, var_of}
use Rattle.design_meaning.specs.Processes.{no_process, process_of}
use Rattle.order_laws.proofs.Decisions.{both, some_below}

-- what passes a test that no process past the last one passes has a number of the design
pub numbered : (d : Design) (test : Process → Bool) → test no_process ≡ false → (p : ℕ) → IsTrue (test (process_of d p)) → p < length d.processes
numbered d test none p h = elim (cases_lt p (length d.processes)) [
  | inl less ↦ less
  | inr past ↦ absurd (true≢false (sym h ∙ ap test (get_or_past d.processes p no_process past) ∙ none))
]

is_bit : (d : Design) (b : Bit) → Dec (IsBitOf d b)
is_bit d b = map_dec (λ h. record { of_variable = h.0; of_word = h.1; in_width = h.2 }) (λ h. (h.of_variable, h.of_word, h.in_width))
    (three (dec_lt b.var (length d.vars)) (dec_lt b.word (var_of d b.var).words) (dec_lt b.place (var_of d b.var).width))
  where
    three : {A B C : Type 0} → Dec A → Dec B → Dec C → Dec (A × B × C)
    three a b c = map_dec (λ h. (h.0, h.1.0, h.1.1)) (λ h. (h.0, (h.1, h.2))) (both a (both b c))

module _ (d : Design) (P : Bit → Type 0) (decides : (b : Bit) → Dec (P b)) where
  abbrev Here : ℕ → ℕ → ℕ → Type 0
  Here v w k = let b : Bit = record { var = v; word = w; place = k } in IsBitOf d b × P b

  abbrev InWord : ℕ → ℕ → Type 0
  InWord v w = (k : ℕ) × Here v w k

  abbrev InVariable : ℕ → Type 0
  InVariable v = (w : ℕ) × InWord v w

  in_word : (v w : ℕ) → Dec (InWord v w)
  in_word v w = some_below (Here v w) (λ k. both (is_bit d (record { var = v; word = w; place = k })) (decides (record { var = v; word = w; place = k })))
      (var_of d v).width (λ k h. h.0.in_width)

  in_variable : (v : ℕ) → Dec (InVariable v)
  in_variable v = some_below (InWord v) (in_word v) (var_of d v).words (λ w h. h.1.0.of_word)

  -- whether some bit of the design has a property
  pub some_bit : Dec ((b : Bit) × IsBitOf d b × P b)
  some_bit = map_dec (λ h. (record { var = h.0; word = h.1.0; place = h.1.1.0 }, h.1.1.1.0, h.1.1.1.1)) (λ h. (h.0.var, (h.0.word, (h.0.place, (h.1, h.2)))))
      (some_below InVariable in_variable (length d.vars) (λ v h. h.1.1.0.of_variable))
