-- Derived counts give the entries of each arm: the proof.
use Rattle.std.specs.Prelude.{◌≡◌, refl, ℕ, zero, suc, ◌+◌, List, [], ◌∷◌, flat_map, Contains}
use Rattle.std.specs.List.{AllByRecursion}
use Rattle.std.proofs.Common.{sym, ◌∙◌, ap, ap₂, subst, arith, inl, inr}
use Rattle.std.proofs.lemmas.Bool.Decides.{eqb_tells}
use Rattle.circuit_run.specs.Runs.{Run, all_notes}
use Rattle.circuit_law.specs.Renoted.{renoted_run}
use Rattle.circuit_run.specs.Lists.{how_many}
use Rattle.counted_circuit.proofs.HowMany.{how_many_joined, zero_plus, of_same, of_other}
use Rattle.counted_circuit.specs.Tells.{Fork}
use Rattle.counted_circuit.proofs.CountedRuns.{raised_in_run}
use Rattle.counted_circuit.specs.Counts.{times}
use Rattle.counted_circuit.specs.Balance.{forks_in}
use Rattle.counted_circuit.proofs.FairRuns.{forks_balance}
use Rattle.counted_circuit.specs.DerivedLists.{IsOwn, own, no_arm, together, ListsGive}

of_member : (P : Fork → Type 0) (fs : List Fork) (f : Fork) → AllByRecursion P fs → Contains fs f → P f
of_member P [] f h (k, less, e) = absurd (omega arith)
of_member P (x ∷ xs) f h (zero, less, e) = subst P e h.0
of_member P (x ∷ xs) f h (suc k, less, e) = of_member P xs f h.1 (k, omega arith, e)

module _ (carried : ℕ → List ℕ) (arm counter : ℕ) (own : IsOwn carried arm counter) where
  own_notes : (ns : List ℕ) → how_many counter (flat_map carried ns) ≡ how_many arm ns
  own_notes [] = refl
  own_notes (n ∷ ns) = how_many_joined counter (carried n) (flat_map carried ns) ∙ elim (eqb_tells n arm) as
      (λ _. how_many counter (carried n) + how_many counter (flat_map carried ns) ≡ how_many arm (n ∷ ns)) [
        | inl h ↦ ap₂ (λ a b. a + b) (ap (λ m. how_many counter (carried m)) h.1 ∙ ap (how_many counter) own.carries ∙ of_same counter []) (own_notes ns)
            ∙ sym (of_same arm ns) ∙ ap (λ m. how_many arm (m ∷ ns)) (sym h.1)
        | inr h ↦ ap₂ (λ a b. a + b) (own.alone n h.1) (own_notes ns) ∙ zero_plus (how_many arm ns) ∙ sym (of_other arm n ns h.1)
      ]

  own_times : (r : Run ℕ) → times counter (renoted_run carried r) ≡ times arm r
  own_times r = ap (how_many counter) (raised_in_run carried r) ∙ own_notes (all_notes r)

alone_sum : (a b : ℕ) → a ≡ b → a + 0 ≡ b + 0
alone_sum a b e = omega arith

derived_sum : (plus around minus taken other counter : ℕ) → plus ≡ around + minus → around ≡ taken + other → counter ≡ taken → plus ≡ other + (counter + minus)
derived_sum plus around minus taken other counter e f g = omega arith

pub lists_give : ListsGive
lists_give carried d rows r _ _ _ plain_design run (own {arm} {counter} h) =
    alone_sum (times counter (renoted_run carried r)) (times arm r) (own_times carried arm counter h r)
lists_give carried d rows r _ _ _ plain_design run (no_arm {plus} {minus} {counter} f member h lists) =
    derived_sum (together (renoted_run carried r) plus) (times f.around r) (together (renoted_run carried r) minus) (times f.yes_arm r) (times f.no_arm r)
    (times counter (renoted_run carried r))
    (lists_give carried d rows r f.around plus minus plain_design run lists)
    (of_member (λ g. times g.around r ≡ times g.yes_arm r + times g.no_arm r) (forks_in d) f (forks_balance d rows r plain_design run) member)
    (own_times carried f.yes_arm counter h r)
