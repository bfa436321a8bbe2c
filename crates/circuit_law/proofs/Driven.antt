-- Other notes leave the driven bits, and the states that processes leave, as they are.
use Rattle.std.specs.Prelude.{◌≡◌, refl, Bool, ◌||◌, List, [], ◌∷◌, map}
use Rattle.std.specs.List.{list_any}
use Rattle.std.proofs.Common.{◌∙◌, ap}
use Rattle.cov_types.specs.declared.kind.ProcessKind.{ProcessKind}
use Rattle.circuit_run.specs.States.{State, Bit}
use Rattle.circuit_run.specs.Circuits.{Circuit, Process, of_kind, is_driven, states_after}
use Rattle.circuit_law.specs.Renoted.{renoted_process, renoted_circuit}
use Rattle.circuit_law.proofs.RenotedLemmas.{of_kind_renoted}

module _ {N M : Type 0} (t : N → List M) where
  drives_there : (b : Bit) (ps : List (Process N)) → list_any (λ p. p.drives b) (map (renoted_process t) ps) ≡ list_any (λ p. p.drives b) ps
  drives_there b [] = refl
  drives_there b (p ∷ ps) = ap (λ rest. p.drives b || rest) (drives_there b ps)

  pub driven_same : (sort : ProcessKind → Bool) (c : Circuit N) (b : Bit) → is_driven sort (renoted_circuit t c) b ≡ is_driven sort c b
  driven_same sort c b = ap (list_any (λ p. p.drives b)) (of_kind_renoted t sort c) ∙ drives_there b (of_kind sort c)

  left_there : (s : State) (ps : List (Process N)) → map (λ p. (p.run s).state) (map (renoted_process t) ps) ≡ map (λ p. (p.run s).state) ps
  left_there s [] = refl
  left_there s (p ∷ ps) = ap (λ rest. (p.run s).state ∷ rest) (left_there s ps)

  pub left_same : (sort : ProcessKind → Bool) (c : Circuit N) (s : State) → states_after sort (renoted_circuit t c) s ≡ states_after sort c s
  left_same sort c s = ap (map (λ p. (p.run s).state)) (of_kind_renoted t sort c) ∙ left_there s (of_kind sort c)
