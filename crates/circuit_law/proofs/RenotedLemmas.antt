-- What other notes leave as it is.
use Rattle.std.specs.Prelude.{◌≡◌, refl, Bool, true, false, cond, ◌||◌, List, [], ◌∷◌, ◌++◌, map, filter, flat_map}
use Rattle.std.proofs.Common.{sym, ◌∙◌, ap, ap₂}
use Rattle.std.specs.List.{list_any}
use Rattle.std.proofs.lemmas.Grind.{flat_map-append}
use Rattle.std.proofs.lemmas.List.Folds.{flat_map-map}
use Rattle.cov_types.specs.declared.kind.ProcessKind.{ProcessKind}
use Rattle.circuit_run.specs.States.{State}
use Rattle.circuit_run.specs.Outcomes.{Outcome, joined, in_turn}
use Rattle.circuit_run.specs.Circuits.{Circuit, Process, of_kind}
use Rattle.circuit_law.specs.Renoted.{renoted, renoted_process, renoted_circuit}

module _ {N M : Type 0} (t : N → List M) where
  -- choosing commutes with a function
  picked : {X Y : Type 0} (f : X → Y) (b : Bool) (x : X) (xs : List X) {ys : List Y} → ys ≡ map f xs
      → cond b (f x ∷ ys) ys ≡ map f (cond b (x ∷ xs) xs)
  picked f true x xs e = ap (λ zs. f x ∷ zs) e
  picked f false x xs e = e

  pub chosen : (sort : ProcessKind → Bool) (ps : List (Process N))
      → filter (λ p. sort p.kind) (map (renoted_process t) ps) ≡ map (renoted_process t) (filter (λ p. sort p.kind) ps)
  chosen sort [] = refl
  chosen sort (p ∷ ps) = picked (renoted_process t) (sort p.kind) p (filter (λ q. sort q.kind) ps) (chosen sort ps)

  pub of_kind_renoted : (sort : ProcessKind → Bool) (c : Circuit N)
      → of_kind sort (renoted_circuit t c) ≡ map (renoted_process t) (of_kind sort c)
  of_kind_renoted sort c = chosen sort c.processes

  -- ---- acts in turn

  pub joined_renoted : (a b : Outcome N) → joined (renoted t a) (renoted t b) ≡ renoted t (joined a b)
  joined_renoted a b = ap (λ notes. record (joined (renoted t a) (renoted t b)) { notes = notes }) (sym (flat_map-append t a.notes b.notes))

  pub turns_renoted : (ps : List (Process N)) (s : State)
      → in_turn (map (λ p. p.run) (map (renoted_process t) ps)) s ≡ renoted t (in_turn (map (λ p. p.run) ps) s)
  turns_renoted [] s = refl
  turns_renoted (p ∷ ps) s =
      ap (joined (renoted t (p.run s))) (turns_renoted ps (p.run s).state) ∙ joined_renoted (p.run s) (in_turn (map (λ q. q.run) ps) (p.run s).state)

  -- ---- lists of outcomes

  pub runs_renoted : (ps : List (Process N)) (s : State)
      → map (λ p. p.run s) (map (renoted_process t) ps) ≡ map (renoted t) (map (λ p. p.run s) ps)
  runs_renoted [] s = refl
  runs_renoted (p ∷ ps) s = ap (λ os. renoted t (p.run s) ∷ os) (runs_renoted ps s)

  pub updates_renoted : (os : List (Outcome N)) → flat_map (λ o. o.updates) (map (renoted t) os) ≡ flat_map (λ o. o.updates) os
  updates_renoted os = flat_map-map (λ o. o.updates) (renoted t) os

  pub texts_renoted : (os : List (Outcome N)) → flat_map (λ o. o.text) (map (renoted t) os) ≡ flat_map (λ o. o.text) os
  texts_renoted os = flat_map-map (λ o. o.text) (renoted t) os

  pub notes_renoted : (os : List (Outcome N)) → flat_map (λ o. o.notes) (map (renoted t) os) ≡ flat_map t (flat_map (λ o. o.notes) os)
  notes_renoted [] = refl
  notes_renoted (o ∷ os) = ap (λ ns. flat_map t o.notes ++ ns) (notes_renoted os) ∙ sym (flat_map-append t o.notes (flat_map (λ x. x.notes) os))

  pub any_renoted : (test : Outcome N → Bool) (test' : Outcome M → Bool) → ((o : Outcome N) → test' (renoted t o) ≡ test o)
      → (os : List (Outcome N)) → list_any test' (map (renoted t) os) ≡ list_any test os
  any_renoted test test' same [] = refl
  any_renoted test test' same (o ∷ os) = ap₂ (λ a b. a || b) (same o) (any_renoted test test' same os)
