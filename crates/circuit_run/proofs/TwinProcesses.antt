-- What twins have in common, list by list.
use Rattle.std.proofs.Common.{◌≡◌, ◌∙◌, sym, ap, ap₂, refl, subst, Bool, true, false, cond, ◌||◌, List, ◌∷◌, ◌++◌, map, flat_map, filter}
use Rattle.std.proofs.lemmas.Grind.{flat_map-append}
use Rattle.std.specs.List.{list_any}
use Rattle.cov_types.specs.declared.kind.ProcessKind.{ProcessKind}
use Rattle.cov_types.specs.declared.var.Var.{Var}
use Rattle.circuit_run.specs.States.{Bit, State, IsBitOf}
use Rattle.circuit_run.specs.Outcomes.{in_turn}
use Rattle.circuit_run.specs.Circuits.{Process}
use Rattle.circuit_run.specs.Agreement.{Agrees}
use Rattle.circuit_run.proofs.Agreements.{agrees_joined, agrees_unchanged}
use Rattle.circuit_run.specs.Twins.{HasWidths, Twins, AllTwins, no_twins, more_twins}

chosen_twins : {N M : Type 0} {marks : N
    → List M} {vars : List Var} (b b' : Bool) {p : Process N} {q : Process M} {ps : List (Process N)} {qs : List (Process M)} → b' ≡ b
    → Twins marks vars p q → AllTwins marks vars ps qs → AllTwins marks vars (cond b (p ∷ ps) ps) (cond b' (q ∷ qs) qs)
chosen_twins {N} {M} {marks} {vars} b b' {p} {q} {ps} {qs} e t ts = subst (λ x. AllTwins marks vars (cond b (p ∷ ps) ps) (cond x (q ∷ qs) qs)) (sym e) (at b)
  where
    at : (b : Bool) → AllTwins marks vars (cond b (p ∷ ps) ps) (cond b (q ∷ qs) qs)
    at true = more_twins t ts
    at false = ts

pub twins_of_kind : {N M : Type 0} {marks : N → List M} {vars : List Var} (sort : ProcessKind → Bool) {ps : List (Process N)} {qs : List (Process M)}
    → AllTwins marks vars ps qs
    → AllTwins marks vars (filter (λ p. sort p.kind) ps) (filter (λ q. sort q.kind) qs)
twins_of_kind sort no_twins = no_twins
twins_of_kind sort (more_twins {p} {q} t ts) = chosen_twins (sort p.kind) (sort q.kind) (ap sort t.kind) t (twins_of_kind sort ts)

-- lists of what the runs leave, from one state
pub twins_updates : {N M : Type 0} {marks : N → List M} {vars : List Var} {ps : List (Process N)} {qs : List (Process M)} (s : State) → HasWidths vars s
    → AllTwins marks vars ps qs
    → flat_map (λ run. run.updates) (map (λ q. q.run s) qs) ≡ flat_map (λ run. run.updates) (map (λ p. p.run s) ps)
twins_updates s w no_twins = refl
twins_updates s w (more_twins t ts) = ap₂ ◌++◌ (t.runs s w).updates (twins_updates s w ts)

pub twins_text : {N M : Type 0} {marks : N → List M} {vars : List Var} {ps : List (Process N)} {qs : List (Process M)} (s : State) → HasWidths vars s
    → AllTwins marks vars ps qs
    → flat_map (λ run. run.text) (map (λ q. q.run s) qs) ≡ flat_map (λ run. run.text) (map (λ p. p.run s) ps)
twins_text s w no_twins = refl
twins_text s w (more_twins t ts) = ap₂ ◌++◌ (t.runs s w).text (twins_text s w ts)

pub twins_finished : {N M : Type 0} {marks : N → List M} {vars : List Var} {ps : List (Process N)} {qs : List (Process M)} (s : State) → HasWidths vars s
    → AllTwins marks vars ps qs
    → list_any (λ run. run.finished) (map (λ q. q.run s) qs) ≡ list_any (λ run. run.finished) (map (λ p. p.run s) ps)
twins_finished s w no_twins = refl
twins_finished s w (more_twins t ts) = ap₂ ◌||◌ (t.runs s w).finished (twins_finished s w ts)

pub twins_stopped : {N M : Type 0} {marks : N → List M} {vars : List Var} {ps : List (Process N)} {qs : List (Process M)} (s : State) → HasWidths vars s
    → AllTwins marks vars ps qs
    → list_any (λ run. run.stopped) (map (λ q. q.run s) qs) ≡ list_any (λ run. run.stopped) (map (λ p. p.run s) ps)
twins_stopped s w no_twins = refl
twins_stopped s w (more_twins t ts) = ap₂ ◌||◌ (t.runs s w).stopped (twins_stopped s w ts)

-- what the runs note
pub twins_notes : {N M : Type 0} {marks : N → List M} {vars : List Var} {ps : List (Process N)} {qs : List (Process M)} (s : State) → HasWidths vars s
    → AllTwins marks vars ps qs
    → flat_map (λ run. run.notes) (map (λ q. q.run s) qs) ≡ flat_map marks (flat_map (λ run. run.notes) (map (λ p. p.run s) ps))
twins_notes s w no_twins = refl
twins_notes {N} {M} {marks} s w (more_twins {p} t ts) = ap₂ ◌++◌ (t.runs s w).notes (twins_notes s w ts) ∙ sym (flat_map-append marks (p.run s).notes _)

pub twins_process_notes : {N M : Type 0} {marks : N → List M} {vars : List Var} {ps : List (Process N)} {qs : List (Process M)} (s : State)
    → HasWidths vars s → AllTwins marks vars ps qs
    → flat_map (λ q. (q.run s).notes) qs ≡ flat_map marks (flat_map (λ p. (p.run s).notes) ps)
twins_process_notes s w no_twins = refl
twins_process_notes {N} {M} {marks} s w (more_twins {p} t ts) = ap₂ ◌++◌ (t.runs s w).notes (twins_process_notes s w ts)
    ∙ sym (flat_map-append marks (p.run s).notes _)

-- the states that the runs leave, from one state
pub twins_states : {N M : Type 0} {marks : N → List M} {vars : List Var} {ps : List (Process N)} {qs : List (Process M)} (s : State) → HasWidths vars s
    → AllTwins marks vars ps qs
    → map (λ q. (q.run s).state) qs ≡ map (λ p. (p.run s).state) ps
twins_states s w no_twins = refl
twins_states s w (more_twins t ts) = ap₂ ◌∷◌ (t.runs s w).state (twins_states s w ts)

-- one run after the other
pub twins_in_turn : {N M : Type 0} {marks : N → List M} {vars : List Var} {ps : List (Process N)} {qs : List (Process M)} (s : State) → HasWidths vars s
    → AllTwins marks vars ps qs
    → Agrees marks (in_turn (map (λ p. p.run) ps) s) (in_turn (map (λ q. q.run) qs) s)
twins_in_turn s w no_twins = agrees_unchanged _ s
twins_in_turn {N} {M} {marks} s w (more_twins {p} {q} {ps} {qs} t ts) =
    let here = t.runs s w in
    agrees_joined here
    (subst (λ z. Agrees marks (in_turn (map (λ p. p.run) ps) (p.run s).state) (in_turn (map (λ q. q.run) qs) z)) (sym here.state)
    (twins_in_turn (p.run s).state (t.keeps s w) ts))

-- whether some process has the bit among its targets
pub twins_driven : {N M : Type 0} {marks : N → List M} {vars : List Var} {ps : List (Process N)} {qs : List (Process M)} (b : Bit) → IsBitOf vars b
    → AllTwins marks vars ps qs
    → list_any (λ q. q.drives b) qs ≡ list_any (λ p. p.drives b) ps
twins_driven b here no_twins = refl
twins_driven b here (more_twins t ts) = ap₂ ◌||◌ (t.drives b here) (twins_driven b here ts)
