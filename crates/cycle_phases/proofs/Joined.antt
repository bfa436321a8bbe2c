-- Runs one after the other, one more at the end.
use Rattle.std.proofs.Common.{◌≡◌, ◌∙◌, sym, ap, refl, ℕ, ◌+◌, ◌<◌, Bool, true, false, cond, ◌||◌, List, [], ◌∷◌, ◌++◌, filter, length, map, take, append_assoc}
use Rattle.std.proofs.lemmas.List.{take_more, map-append}
use Rattle.std.proofs.lemmas.List.Elements.{filter-append}
use Rattle.cov_types.specs.declared.kind.ProcessKind.{ProcessKind}
use Rattle.design_tree.specs.declared.design.Process.{Process}
use Rattle.design_tree.specs.declared.design.Design.{Design}
use Rattle.circuit_run.specs.States.{State}
use Rattle.circuit_run.specs.Writes.{Part}
use Rattle.circuit_run.specs.Outcomes.{Outcome, Act, unchanged, joined, in_turn}
use Rattle.design_meaning.specs.Steps.{run_of}
use Rattle.design_meaning.specs.Processes.{process_of, no_process}
use Rattle.design_meaning.proofs.ListLaws.{or_assoc, or_false}

outcome : State → List Part → List ℕ → List ℕ → Bool → Bool → Outcome ℕ
outcome s u t n f g = record { state = s; updates = u; text = t; notes = n; finished = f; stopped = g }

module _ (s : State) (u v : List Part) (t w n m : List ℕ) (f e g h : Bool) (hu : u ≡ v) (ht : t ≡ w) (hn : n ≡ m) (hf : f ≡ e) (hg : g ≡ h) where
  parts : Outcome ℕ
  parts = outcome s u t n f g

  same : outcome s u t n f g ≡ outcome s v w m e h
  same = ap (λ x. outcome s x t n f g) hu ∙ ap (λ x. outcome s v x n f g) ht ∙ ap (λ x. outcome s v w x f g) hn ∙ ap (λ x. outcome s v w m x g) hf
      ∙ ap (λ x. outcome s v w m e x) hg

no_more : {X : Type 0} (xs : List X) → xs ++ [] ≡ xs
no_more [] = refl
no_more (x ∷ xs) = ap (λ l. x ∷ l) (no_more xs)

none_behind : (a : Outcome ℕ) → joined a (unchanged a.state) ≡ a
unfolding outcome
none_behind a = same a.state (a.updates ++ []) a.updates (a.text ++ []) a.text (a.notes
    ++ []) a.notes (a.finished || false) a.finished (a.stopped || false) a.stopped
    (no_more a.updates) (no_more a.text) (no_more a.notes) (or_false a.finished) (or_false a.stopped)

joined_assoc : (a b c : Outcome ℕ) → joined a (joined b c) ≡ joined (joined a b) c
unfolding outcome
joined_assoc a b c = sym (same c.state (a.updates ++ b.updates ++ c.updates) (a.updates ++ (b.updates ++ c.updates)) (a.text ++ b.text ++ c.text) (a.text
    ++ (b.text ++ c.text))
    (a.notes ++ b.notes ++ c.notes) (a.notes ++ (b.notes ++ c.notes)) ((a.finished || b.finished) || c.finished) (a.finished || (b.finished || c.finished))
    ((a.stopped || b.stopped) || c.stopped) (a.stopped || (b.stopped || c.stopped))
    (append_assoc a.updates b.updates c.updates) (append_assoc a.text b.text c.text) (append_assoc a.notes b.notes c.notes)
    (or_assoc a.finished b.finished c.finished) (or_assoc a.stopped b.stopped c.stopped))

pub turn_more : (acts : List (Act ℕ)) (act : Act ℕ) (s : State) → in_turn (acts ++ act ∷ []) s ≡ joined (in_turn acts s) (act (in_turn acts s).state)
turn_more [] act s = none_behind (act s)
turn_more (first ∷ acts) act s = ap (joined (first s)) (turn_more acts act (first s).state)
    ∙ joined_assoc (first s) (in_turn acts (first s).state) (act (in_turn acts (first s).state).state)

-- ---- the first n processes

module _ (sort : ProcessKind → Bool) (d : Design) where
  -- those of some kinds among the first n
  abbrev pub first_of : ℕ → List Process
  first_of n = filter (λ p. sort p.kind) (take n d.processes)

  -- what they do one after the other
  abbrev pub first_turns : ℕ → State → Outcome ℕ
  first_turns n s = in_turn (map run_of (filter (λ p. sort p.kind) (take n d.processes))) s

  one_or_none : (p : Process) → filter (λ p. sort p.kind) (p ∷ []) ≡ cond (sort p.kind) (p ∷ []) []
  one_or_none p = refl

  pub first_more : (n : ℕ) → n < length d.processes → first_of (n + 1) ≡ first_of n ++ cond (sort (process_of d n).kind) (process_of d n ∷ []) []
  first_more n lt = ap (filter (λ p. sort p.kind)) (take_more d.processes n no_process lt)
      ∙ filter-append (λ p. sort p.kind) (take n d.processes) (process_of d n ∷ [])

  pub here : (n : ℕ) → n < length d.processes → sort (process_of d n).kind ≡ true → first_of (n + 1) ≡ first_of n ++ process_of d n ∷ []
  here n lt t = first_more n lt ∙ ap (λ c. first_of n ++ cond c (process_of d n ∷ []) []) t

  pub not_here : (n : ℕ) → n < length d.processes → sort (process_of d n).kind ≡ false → first_of (n + 1) ≡ first_of n
  not_here n lt f = first_more n lt ∙ ap (λ c. first_of n ++ cond c (process_of d n ∷ []) []) f ∙ no_more (first_of n)

  pub turned : (n : ℕ) (s : State) → n < length d.processes → sort (process_of d n).kind ≡ true
      → first_turns (n + 1) s ≡ joined (first_turns n s) (run_of (process_of d n) (first_turns n s).state)
  turned n s lt t = ap (λ ps. in_turn (map run_of ps) s) (here n lt t) ∙ ap (λ acts. in_turn acts s) (map-append run_of (first_of n) (process_of d n ∷ []))
      ∙ turn_more (map run_of (first_of n)) (run_of (process_of d n)) s

  pub not_turned : (n : ℕ) (s : State) → n < length d.processes → sort (process_of d n).kind ≡ false → first_turns (n + 1) s ≡ first_turns n s
  not_turned n s lt f = ap (λ ps. in_turn (map run_of ps) s) (not_here n lt f)
