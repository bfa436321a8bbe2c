-- With all processes run, the last blocking values are there.
use Rattle.std.proofs.Common.{◌≡◌, ◌≢◌, ◌∙◌, sym, ap, subst, refl, ℕ, zero, suc, ◌<◌, ◌⊎◌, inl, inr, Bool, true, false, cond, ◌&&◌, List, [], ◌∷◌, map, filter}
use Rattle.std.proofs.Common.{length, arith}
use Rattle.std.proofs.lemmas.Bool.{cases_Bool, cases_lt}
use Rattle.std.proofs.lemmas.List.{get_or_past}
use Rattle.std.specs.Prelude.{IsTrue, All, slice_index_or}
use Rattle.std.specs.List.{AllByRecursion}
use Rattle.design_tree.specs.declared.design.Process.{Process}
use Rattle.design_tree.specs.declared.design.Design.{Design}
use Rattle.circuit_run.specs.States.{State, Bit, bit}
use Rattle.circuit_run.specs.Kinds.{runs_at_edge}
use Rattle.circuit_run.specs.Circuits.{states_after}
use Rattle.design_meaning.specs.States.{IsBitOf, IsStateOf, var_of}
use Rattle.design_meaning.specs.Steps.{run_of}
use Rattle.design_meaning.specs.Processes.{kind_of, no_process, processes_that}
use Rattle.design_meaning.specs.Reach.{sets_var}
use Rattle.design_meaning.specs.Circuit.{circuit_of}
use Rattle.design_meaning.specs.RunLaws.{after}
use Rattle.design_meaning.proofs.Listed.{by_recursion, by_index, to_filter}
use Rattle.design_meaning.proofs.ByNumber.{states_are, of_map, to_map}
use Rattle.design_meaning.proofs.StateKeeps.{outside}
use Rattle.design_meaning.proofs.RunTheorems.{runs_keep_states}
use Rattle.cycle_laws.specs.Laws.{ChainsEnd}
use Rattle.cycle_laws.proofs.SetFrame.{leaves_unset}

-- some number below n passes a test, or none does
search_below : (test : ℕ → Bool) (n : ℕ) → ((p : ℕ) × (p < n) × (test p ≡ true)) ⊎ ((p : ℕ) → p < n → test p ≡ false)
search_below test zero = inr (λ p lt. absurd (omega (arith, lt)))
search_below test (suc n) = elim (search_below test n) [
  | inl found ↦ inl (found.0, omega (arith, found.1), found.2)
  | inr none ↦ elim (cases_Bool (test n)) [
    | inl here ↦ inl (n, omega arith, here)
    | inr not_here ↦ inr (λ p lt. elim (cases_lt p n) [
      | inl less ↦ none p less
      | inr more ↦ (let e : n ≡ p = omega (arith, lt, more) in subst (λ q. test q ≡ false) e not_here)
    ])
  ]
]

left_of : (a b : Bool) → (a && b) ≡ true → a ≡ true
left_of true b h = refl
left_of false b h = absurd cc

right_of : (a b : Bool) → (a && b) ≡ true → b ≡ true
right_of true b h = h
right_of false b h = absurd cc

not_both : (a b : Bool) → (a && b) ≡ false → a ≡ true → b ≡ false
not_both true b h e = h
not_both false b h e = absurd (cc (e))

-- of what holds of each that passes, by its number
from_those : {X : Type 0} (test : X → Bool) (P : X → Type 0) (none : X) (xs : List X) → AllByRecursion P (filter test xs)
    → (p : ℕ) → p < length xs → test (slice_index_or xs p none) ≡ true → P (slice_index_or xs p none)
from_those test P none [] h p lt t = absurd (omega (arith, lt))
from_those test P none (x ∷ xs) h zero lt t = (subst (λ c. AllByRecursion P (cond c (x ∷ filter test xs) (filter test xs))) t h).0
from_those test P none (x ∷ xs) h (suc p) lt t = from_those test P none xs (elim (cases_Bool (test x)) [
  | inl e ↦ (subst (λ c. AllByRecursion P (cond c (x ∷ filter test xs) (filter test xs))) e h).1
  | inr e ↦ subst (λ c. AllByRecursion P (cond c (x ∷ filter test xs) (filter test xs))) e h
]) p (omega (arith, lt)) t

pub is_bit : (d : Design) (b : Bit) → IsBitOf d b ⊎ (IsBitOf d b → ⊥)
is_bit d b = elim (cases_lt b.var (length d.vars)) [
  | inr past ↦ inr (λ h. omega (arith, past, h.of_variable))
  | inl v ↦ elim (cases_lt b.word (var_of d b.var).words) [
    | inr past ↦ inr (λ h. omega (arith, past, h.of_word))
    | inl w ↦ elim (cases_lt b.place (var_of d b.var).width) [
      | inr past ↦ inr (λ h. omega (arith, past, h.in_width))
      | inl p ↦ inl (record { of_variable = v; of_word = w; in_width = p })
    ]
  ]
]

pub chains_end : ChainsEnd
chains_end d s t valid hs ht h = record { is_state = ht; changed = changed; kept = kept }
  where
    to_each : (P : State → Type 0) → ((p : ℕ) → IsTrue (runs_at_edge (kind_of d p)) → P (after d p s)) → All P (states_after runs_at_edge (circuit_of d) s)
    to_each P each = subst (All P) (sym (states_are d runs_at_edge s))
        (by_index P (map (λ p. (run_of p s).state) (processes_that runs_at_edge d))
        (to_map P (λ p. (run_of p s).state) (processes_that runs_at_edge d)
        (to_filter (λ p. runs_at_edge p.kind) (λ p. P (run_of p s).state) no_process d.processes each)))

    from_each : (P : State → Type 0) → All P (states_after runs_at_edge (circuit_of d) s) → (p : ℕ) → p < length d.processes
        → IsTrue (runs_at_edge (kind_of d p)) → P (after d p s)
    from_each P all = from_those (λ p. runs_at_edge p.kind) (λ p. P (run_of p s).state) no_process d.processes
        (of_map P (λ p. (run_of p s).state) (processes_that runs_at_edge d)
        (by_recursion P (map (λ p. (run_of p s).state) (processes_that runs_at_edge d)) (subst (All P) (states_are d runs_at_edge s) all)))

    not_here : (u : State) (b : Bit) → IsStateOf d u → (IsBitOf d b → ⊥) → bit u b ≡ bit s b
    not_here u b hu n = outside d u b hu n ∙ sym (outside d s b hs n)

    one : (b : Bit) (p : ℕ) → IsTrue (runs_at_edge (kind_of d p)) → bit (after d p s) b ≢ bit s b → bit t b ≡ bit (after d p s) b
    one b p at ne = elim (is_bit d b) [
      | inr n ↦ absurd (ne (not_here (after d p s) b (runs_keep_states d p s valid hs) n))
      | inl hb ↦ elim (cases_Bool (sets_var d p b.var)) [
        | inr unset ↦ absurd (ne (leaves_unset d p s b hs hb unset))
        | inl sets ↦ elim (cases_lt p (length d.processes)) [
          | inl lt ↦ h.set b hb p lt at sets
          | inr past ↦ absurd (ne (ap (λ (x : Process). bit (run_of x s).state b) (get_or_past d.processes p no_process past)))
        ]
      ]
    ]

    changed : (b : Bit) → All (λ after. bit after b ≢ bit s b → bit t b ≡ bit after b) (states_after runs_at_edge (circuit_of d) s)
    changed b = to_each (λ after. bit after b ≢ bit s b → bit t b ≡ bit after b) (λ p at. one b p at)

    kept : (b : Bit) → All (λ after. bit after b ≡ bit s b) (states_after runs_at_edge (circuit_of d) s) → bit t b ≡ bit s b
    kept b all = elim (is_bit d b) [
      | inr n ↦ not_here t b ht n
      | inl hb ↦ elim (search_below (λ p. runs_at_edge (kind_of d p) && sets_var d p b.var) (length d.processes)) [
        | inl found ↦
            let at : IsTrue (runs_at_edge (kind_of d found.0)) = left_of (runs_at_edge (kind_of d found.0)) (sets_var d found.0 b.var) found.2 in
            h.set b hb found.0 found.1 at (right_of (runs_at_edge (kind_of d found.0)) (sets_var d found.0 b.var) found.2)
            ∙ from_each (λ after. bit after b ≡ bit s b) all found.0 found.1 at
        | inr none ↦ h.kept b hb (λ p lt at. not_both (runs_at_edge (kind_of d p)) (sets_var d p b.var) (none p lt) at)
      ]
    ]
