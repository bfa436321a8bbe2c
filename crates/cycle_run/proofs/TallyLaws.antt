-- What combinational processes raise, process by process.
use Rattle.std.proofs.Common.{◌≡◌, ◌∙◌, sym, ap, ap₂, subst, refl, ℕ, zero, suc, ◌+◌, ◌-◌, ◌<◌, ◌≤◌, ◌^◌, Bool, true, false}
use Rattle.std.proofs.Common.{cond, List, [], ◌∷◌, ◌++◌, length, map}
use Rattle.std.proofs.Common.{filter, drop, take, inl, inr, arith}
use Rattle.std.specs.Prelude.{IsTrue, flat_map, slice_index, slice_index_or}
use Rattle.std.proofs.lemmas.Bool.{cases_Bool}
use Rattle.std.proofs.lemmas.List.{take_more, take_all, drop_more, map-append, length-append, get_or_default}
use Rattle.std.proofs.lemmas.List.Elements.{filter-append}
use Rattle.std.proofs.lemmas.Grind.{flat_map-append}
use Rattle.cov_types.specs.declared.kind.ProcessKind.{ProcessKind}
use Rattle.cov_types.specs.declared.kind.ProcessKind.TheVariants as kind
use Rattle.design_tree.specs.declared.design.Process.{Process}
use Rattle.design_tree.specs.declared.design.Design.{Design}
use Rattle.circuit_run.specs.States.{State}
use Rattle.circuit_run.specs.Kinds.{is_assign, is_comb, settles}
use Rattle.circuit_run.specs.Lists.{total}
use Rattle.design_meaning.specs.Steps.{run_of}
use Rattle.design_meaning.specs.Circuit.{as_process, circuit_of}
use Rattle.design_meaning.specs.Processes.{process_of, kind_of, no_process, processes_that}
use Rattle.design_meaning.specs.Counters.{HasCounted}
use Rattle.design_meaning.proofs.AgreeOutside.{comb_settles}
use Rattle.design_meaning.proofs.ByNumber.{chosen}
use Rattle.flat_design.specs.Effects.{room_of, room_of_all}
use Rattle.flat_design.proofs.NeedsIn.{rooms}
use Rattle.flat_design.proofs.RunWithin.{runs_within}
use Rattle.design_meaning.specs.States.{IsStateOf}
use Rattle.design_meaning.specs.Valid.{IsValidDesign}
use Rattle.cycle_parts.specs.Raised.{Raised}
use Rattle.cycle_parts.proofs.CountLaws.{counted_both, counted_least}
use Rattle.cycle_settle.specs.Settling.{kept_of, AreRaised, raised_by}
use Rattle.cycle_run.specs.Tally.{comb_raised, AreFew, CanRaise}

no_more : {X : Type 0} (xs : List X) → xs ++ [] ≡ xs
no_more [] = refl
no_more (x ∷ xs) = ap (λ l. x ∷ l) (no_more xs)

-- what is kept of the combinational processes among the first n
abbrev pub kept_below : Design → List Raised → ℕ → List ℕ
kept_below d kept zero = []
kept_below d kept (suc n) = kept_below d kept n ++ cond (is_comb (kind_of d n)) (kept_of kept n).counters []

-- the first n have been counted, and for the others there is room
pub record Counted (d : Design) (kept : List Raised) (n : ℕ) (old new : List ℕ) : Type 0 where
  pub counted : HasCounted old (kept_below d kept n) new
  pub within : length (kept_below d kept n) + (rooms d (drop n d.processes)).counters ≤ (room_of_all d).counters

next_below : (d : Design) (kept : List Raised) (n : ℕ) → kept_below d kept (n + 1) ≡ kept_below d kept n
    ++ cond (is_comb (kind_of d n)) (kept_of kept n).counters []
next_below d kept n = ap (kept_below d kept) (one n)
  where
    one : (n : ℕ) → n + 1 ≡ suc n
    one n = omega arith

pub none_counted : (d : Design) (kept : List Raised) (counts : List ℕ) → Counted d kept 0 counts counts
none_counted d kept counts = record { counted = record { as_many = refl; each = λ k lt. omega arith }; within = omega arith }

room_here : (d : Design) (n : ℕ) → n < length d.processes → (rooms d (drop n d.processes)).counters
    ≡ (room_of d (process_of d n)).counters + (rooms d (drop (n + 1) d.processes)).counters
room_here d n lt = ap (λ ps. (rooms d ps).counters) (drop_more d.processes n no_process lt)

-- there is room to raise what is kept of one more
pub can_raise : (d : Design) (kept : List Raised) (n : ℕ) (old new : List ℕ) → n < length d.processes → AreFew d kept → IsTrue (is_comb (kind_of d n))
    → CanRaise old (room_of_all d).counters
    → Counted d kept n old new → (k : ℕ) → slice_index new k + length (kept_of kept n).counters < 2 ^ 64
can_raise d kept n old new lt few c fit h k = omega
    (arith, fit k, counted_least old (kept_below d kept n) new k h.counted, h.within, room_here d n lt, few.few n lt c)

pub one_counted : (d : Design) (kept : List Raised) (n : ℕ) (old mid new : List ℕ) → n < length d.processes → AreFew d kept → is_comb (kind_of d n) ≡ true
    → Counted d kept n old mid → HasCounted mid (kept_of kept n).counters new → Counted d kept (n + 1) old new
one_counted d kept n old mid new lt few c h one = record {
  counted = subst (λ r. HasCounted old r new) (sym here) (counted_both old mid new (kept_below d kept n) (kept_of kept n).counters h.counted one);
  within = omega (arith, h.within, room_here d n lt, few.few n lt c, ap length here, length-append (kept_below d kept n) (kept_of kept n).counters);
}
  where
    here : kept_below d kept (n + 1) ≡ kept_below d kept n ++ (kept_of kept n).counters
    here = next_below d kept n ∙ ap (λ b. kept_below d kept n ++ cond b (kept_of kept n).counters []) c

pub not_counted : (d : Design) (kept : List Raised) (n : ℕ) (old new : List ℕ) → n < length d.processes → is_comb (kind_of d n) ≡ false
    → Counted d kept n old new → Counted d kept (n + 1) old new
not_counted d kept n old new lt c h = record {
  counted = subst (λ r. HasCounted old r new) (sym here) h.counted;
  within = omega (arith, h.within, room_here d n lt, ap length here);
}
  where
    here : kept_below d kept (n + 1) ≡ kept_below d kept n
    here = next_below d kept n ∙ ap (λ b. kept_below d kept n ++ cond b (kept_of kept n).counters []) c ∙ no_more (kept_below d kept n)

-- some more of which none is combinational
pub none_counted_on : (d : Design) (kept : List Raised) (n m : ℕ) (old new : List ℕ) → n ≤ m → m ≤ length d.processes
    → ((k : ℕ) → n ≤ k → k < m → is_comb (kind_of d k) ≡ false) → Counted d kept n old new → Counted d kept m old new
none_counted_on d kept n m old new le within none h = subst (λ k. Counted d kept k old new) (omega (arith, le)) (go (m - n) (omega (arith, le)))
  where
    go : (j : ℕ) → n + j ≤ m → Counted d kept (n + j) old new
    go zero le = subst (λ k. Counted d kept k old new) (omega arith) h
    go (suc j) le = subst (λ k. Counted d kept k old new) (omega arith)
        (not_counted d kept (n + j) old new (omega (arith, le, within)) (none (n + j) (omega arith) (omega (arith, le))) (go j (omega (arith, le))))

pub no_comb : (k : ProcessKind) → IsTrue (is_assign k) → is_comb k ≡ false
no_comb kind.Assign h = refl
no_comb kind.Comb h = absurd cc
no_comb kind.Clocked h = absurd cc
no_comb kind.Initial h = absurd cc
no_comb kind.Cover h = absurd cc

-- ---- what is kept is what is raised

raised_here : State → Process → List ℕ
raised_here s p = (run_of p s).notes

abbrev first_raised : Design → State → ℕ → List ℕ
first_raised d s n = flat_map (λ p. (run_of p s).notes) (filter (λ p. is_comb p.kind) (take n d.processes))

one_raised : (s : State) (p : Process) → flat_map (λ p. (run_of p s).notes) (filter (λ p. is_comb p.kind) (p ∷ []))
    ≡ cond (is_comb p.kind) (run_of p s).notes []
one_raised s p = go (is_comb p.kind)
  where
    go : (b : Bool) → flat_map (λ p. (run_of p s).notes) (cond b (p ∷ []) []) ≡ cond b (run_of p s).notes []
    go true = no_more (run_of p s).notes
    go false = refl

more_raised : (d : Design) (s : State) (n : ℕ) → n < length d.processes
    → first_raised d s (n + 1) ≡ first_raised d s n ++ cond (is_comb (kind_of d n)) (raised_by d n s) []
more_raised d s n lt =
    ap (λ ps. flat_map (λ p. (run_of p s).notes) (filter (λ p. is_comb p.kind) ps)) (take_more d.processes n no_process lt)
    ∙ ap (flat_map (λ p. (run_of p s).notes)) (filter-append (λ p. is_comb p.kind) (take n d.processes) (process_of d n ∷ []))
    ∙ flat_map-append (λ p. (run_of p s).notes) (filter (λ p. is_comb p.kind) (take n d.processes)) (filter (λ p. is_comb p.kind) (process_of d n ∷ []))
    ∙ ap (λ l. first_raised d s n ++ l) (one_raised s (process_of d n))

same_one : (d : Design) (s : State) (kept : List Raised) (n : ℕ) → AreRaised d s kept
    → cond (is_comb (kind_of d n)) (kept_of kept n).counters [] ≡ cond (is_comb (kind_of d n)) (raised_by d n s) []
same_one d s kept n are = elim (cases_Bool (is_comb (kind_of d n))) [
  | inl c ↦ ap (λ b. cond b (kept_of kept n).counters []) c ∙ are n (comb_settles (kind_of d n) c) ∙ sym (ap (λ b. cond b (raised_by d n s) []) c)
  | inr c ↦ ap (λ b. cond b (kept_of kept n).counters []) c ∙ sym (ap (λ b. cond b (raised_by d n s) []) c)
]

below_is : (d : Design) (s : State) (kept : List Raised) → AreRaised d s kept → (n : ℕ) → n ≤ length d.processes → kept_below d kept n ≡ first_raised d s n
below_is d s kept are zero le = refl
below_is d s kept are (suc n) le = ap₂ (λ a b. a ++ b) (below_is d s kept are n (omega (arith, le))) (same_one d s kept n are)
    ∙ sym (more_raised d s n (omega (arith, le))) ∙ ap (first_raised d s) (one n)
  where
    one : (n : ℕ) → n + 1 ≡ suc n
    one n = omega arith

comb_is : (d : Design) (s : State) → first_raised d s (length d.processes) ≡ comb_raised d s
comb_is d s = ap (λ ps. flat_map (λ p. (run_of p s).notes) (filter (λ p. is_comb p.kind) ps)) (take_all (length d.processes) d.processes (omega arith))
    ∙ sym (ap (flat_map (λ p. (p.run s).notes)) (chosen is_comb d.processes) ∙ each (processes_that is_comb d))
  where
    each : (ps : List Process) → flat_map (λ p. (p.run s).notes) (map as_process ps) ≡ flat_map (λ p. (run_of p s).notes) ps
    each [] = refl
    each (p ∷ ps) = ap (λ l. (run_of p s).notes ++ l) (each ps)

pub all_counted : (d : Design) (kept : List Raised) (n : ℕ) (old new : List ℕ) → n ≡ length d.processes → Counted d kept n old new
    → (s : State) → AreRaised d s kept → HasCounted old (comb_raised d s) new
all_counted d kept n old new e h s are = subst (λ r. HasCounted old r new) (ap (kept_below d kept) e
    ∙ below_is d s kept are (length d.processes) (omega arith) ∙ comb_is d s) h.counted

-- how many are raised
comb_room : (d : Design) (s : State) (kept : List Raised) (n : ℕ) → AreFew d kept → n ≤ length d.processes
    → length (kept_below d kept n) + (rooms d (drop n d.processes)).counters ≤ (room_of_all d).counters
comb_room d s kept zero few le = omega arith
comb_room d s kept (suc n) few le = subst (λ m. length (kept_below d kept (suc n)) + (rooms d (drop m d.processes)).counters ≤ (room_of_all d).counters) (one n)
    (elim (cases_Bool (is_comb (kind_of d n))) [
      | inl c ↦ omega (
        arith,
        comb_room d s kept n few (omega (arith, le)),
        room_here d n (omega (arith, le)),
        few.few n (omega (arith, le)) c,
        ap length (ap (λ b. kept_below d kept n ++ cond b (kept_of kept n).counters []) c),
        length-append (kept_below d kept n) (kept_of kept n).counters,
      )
      | inr c ↦ omega (
        arith,
        comb_room d s kept n few (omega (arith, le)),
        room_here d n (omega (arith, le)),
        ap length (ap (λ b. kept_below d kept n ++ cond b (kept_of kept n).counters []) c ∙ no_more (kept_below d kept n)),
      )
    ])
  where
    one : (n : ℕ) → n + 1 ≡ suc n
    one n = omega arith

pub comb_few : (d : Design) (s : State) (kept : List Raised) → AreFew d kept → AreRaised d s kept → length (comb_raised d s) ≤ (room_of_all d).counters
comb_few d s kept few are = omega
    (arith, comb_room d s kept (length d.processes) few (omega arith), ap length (below_is d s kept are (length d.processes) (omega arith) ∙ comb_is d s))

-- no more is kept of a process than a run raises
pub are_few : (d : Design) (s : State) (kept : List Raised) → IsValidDesign d → IsStateOf d s → length kept ≡ length d.processes → AreRaised d s kept
    → AreFew d kept
are_few d s kept valid hs many are = record {
  as_many = many;
  few = λ p lt c. omega (arith, ap length (are p (comb_settles (kind_of d p) c)), (runs_within d p s valid hs lt).counters);
}

pub room_for_toggles : (d : Design) (s : State) (kept : List Raised) (old new : List ℕ) (n k : ℕ) → AreFew d kept → AreRaised d s kept
    → CanRaise old ((room_of_all d).counters + n)
    → HasCounted old (comb_raised d s) new → slice_index new k + n < 2 ^ 64
room_for_toggles d s kept old new n k few are fit h = omega (arith, fit k, counted_least old (comb_raised d s) new k h, comb_few d s kept few are)
