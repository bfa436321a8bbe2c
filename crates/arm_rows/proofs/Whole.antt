-- The rows of a process of each kind, and of a design.
use Rattle.std.proofs.Common.{◌≡◌, ℕ, ◌+◌, ◌<◌, ◌≤◌, List, [], ◌∷◌, ◌++◌, map, length, take, get_or, refl, sym, ◌∙◌, ap, subst, arith}
use Rattle.std.proofs.lemmas.List.{take_all}
use Rattle.std.specs.Prelude.{flat_map}
use Rattle.cov_types.specs.declared.kind.ProcessKind.{ProcessKind}
use Rattle.cov_types.specs.declared.kind.ProcessKind.TheVariants as kind
use Rattle.design_tree.specs.declared.design.Process.{Process}
use Rattle.design_tree.specs.declared.design.Design.{Design}
use Rattle.circuit_run.specs.Lists.{total}
use Rattle.counted_circuit.specs.Circuits.{arms_in}
use Rattle.counted_circuit.specs.Sorts as sort
use Rattle.counted_circuit.specs.Sorts.{process_sorts, sorts}
use Rattle.counted_circuit.specs.Tells.{tells, arms_of, forks_in_turn}
use Rattle.counted_circuit.specs.Balance.{process_forks, forks_from}
use Rattle.arm_rows.specs.declared.row.ArmRow.{ArmRow}
use Rattle.arm_rows.specs.declared.row.ArmRow.TheVariants as row
use Rattle.arm_rows.specs.Rows.{sort_of, Adds, AreRowsOf, arms_of_process, sorts_of_process}
use Rattle.arm_rows.proofs.Adding.{adds_one}
use Rattle.arm_rows.proofs.Listing.{processes_next}
use Rattle.arm_rows.proofs.StepRows.{adds_block}

-- what is put behind the rows for a process
abbrev pub AddsProcess : Process → List ArmRow → List ArmRow → Type 0
AddsProcess p old new = Adds (arms_of_process p) (sorts_of_process p) (process_forks p.kind p.body (length old)) old new

module _ (p : Process) (old new : List ArmRow) where
  abbrev AddsKind : ProcessKind → Type 0
  AddsKind k = Adds (arms_in k p.body) (process_sorts k p.body) (process_forks k p.body (length old)) old new

  pub adds_assignment : p.kind ≡ kind.Assign → new ≡ old ++ row.Assignment ∷ [] → AddsProcess p old new
  adds_assignment is e = subst AddsKind (sym is)
      (subst (λ (xs : List ArmRow). Adds 1 (sort.assignment ∷ []) [] old xs) (sym e) (adds_one old row.Assignment (λ a y h. cc)))

  pub adds_cover : p.kind ≡ kind.Cover → new ≡ old ++ row.Cover ∷ [] → AddsProcess p old new
  adds_cover is e = subst AddsKind (sym is)
      (subst (λ (xs : List ArmRow). Adds 1 (sort.cover ∷ []) [] old xs) (sym e) (adds_one old row.Cover (λ a y h. cc)))

  -- a process whose body is an arm
  pub adds_body : (k : ProcessKind) → p.kind ≡ k → (k ≡ kind.Assign → ⊥) → (k ≡ kind.Cover → ⊥) → (arm : ℕ) (r1 : List ArmRow) → arm ≡ length old
      → r1 ≡ old ++ row.Body ∷ []
      → Adds (arms_of (map tells p.body)) (flat_map sorts p.body) (forks_in_turn (map tells p.body) arm (length r1)) r1 new → AddsProcess p old new
  adds_body kind.Assign is a c arm r1 at e h = absurd (a refl)
  adds_body kind.Cover is a c arm r1 at e h = absurd (c refl)
  adds_body kind.Comb is a c arm r1 at e h = subst AddsKind (sym is) (adds_block row.Body p.body arm old r1 new (λ a y h. cc) at e h)
  adds_body kind.Clocked is a c arm r1 at e h = subst AddsKind (sym is) (adds_block row.Body p.body arm old r1 new (λ a y h. cc) at e h)
  adds_body kind.Initial is a c arm r1 at e h = subst AddsKind (sym is) (adds_block row.Body p.body arm old r1 new (λ a y h. cc) at e h)

-- all of a design
pub all_rows : (d : Design) (rows : List ArmRow)
    → Adds (total (map arms_of_process d.processes)) (flat_map sorts_of_process d.processes) (forks_from 0 d.processes) [] rows → AreRowsOf d rows
all_rows d rows a = record {
  many = ap length a.rows ∙ a.many;
  sorts_are = ap (map sort_of) a.rows ∙ a.sorts_are;
  no_arms = λ n around y lt is. a.no_arms n around y (omega arith) lt is;
}

-- what is put there for the first processes of a design
abbrev pub AddsProcesses : List Process → List ArmRow → Type 0
AddsProcesses ps rows = Adds (total (map arms_of_process ps)) (flat_map sorts_of_process ps) (forks_from 0 ps) [] rows

pub next_process : (ps xs : List Process) (i : ℕ) (x : Process) (mid new : List ArmRow) → xs ≡ ps → i < length xs → x ≡ get_or xs i x
    → AddsProcesses (take i ps) mid → AddsProcess x mid new → AddsProcesses (take (i + 1) ps) new
next_process ps xs i x mid new e lt is before one =
    subst (λ (zs : List Process). AddsProcesses (take (i + 1) zs) new) e
    (processes_next i xs x [] mid new lt is (subst (λ (zs : List Process). AddsProcesses (take i zs) mid) (sym e) before) one)

pub finished : (d : Design) (xs : List Process) (i : ℕ) (rows : List ArmRow) → xs ≡ d.processes → length xs ≤ i → AddsProcesses (take i d.processes) rows
    → AreRowsOf d rows
finished d xs i rows e end before =
    all_rows d rows (subst (λ (zs : List Process). AddsProcesses zs rows)
    (take_all i d.processes (subst (λ (zs : List Process). length zs ≤ i) e end)) before)
