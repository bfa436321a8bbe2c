-- What holds of the notes of each run of each process, and of lists put together, holds of all notes of a run.
use Rattle.std.specs.Prelude.{ℕ, Bool, true, false, cond, List, [], ◌∷◌, ◌++◌, map, filter, flat_map}
use Rattle.std.specs.List.{AllByRecursion}
use Rattle.std.proofs.Common.{sym, subst}
use Rattle.circuit_run.specs.States.{State}
use Rattle.circuit_run.specs.Outcomes.{in_turn}
use Rattle.circuit_run.specs.Circuits.{Circuit, Process, of_kind}
use Rattle.circuit_run.specs.Kinds.{is_initial, is_comb, runs_at_edge}
use Rattle.cov_types.specs.declared.kind.ProcessKind.{ProcessKind}
use Rattle.circuit_run.specs.Edges.{edge_notes}
use Rattle.circuit_run.specs.Runs.{Cycle, cycle_on, IsCycle, AreCycles, no_rows, last, more, Run, IsRun, all_notes}

module _ {N : Type 0} (P : List N → Type 0) (none : P []) (both : (xs ys : List N) → P xs → P ys → P (xs ++ ys)) where
  -- whatever a process runs from, its notes are like this
  abbrev pub Notes : Process N → Type 0
  Notes p = (s : State) → P (p.run s).notes

  abbrev pub AllNote : List (Process N) → Type 0
  AllNote ps = AllByRecursion Notes ps

  picked : (b : Bool) (p : Process N) (ps : List (Process N)) → Notes p → AllNote ps → AllNote (cond b (p ∷ ps) ps)
  picked true p ps h hs = (h, hs)
  picked false p ps h hs = hs

  of_sort : (sort : ProcessKind → Bool) (ps : List (Process N)) → AllNote ps → AllNote (filter (λ p. sort p.kind) ps)
  of_sort sort [] hs = hs
  of_sort sort (p ∷ ps) hs = picked (sort p.kind) p (filter (λ q. sort q.kind) ps) hs.0 (of_sort sort ps hs.1)

  turns : (ps : List (Process N)) → AllNote ps → (s : State) → P (in_turn (map (λ p. p.run) ps) s).notes
  turns [] hs s = none
  turns (p ∷ ps) hs s = both (p.run s).notes (in_turn (map (λ q. q.run) ps) (p.run s).state).notes (hs.0 s) (turns ps hs.1 (p.run s).state)

  apart : (ps : List (Process N)) → AllNote ps → (s : State) → P (flat_map (λ p. (p.run s).notes) ps)
  apart [] hs s = none
  apart (p ∷ ps) hs s = both (p.run s).notes (flat_map (λ q. (q.run s).notes) ps) (hs.0 s) (apart ps hs.1 s)

  edges : (ps : List (Process N)) → AllNote ps → (s : State) → P (flat_map (λ o. o.notes) (map (λ p. p.run s) ps))
  edges [] hs s = none
  edges (p ∷ ps) hs s = both (p.run s).notes (flat_map (λ o. o.notes) (map (λ q. q.run s) ps)) (hs.0 s) (edges ps hs.1 s)

  module _ (c : Circuit N) (all : AllNote c.processes) where
    cycle_notes : (s : State) → P (cycle_on c s).notes
    cycle_notes s = both (flat_map (λ p. (p.run s).notes) (of_kind is_comb c)) (edge_notes c s)
        (apart (of_kind is_comb c) (of_sort is_comb c.processes all) s)
        (edges (of_kind runs_at_edge c) (of_sort runs_at_edge c.processes all) s)

    of_cycle : (registers : State) (inputs : List ℕ) (after : State) (k : Cycle N) → IsCycle c registers inputs after k → P k.notes
    of_cycle registers inputs after k i = subst (λ x. P x.notes) (sym i.on) (cycle_notes k.settled)

    of_cycles : {registers : State} {rows : List (List ℕ)} {ks : List (Cycle N)} → AreCycles c registers rows ks → P (flat_map (λ k. k.notes) ks)
    of_cycles no_rows = none
    of_cycles (last {registers} {after} {inputs} {rows} {k} i stops) = both k.notes [] (of_cycle registers inputs after k i) none
    of_cycles (more {registers} {after} {inputs} {rows} {k} {ks} i goes rest) =
        both k.notes (flat_map (λ x. x.notes) ks) (of_cycle registers inputs after k i) (of_cycles rest)

    pub of_run : (rows : List (List ℕ)) (r : Run N) → IsRun c rows r → P (all_notes r)
    of_run rows r i = both r.opened.notes (flat_map (λ k. k.notes) r.cycles)
        (subst (λ x. P x.notes) (sym i.opened) (turns (of_kind is_initial c) (of_sort is_initial c.processes all) i.start))
        (of_cycles i.cycles)
