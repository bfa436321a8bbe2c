-- The processes of a phase leave each bit alone that none of them drives.
use Rattle.std.proofs.Common.{◌≡◌, ◌∙◌, sym, subst, refl, ℕ, zero, suc, ◌+◌, ◌<◌, ◌≤◌, Bool, false, length, inl, inr, arith}
use Rattle.std.specs.Prelude.{IsTrue}
use Rattle.std.specs.List.{list_any}
use Rattle.std.proofs.lemmas.Bool.{cases_Bool}
use Rattle.cov_types.specs.declared.kind.ProcessKind.{ProcessKind}
use Rattle.design_tree.specs.declared.design.Design.{Design}
use Rattle.circuit_run.specs.States.{State, Bit, bit}
use Rattle.circuit_run.specs.Outcomes.{Outcome}
use Rattle.design_meaning.specs.States.{IsBitOf, IsStateOf}
use Rattle.design_meaning.specs.Steps.{run_of}
use Rattle.design_meaning.specs.Processes.{process_of, kind_of}
use Rattle.design_meaning.specs.Reach.{drives}
use Rattle.design_meaning.specs.RunLaws.{has_bit}
use Rattle.design_meaning.specs.Valid.{IsValidDesign}
use Rattle.design_meaning.proofs.ListLaws.{any_append}
use Rattle.design_meaning.proofs.RunTheorems.{runs_keep_states}
use Rattle.design_meaning.proofs.Frame.{leaves_others}
use Rattle.cycle_laws.proofs.SetFrame.{parts_leave}
use Rattle.cycle_laws.proofs.Deferred.{defers_driven}
use Rattle.cycle_phases.specs.Phases.{turns}
use Rattle.cycle_phases.specs.Laws.{PhasesLeave}
use Rattle.cycle_phases.proofs.Joined.{first_turns, turned, not_turned}
use Rattle.cycle_phases.proofs.Turning.{all_turns}

-- an outcome of runs from a state that leave a bit alone, now and later
record Leaves (d : Design) (b : Bit) (s : State) (o : Outcome ℕ) : Type 0 where
  of : IsStateOf d o.state
  now : bit o.state b ≡ bit s b
  later : list_any (λ part. has_bit part b) o.updates ≡ false

module _ (d : Design) (sort : ProcessKind → Bool) (s : State) (b : Bit) (valid : IsValidDesign d) (hs : IsStateOf d s) (hb : IsBitOf d b)
    (none : (p : ℕ) → p < length d.processes → IsTrue (sort (kind_of d p)) → drives d p b ≡ false) where
  one_more : (n : ℕ) → n < length d.processes → Leaves d b s (first_turns sort d n s) → Leaves d b s (first_turns sort d (n + 1) s)
  one_more n lt l = elim (cases_Bool (sort (kind_of d n))) [
    | inl k ↦ subst (Leaves d b s) (sym (turned sort d n s lt k)) (record {
      of = runs_keep_states d n (first_turns sort d n s).state valid l.of;
      now = leaves_others d n (first_turns sort d n s).state b valid l.of hb (none n lt k) ∙ l.now;
      later = any_append (λ part. has_bit part b) (first_turns sort d n s).updates (run_of (process_of d n) (first_turns sort d n s).state).updates
          ∙ rw l.later (defers_driven d n (first_turns sort d n s).state b (none n lt k));
    })
    | inr k ↦ subst (Leaves d b s) (sym (not_turned sort d n s lt k)) l
  ]

  leaves : (n : ℕ) → n ≤ length d.processes → Leaves d b s (first_turns sort d n s)
  leaves zero le = record { of = hs; now = refl; later = refl }
  leaves (suc n) le =
      let next : n + 1 ≡ suc n = omega arith in
      subst (λ m. Leaves d b s (first_turns sort d m s)) next (one_more n (omega (arith, le)) (leaves n (omega (arith, le))))

pub phases_leave : PhasesLeave
phases_leave d sort s b valid hs hb none =
    let l : Leaves d b s (turns sort d s) =
    subst (Leaves d b s) (all_turns sort d s (length d.processes) (omega arith))
    (leaves d sort s b valid hs hb none (length d.processes) (omega arith)) in
    parts_leave d (turns sort d s).updates (turns sort d s).state b l.of hb l.later ∙ l.now
