-- The loop over the processes of a phase: the first n have been looked at.
use Rattle.std.proofs.Common.{◌≡◌, ◌∙◌, sym, ap, subst, refl, ℕ, zero, suc, ◌+◌, ◌-◌, ◌<◌, ◌≤◌, Bool, true, false, [], ◌∷◌, length, drop, arith, filter, map}
use Rattle.std.specs.Prelude.{All}
use Rattle.std.proofs.lemmas.List.{drop_more, take_all, length-append}
use Rattle.std.proofs.lemmas.List.Elements.{All-append}
use Rattle.cov_types.specs.declared.kind.ProcessKind.{ProcessKind}
use Rattle.design_tree.specs.declared.design.Process.{Process}
use Rattle.design_tree.specs.declared.design.Design.{Design}
use Rattle.circuit_run.specs.States.{State}
use Rattle.circuit_run.specs.Outcomes.{Outcome, in_turn, joined}
use Rattle.design_meaning.specs.States.{IsStateOf}
use Rattle.design_meaning.specs.Steps.{run_of}
use Rattle.design_meaning.specs.Processes.{process_of, kind_of, processes_that, no_process}
use Rattle.design_meaning.specs.RunLaws.{after}
use Rattle.design_meaning.specs.Valid.{IsValidDesign}
use Rattle.design_meaning.proofs.RunTheorems.{runs_keep_states}
use Rattle.flat_design.specs.Effects.{Room, Effects, HasRoom, IsWithin, added, empty, room_of, room_of_all}
use Rattle.flat_design.proofs.NeedsIn.{rooms}
use Rattle.flat_design.proofs.Rooms.{added_more}
use Rattle.flat_design.proofs.RunWithin.{runs_within}
use Rattle.flat_design.proofs.UpdateLaws.{updates_stand}
use Rattle.cycle_phases.specs.Phases.{turns}
use Rattle.cycle_phases.proofs.Joined.{first_of, first_turns, here, not_here, turned, not_turned}

pub record Turning (sort : ProcessKind → Bool) (d : Design) (s : State) (n : ℕ) (now : State) (e : Effects) (old new : ℕ) : Type 0 where
  pub of : IsStateOf d now
  pub state : now ≡ (first_turns sort d n s).state
  pub effects : e ≡ added (empty (room_of_all d)) (first_turns sort d n s)
  pub fits : HasRoom e (rooms d (drop n d.processes))
  pub stand : All (λ part. part.var < length d.vars) e.updates
  pub ticks : new ≡ old + length (first_of sort d n)

pub begins : (sort : ProcessKind → Bool) (d : Design) (s : State) (e : Effects) (room : Room) (ticks : ℕ) → IsStateOf d s → e ≡ empty room
    → room ≡ room_of_all d → Turning sort d s 0 s e ticks ticks
begins sort d s e room ticks hs is same = subst (λ e. Turning sort d s 0 s e ticks ticks) (sym (is ∙ ap empty same)) (record {
  of = hs;
  state = refl;
  effects = refl;
  fits = record { for_updates = omega arith; for_bytes = omega arith; for_counters = omega arith };
  stand = λ k d lt. absurd (omega (arith, lt));
  ticks = omega arith;
})

module _ (sort : ProcessKind → Bool) (d : Design) (s : State) (n : ℕ) (now : State) (e : Effects) (old new : ℕ) (lt : n < length d.processes)
    (t : Turning sort d s n now e old new) where
  abbrev p : Process
  p = process_of d n

  fits_here : HasRoom e (rooms d (process_of d n ∷ drop (n + 1) d.processes))
  fits_here = subst (λ ps. HasRoom e (rooms d ps)) (drop_more d.processes n no_process lt) t.fits

  pub has_room : HasRoom e (room_of d (process_of d n))
  has_room = record {
    for_updates = omega (arith, fits_here.for_updates);
    for_bytes = omega (arith, fits_here.for_bytes);
    for_counters = omega (arith, fits_here.for_counters);
  }

  pub one_turn : IsValidDesign d → sort (process_of d n).kind ≡ true
      → Turning sort d s (n + 1) (after d n now) (added e (run_of (process_of d n) now)) old (new + 1)
  one_turn valid k = record {
    of = runs_keep_states d n now valid t.of;
    state = ap (λ u. (run_of (process_of d n) u).state) t.state ∙ sym (ap (λ o. o.state) (turned sort d n s lt k));
    effects = ap (λ x. added x (run_of (process_of d n) now)) t.effects
        ∙ added_more (empty (room_of_all d)) (first_turns sort d n s) (run_of (process_of d n) now)
        ∙ ap (λ u. added (empty (room_of_all d)) (joined (first_turns sort d n s) (run_of (process_of d n) u))) t.state
        ∙ ap (added (empty (room_of_all d))) (sym (turned sort d n s lt k));
    fits = record {
      for_updates = omega (arith, fits_here.for_updates, within.updates, length-append e.updates run.updates);
      for_bytes = omega (arith, fits_here.for_bytes, within.bytes, length-append e.text run.text);
      for_counters = omega (arith, fits_here.for_counters, within.counters, length-append e.raised run.notes);
    };
    stand = All-append (λ part. part.var < length d.vars) e.updates run.updates t.stand
        (subst (λ m. All (λ part. part.var < m) run.updates) (runs_keep_states d n now valid t.of).as_many (updates_stand d n now valid t.of lt));
    ticks = omega (arith, t.ticks, ap length (here sort d n lt k), length-append (first_of sort d n) (process_of d n ∷ []));
  }
    where
      run : Outcome ℕ
      run = run_of (process_of d n) now

      within : IsWithin (run_of (process_of d n) now) (room_of d (process_of d n))
      within = runs_within d n now valid t.of lt

  pub no_turn : sort (process_of d n).kind ≡ false → Turning sort d s (n + 1) now e old new
  no_turn k = record {
    of = t.of;
    state = t.state ∙ sym (ap (λ o. o.state) (not_turned sort d n s lt k));
    effects = t.effects ∙ ap (added (empty (room_of_all d))) (sym (not_turned sort d n s lt k));
    fits = record {
      for_updates = omega (arith, fits_here.for_updates);
      for_bytes = omega (arith, fits_here.for_bytes);
      for_counters = omega (arith, fits_here.for_counters);
    };
    stand = t.stand;
    ticks = t.ticks ∙ ap (λ ps. old + length ps) (sym (not_here sort d n lt k));
  }

-- some more of which none is of these kinds
pub no_turns : (sort : ProcessKind → Bool) (d : Design) (s : State) (n m : ℕ) (now : State) (e : Effects) (old new : ℕ) → n ≤ m → m ≤ length d.processes
    → ((k : ℕ) → n ≤ k → k < m → sort (kind_of d k) ≡ false) → Turning sort d s n now e old new → Turning sort d s m now e old new
no_turns sort d s n m now e old new le within none t = subst (λ k. Turning sort d s k now e old new) (omega (arith, le)) (go (m - n) (omega (arith, le)))
  where
    go : (j : ℕ) → n + j ≤ m → Turning sort d s (n + j) now e old new
    go zero le = subst (λ k. Turning sort d s k now e old new) (omega arith) t
    go (suc j) le = subst (λ k. Turning sort d s k now e old new) (omega arith)
        (no_turn sort d s (n + j) now e old new (omega (arith, le, within)) (go j (omega (arith, le))) (none (n + j) (omega arith) (omega (arith, le))))

pub all_first : (sort : ProcessKind → Bool) (d : Design) (n : ℕ) → length d.processes ≤ n → first_of sort d n ≡ processes_that sort d
all_first sort d n past = ap (filter (λ p. sort p.kind)) (take_all n d.processes past)

pub all_turns : (sort : ProcessKind → Bool) (d : Design) (s : State) (n : ℕ) → length d.processes ≤ n → first_turns sort d n s ≡ turns sort d s
all_turns sort d s n past = ap (λ ps. in_turn (map run_of ps) s) (all_first sort d n past)
