-- A `sim` that runs well is done.
use Rattle.std.proofs.Common.{◌≡◌, ◌∙◌, ap, subst, refl, ℕ, List, length, Option, None, Some, Result, Ok, Err, arith}
use Rattle.cov_port.specs.Files.{Names}
use Rattle.design_tree.specs.declared.instrumented.Instrumented.{Instrumented}
use Rattle.circuit_run.specs.Ends.{End, goes, finished, stopped}
use Rattle.design_meaning.specs.FlowFaults.{Fault, IsFaultOf}
use Rattle.design_meaning.specs.Runs.{IsRun}
use Rattle.cvd_text.specs.Fault.{IsFlaw}
use Rattle.cvd_text.specs.Laws.{OneDesign}
use Rattle.cvd_text.specs.Spelling.{Cvd}
use Rattle.stim_lines.specs.Header.{inputs_of}
use Rattle.stim_lines.specs.Stimulus.{stimulus_of}
use Rattle.stim_lines.specs.declared.fault.StimFault.{StimFault}
use Rattle.stim_lines.specs.declared.row.StimText.{StimText}
use Rattle.command_ending.specs.Answer.{Answer}
use Rattle.command_ending.specs.declared.status.Status.TheVariants.{Done}
use Rattle.sim_answer.specs.Laws.{NeverBoth}
use Rattle.sim_answer.specs.SimAnswer.{HoldsDesign, IsSimAnswer, bad_design, bad_header, no_design, no_stimulus, ran, run_answer, too_long, values_of}
use Rattle.sim_answer.specs.Simulation.{Simulation}
use Rattle.cov_program.specs.Laws.{RunsWell}

none_some : (o : Option (List ℕ)) (text : List ℕ) → o ≡ None → o ≡ Some text → ⊥
none_some o text none some = absurd (cc)

same_some : (o : Option (List ℕ)) (a b : List ℕ) → o ≡ Some a → o ≡ Some b → a ≡ b
same_some o a b one two = cc

not_both : (r : Result StimText StimFault) (flaw : StimFault) (stim : StimText) → r ≡ Err flaw → r ≡ Ok stim → ⊥
not_both r flaw stim one two = absurd (cc)

same_rows : (r : Result StimText StimFault) (a b : StimText) → r ≡ Ok a → r ≡ Ok b → a ≡ b
same_rows r a b one two = cc

-- a run that isn't stopped, on a stimulus without a fault
ends_done : (asked : Simulation) (x : Instrumented) (flaw : Option StimFault) (out : List ℕ) (end : End) (counts : List ℕ) → flaw ≡ None
    → (end ≡ stopped → ⊥) → (run_answer asked x flaw out end counts).status ≡ Done
ends_done asked x None out goes counts none unstopped = refl
ends_done asked x (Some flaw) out goes counts none unstopped = absurd (cc)
ends_done asked x flaw out finished counts none unstopped = refl
ends_done asked x flaw out stopped counts none unstopped = absurd (unstopped refl)

module _ (designs : OneDesign) (never : NeverBoth) (held : Names) (asked : Simulation) (well : RunsWell held asked) where
  same_design : (x : Instrumented) → HoldsDesign held asked.design x → x ≡ well.design
  same_design x h =
      designs x well.design well.holds_design.text
      (subst (Cvd x) (same_some (held asked.design) h.text well.holds_design.text h.holds well.holds_design.holds) h.spelled) well.holds_design.spelled

  -- what is read of the stimulus, by whichever design and text
  same_reading : (x : Instrumented) (text : List ℕ) → HoldsDesign held asked.design x → held asked.stimulus ≡ Some text
      → stimulus_of (inputs_of x.design) text ≡ Ok well.stim
  same_reading x text h holds =
      ap (λ (y : Instrumented). stimulus_of (inputs_of y.design) text) (same_design x h)
      ∙ (ap (stimulus_of (inputs_of well.design.design)) (same_some (held asked.stimulus) text well.text holds well.holds) ∙ well.read)

  ran_done : (x : Instrumented) (stim : StimText) (out : List ℕ) (end : End) (counts : List ℕ) → x ≡ well.design → stim ≡ well.stim
      → IsRun x (values_of stim.rows) out end counts → (run_answer asked x stim.fault out end counts).status ≡ Done
  ran_done x stim out end counts same_x same_s run =
      let here : IsRun well.design (values_of well.stim.rows) out end counts =
      subst (λ (y : Instrumented). IsRun y (values_of well.stim.rows) out end counts) same_x
      (subst (λ (s : StimText). IsRun x (values_of s.rows) out end counts) same_s run) in
      ends_done asked x stim.fault out end counts (ap (λ (s : StimText). s.fault) same_s ∙ well.whole)
      (λ is. well.unstopped out counts (subst (λ (e : End). IsRun well.design (values_of well.stim.rows) out e counts) is here))

  pub runs_done : (answer : Answer) → IsSimAnswer held asked answer → answer.status ≡ Done
  runs_done answer (no_design none) = absurd (none_some (held asked.design) well.holds_design.text none well.holds_design.holds)
  runs_done answer (too_long text holds long) =
      let same = ap length (same_some (held asked.design) text well.holds_design.text holds well.holds_design.holds) in
      let within = well.holds_design.within in
      absurd (omega (arith, same, long, within))
  runs_done answer (bad_design text flaw holds within is) =
      absurd (never well.design well.holds_design.text flaw well.holds_design.spelled well.holds_design.flows
      (subst (λ (t : List ℕ). IsFlaw Fault IsFaultOf t flaw) (same_some (held asked.design) text well.holds_design.text holds well.holds_design.holds) is))
  runs_done answer (no_stimulus x h none) = absurd (none_some (held asked.stimulus) well.text none well.holds)
  runs_done answer (bad_header x text flaw h holds is) =
      absurd (not_both (stimulus_of (inputs_of x.design) text) flaw well.stim is (same_reading x text h holds))
  runs_done answer (ran x text stim out end counts h holds is run) =
      ran_done x stim out end counts (same_design x h)
      (same_rows (stimulus_of (inputs_of x.design) text) stim well.stim is (same_reading x text h holds)) run
