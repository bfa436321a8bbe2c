-- What the run of a design on a stimulus, whose header was read, comes to.
use Rattle.std.proofs.Common.{◌≡◌, ◌∙◌, ap, refl, subst, ℕ, List, Option, None, Some}
use Rattle.std.specs.Prelude.{IfSome}
use Rattle.cov_port.specs.Files.{Names}
use Rattle.design_tree.specs.declared.instrumented.Instrumented.{Instrumented}
use Rattle.circuit_run.specs.Ends.{End, goes, finished, stopped}
use Rattle.design_meaning.specs.Runs.{IsRun}
use Rattle.stim_lines.specs.Reading.{line_of}
use Rattle.stim_lines.specs.declared.fault.StimFault.{StimFault}
use Rattle.stimulus.specs.Lines.{IsFrugal, StandsIn}
use Rattle.stimulus.specs.Streaming.{ReaderState, rows_left}
use Rattle.sim_answer.specs.Refusals.{stimulus_refusal}
use Rattle.sim_answer.specs.SimAnswer.{HoldsDesign, IsSimAnswer, data_store, ran, run_answer, values_of}
use Rattle.sim_answer.specs.Simulation.{Simulation}
use Rattle.sim_answer.specs.Underway.{PrintsOn}
use Rattle.sim_frame.specs.Heads.{IsBegun}
use Rattle.sim_frame.specs.RunEnds.{is_stop}
use Rattle.sim_frame.specs.Sparing.{TakesFew, fault_of}
use Rattle.sim_frame.proofs.EndLemmas.{RunsOn, ended_answer}

module _ (asked : Simulation) (x : Instrumented) (reader : ReaderState) (rest : Option (List ℕ)) where
  abbrev Holds : Names → Type 0
  Holds held = HoldsDesign held asked.design x

  abbrev Begun : Names → Type 0
  Begun held = IsBegun held asked.stimulus x.design reader rest

  -- ---- a run that is at its end

  by_end : (held : Names) (flaw : Option StimFault) (end : End) (text counts : List ℕ) → (end ≡ goes → flaw ≡ None)
      → IsSimAnswer held asked (run_answer asked x flaw text end counts)
      → IsSimAnswer held asked (ended_answer (is_stop end) text (data_store asked x counts))
  by_end held flaw goes text counts none is =
      subst (λ (o : Option StimFault). IsSimAnswer held asked (run_answer asked x o text goes counts)) (none refl) is
  by_end held flaw finished text counts none is = is
  by_end held flaw stopped text counts none is = is

  pub ended_is : (told : Option Names) (end : End) (text counts : List ℕ) → IfSome told Holds → IfSome told Begun
      → IfSome (rows_left reader rest) (λ stim. IsRun x (values_of stim.rows) text end counts)
      → (end ≡ goes → IfSome (rows_left reader rest) (λ stim. stim.fault ≡ None))
      → IfSome told (λ held. IsSimAnswer held asked (ended_answer (is_stop end) text (data_store asked x counts)))
  ended_is None end text counts holds begun run whole = tt
  ended_is (Some held) end text counts holds begun run whole =
      let of : end ≡ goes → begun.left.fault ≡ None = λ same. rw begun.told at (whole same) in
      by_end held begun.left.fault end text counts of
      (ran x begun.text begun.left text end counts holds begun.holds begun.says (rw begun.told at run))

  -- ---- a stimulus that is refused behind rows

  pub refused_is : (told : Option Names) (flaw : StimFault) (text counts : List ℕ) → IfSome told Holds → IfSome told Begun
      → IfSome (rows_left reader rest) (λ stim. IsRun x (values_of stim.rows) text goes counts)
      → IfSome (rows_left reader rest) (λ stim. stim.fault ≡ Some flaw)
      → IfSome told (λ held. IsSimAnswer held asked (stimulus_refusal text asked.stimulus flaw))
  refused_is None flaw text counts holds begun run fault = tt
  refused_is (Some held) flaw text counts holds begun run fault =
      let one : begun.left.fault ≡ Some flaw = rw begun.told at fault in
      subst (λ (o : Option StimFault). IsSimAnswer held asked (run_answer asked x o text goes counts)) one
      (ran x begun.text begun.left text goes counts holds begun.holds begun.says (rw begun.told at run))

  pub refused_few : (told : Option Names) (flaw : StimFault) (now : Option (List ℕ)) → IfSome told Holds → IfSome told Begun
      → IfSome (rows_left reader rest) (λ stim. stim.fault ≡ Some flaw)
      → ((text : List ℕ) → StandsIn text reader.lines rest → IfSome (line_of flaw) (λ n. IsFrugal text now n))
      → IfSome told (λ held. TakesFew held asked now)
  refused_few None flaw now holds begun fault few = tt
  refused_few (Some held) flaw now holds begun fault few =
      let one : begun.left.fault ≡ Some flaw = rw begun.told at fault in
      record {
        design = x;
        text = begun.text;
        flaw = flaw;
        holds_design = holds;
        holds = begun.holds;
        is_refused = ap fault_of begun.says ∙ one;
        few = few begun.text begun.stands;
      }

  -- ---- a run that is cut off

  pub runs_on : (told : Option Names) (said : List ℕ) → IfSome told Holds → IfSome told Begun
      → IfSome (rows_left reader rest) (λ stim. PrintsOn x (values_of stim.rows) said) → IfSome told (RunsOn asked x said)
  runs_on None said holds begun on = tt
  runs_on (Some held) said holds begun on = (begun.text, begun.left, holds, begun.holds, begun.says, rw begun.told at on)
