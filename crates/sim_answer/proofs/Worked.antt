-- A few refusals and one whole answer, by computation.
use Rattle.std.specs.Prelude.{◌≡◌, ℕ, List, [], ◌∷◌, ◌++◌, codes, Some, refl}
use Rattle.std.specs.Fmt.{digits}
use Rattle.std.specs.List.{flat_map}
use Rattle.std.proofs.Common.{ap}
use Rattle.cov_port.specs.Files.{Names}
use Rattle.cov_types.specs.declared.limit.LimitName.TheVariants.{StimulusBytes}
use Rattle.design_tree.specs.declared.instrumented.Instrumented.{Instrumented}
use Rattle.circuit_run.specs.Ends.{goes, stopped}
use Rattle.design_meaning.specs.FlowFaults.{comb_loop}
use Rattle.design_meaning.specs.Runs.{IsRun}
use Rattle.cvd_text.specs.Fault.{trailing, bad_number, invalid}
use Rattle.stim_lines.specs.Header.{Input, inputs_of}
use Rattle.stim_lines.specs.Stimulus.{stimulus_of}
use Rattle.stim_lines.specs.declared.fault.StimFault.TheVariants.{BadValue, TooManyCycles, Limit as PassesLimit}
use Rattle.command_ending.specs.declared.status.Status.TheVariants.{BadStimulus, Stopped}
use Rattle.sim_answer.specs.Refusals.{design_refusal, stimulus_refusal}
use Rattle.sim_answer.specs.Simulation.{Simulation}
use Rattle.sim_answer.specs.SimAnswer.{HoldsDesign, IsSimAnswer, data_store, ran, run_answer, values_of}

-- lines, each ended by a line feed
abbrev text_of : List (List ℕ) → List ℕ
text_of ls = flat_map (λ l. l ++ 10 ∷ []) ls

-- ---- lines of refusals

bytes_behind : (design_refusal (codes "a.cvd") (trailing 107)).line ≡ text_of (codes "vcov: BadData: a.cvd@107: Trailing" ∷ [])
unfolding digits
bytes_behind = refl

other_word : (design_refusal (codes "a.cvd") (bad_number 6)).line ≡ text_of (codes "vcov: BadData: a.cvd@6: BadNumber" ∷ [])
unfolding digits
other_word = refl

circle : (design_refusal (codes "a.cvd") (invalid (comb_loop (1 ∷ [])))).line ≡ text_of (codes "vcov: BadData: a.cvd@0: CombLoop" ∷ [])
unfolding digits
circle = refl

cycles : (stimulus_refusal [] (codes "t.stim") (TooManyCycles 3)).line ≡ text_of (codes "vcov: BadStimulus: t.stim:3: TooManyCycles" ∷ [])
unfolding digits
cycles = refl

bytes : (stimulus_refusal [] (codes "t.stim") (PassesLimit StimulusBytes)).line ≡ text_of (codes "vcov: Limit: stimulus bytes 1099511627776" ∷ [])
unfolding digits
bytes = refl

-- each row stands for as many cycles as it repeats
repeats : values_of (record {
  values =
      0 ∷ 1 ∷ [];
  repeat = 2;
} ∷ record { values = 1 ∷ 0 ∷ []; repeat = 1 } ∷ []) ≡ (0 ∷ 1 ∷ []) ∷ (0 ∷ 1 ∷ []) ∷ (1 ∷ 0 ∷ []) ∷ []
repeats = refl

-- ---- whole answers

abbrev asked : Simulation
asked = record { design = codes "c.cvd"; stimulus = codes "t.stim"; data_name = codes "coverage.dat"; count_bits = 64 }

-- behind `$stop` a bad row doesn't matter, and the data file is stored
stops : (x : Instrumented) (out counts : List ℕ)
    → run_answer asked x (Some (BadValue 4)) out stopped counts
    ≡ record { status = Stopped; out = out; line = text_of (codes "vcov: Stopped" ∷ []); stores = data_store asked x counts ∷ [] }
stops x out counts = refl

abbrev bad_fourth : List ℕ
bad_fourth = text_of (codes "rst a" ∷ codes "0 1" ∷ codes "0 1" ∷ codes "0 1g" ∷ [])

-- a stimulus whose fourth line is bad, whatever a design with these inputs prints on the rows before
module _ (x : Instrumented) (inputs : inputs_of x.design ≡ record { name = codes "rst"; width = 1 } ∷ record { name = codes "a"; width = 1 } ∷ [])
    (files : Names) (holds : HoldsDesign files (codes "c.cvd") x) (stimulus : files (codes "t.stim") ≡ Some bad_fourth)
    (out counts : List ℕ) (runs : IsRun x ((0 ∷ 1 ∷ []) ∷ (0 ∷ 1 ∷ []) ∷ []) out goes counts) where
  bad_value : IsSimAnswer files asked (record {
    status =
        BadStimulus;
    out = out;
    line = text_of (codes "vcov: BadStimulus: t.stim:4: BadValue" ∷ []);
    stores = [];
  })
  unfolding digits
  bad_value = ran x bad_fourth
      (record { rows = record { values = 0 ∷ 1 ∷ []; repeat = 1 } ∷ record { values = 0 ∷ 1 ∷ []; repeat = 1 } ∷ []; fault = Some (BadValue 4) })
      out goes counts holds stimulus (ap (λ (is : List Input). stimulus_of is bad_fourth) inputs) runs
