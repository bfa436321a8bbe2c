-- Where the typed form of a source has one run, the source has exactly one.
use Rattle.std.proofs.Common.{◌≡◌, ◌∙◌, sym, ap, ap₂, subst, refl, ℕ, Bool, true, false, List, [], ◌∷◌, map}
use Rattle.design_tree.specs.declared.design.Design.{Design}
use Rattle.circuit_run.specs.Circuits.{Circuit, is_driven}
use Rattle.circuit_run.specs.Kinds.{settles}
use Rattle.circuit_run.specs.Outcomes.{Outcome}
use Rattle.circuit_run.specs.Runs.{IsStart, opening, Cycle, cycle_on, AreCycles, no_rows, last, more, Run, IsRun}
use Rattle.circuit_run.specs.States.{State, Bit, bit, IsBitOf}
use Rattle.circuit_run.specs.Twins.{SameRuns}
use Rattle.circuit_run.proofs.TwinRuns.{twins_run}
use Rattle.circuit_law.proofs.TwinsBack.{twins_run_back}
use Rattle.source_meaning.specs.Events.{Event}
use Rattle.flat_meaning.specs.Circuit as flat
use Rattle.design_meaning.specs.Circuit as design
use Rattle.design_meaning.proofs.StateBits.{bits_tell_states}
use Rattle.typed_form.specs.WholeLaw.{SourceRunsOnce}
use Rattle.typed_form.proofs.Whole.{are_twins}

module _ {N : Type 0} (c : Circuit N) where
  -- a design with the circuit's variables, for what is said of states of designs
  abbrev alike : Design
  alike = record { vars = c.vars; inputs = []; outputs = []; processes = [] }

  -- a bit of a start
  start_bit : (s t : State) → IsStart c s → IsStart c t → (b : Bit) → IsBitOf c.vars b → (driven : Bool) → is_driven settles c b ≡ driven
      → bit s b ≡ bit t b
  start_bit s t i j b here true e = i.driven b here e ∙ sym (j.driven b here e)
  start_bit s t i j b here false e = i.given b here e ∙ sym (j.given b here e)

  -- there is one start
  one_start : (s t : State) → IsStart c s → IsStart c t → s ≡ t
  one_start s t i j = bits_tell_states alike s t i.is_state j.is_state (λ b here. start_bit s t i j b here (is_driven settles c b) refl)

  -- cycles are told by their settled states
  by_settled : {registers : State} {rows : List (List ℕ)} {ks : List (Cycle N)} → AreCycles c registers rows ks
      → ks ≡ map (cycle_on c) (map (λ k. k.settled) ks)
  by_settled no_rows = refl
  by_settled (last {registers} {after} {inputs} {rows} {k} i stops) = ap (λ (x : Cycle N). x ∷ []) i.on
  by_settled (more {registers} {after} {inputs} {rows} {k} {ks} i goes rest) =
      ap₂ (λ (x : Cycle N) (xs : List (Cycle N)). x ∷ xs) i.on (by_settled rest)

  abbrev run_with : Outcome N → List (Cycle N) → Run N
  run_with opened cycles = record { opened = opened; cycles = cycles }

  -- two runs on the same rows with the same settled states are one
  same_run : (rows : List (List ℕ)) (r o : Run N) → IsRun c rows r → IsRun c rows o
      → map (λ k. k.settled) o.cycles ≡ map (λ k. k.settled) r.cycles → o ≡ r
  same_run rows r o i j settled =
      ap₂ run_with (j.opened ∙ ap (opening c) (one_start j.start i.start j.is_start i.is_start) ∙ sym i.opened)
      (by_settled j.cycles ∙ ap (map (cycle_on c)) settled ∙ sym (by_settled i.cycles))

-- the law
pub source_runs_once : SourceRunsOnce
source_runs_once source marks d h same rows t only =
    let twins = are_twins source marks d h same in
    let back : (r : Run Event) × IsRun (flat.circuit_of source) rows r =
    twins_run_back Event ℕ marks (flat.circuit_of source) (design.circuit_of d) twins rows t only.0 in
    let as_t : (o : Run Event) → IsRun (flat.circuit_of source) rows o → SameRuns marks o t =
    λ o run.
    let there : (q : Run ℕ) × IsRun (design.circuit_of d) rows q × SameRuns marks o q =
    twins_run Event ℕ marks (flat.circuit_of source) (design.circuit_of d) twins rows o run in
    subst (λ (q : Run ℕ). SameRuns marks o q) (only.1 there.0 there.1) there.2 in (
      back.0,
      (
        back.1,
        λ o run. same_run (flat.circuit_of source) rows back.0 o back.1 run (sym (as_t o run).settled ∙ (as_t back.0 back.1).settled),
      ),
      as_t back.0 back.1,
    )
