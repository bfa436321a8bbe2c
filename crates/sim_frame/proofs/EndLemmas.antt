-- What a `sim` leaves at the end of its run.
use Rattle.std.proofs.Common.{◌≡◌, ◌∙◌, sym, refl, subst, ℕ, Bool, List, [], ◌∷◌, ◌++◌, true, false, Option, None, Some, Ok, append-nil}
use Rattle.std.specs.Prelude.{IfSome}
use Rattle.cov_port.specs.Causes.{Both, Rose}
use Rattle.cov_port.specs.Files.{FileFaults, Names, Stores, StoresPart, StoresRose}
use Rattle.cov_port.specs.Sinks.{PutsAll, PutsPart}
use Rattle.design_tree.specs.declared.instrumented.Instrumented.{Instrumented}
use Rattle.circuit_run.specs.Ends.{End, goes, finished, stopped}
use Rattle.stim_lines.specs.Header.{inputs_of}
use Rattle.stim_lines.specs.Reading.{is_of_text}
use Rattle.stim_lines.specs.Stimulus.{stimulus_of}
use Rattle.stim_lines.specs.declared.fault.StimFault.{StimFault}
use Rattle.stim_lines.specs.declared.fault.StimFault.TheVariants as fault
use Rattle.stim_lines.specs.declared.row.StimText.{StimText}
use Rattle.command_ending.specs.Answer.{Answer, done}
use Rattle.command_ending.specs.Ending.{line_at, status_at}
use Rattle.command_ending.specs.ErrorLines.{output_line}
use Rattle.command_ending.specs.Leaves.{HasPutPart, Leaves}
use Rattle.command_ending.specs.World.{IsUnharmed, World}
use Rattle.command_ending.specs.declared.ending.Ending.{Ending}
use Rattle.command_ending.specs.declared.ending.Ending.TheVariants as ending
use Rattle.command_ending.specs.declared.status.Status.TheVariants.{BadStimulus, Fault}
use Rattle.command_ending.proofs.PutLemmas.{if_told}
use Rattle.sim_answer.specs.Refusals.{stimulus_refusal}
use Rattle.sim_answer.specs.SimAnswer.{HoldsDesign, IsSimAnswer, ran, run_answer, stopped_with, values_of}
use Rattle.sim_answer.specs.SimPromise.{sim_promise}
use Rattle.sim_answer.specs.Simulation.{Simulation}
use Rattle.sim_answer.specs.Underway.{PrintsOn}
use Rattle.sim_output.proofs.KeepLemmas.{part_behind, part_first, puts_kept}
use Rattle.sim_frame.specs.RunEnds.{IsKept, IsPutBefore, IsStored, all_put, good_ending, part_put, stored, unput, unstored}
use Rattle.sim_frame.specs.Sparing.{SimSpares}
use Rattle.sim_frame.proofs.HeadLemmas.{other_spares}
use Rattle.sim_frame.proofs.LeaveLemmas.{done_leaves, has_part, put_failed_leaves, refused_leaves, stopped_leaves, store_failed_leaves}

-- ---- what an answer prints

refusal_out : (text name : List ℕ) (flaw : StimFault) → (stimulus_refusal text name flaw).out ≡ text
refusal_out text name (fault.BadHeader n) = refl
refusal_out text name (fault.UnknownInput n) = refl
refusal_out text name (fault.MissingInput n) = refl
refusal_out text name (fault.RepeatedInput n) = refl
refusal_out text name (fault.BadValue n) = refl
refusal_out text name (fault.TooWide n) = refl
refusal_out text name (fault.WrongCount n) = refl
refusal_out text name (fault.BadRepeat n) = refl
refusal_out text name (fault.TooManyCycles n) = refl
refusal_out text name (fault.LineTooLong n) = refl
refusal_out text name fault.Failed = refl
refusal_out text name (fault.Limit limit) = refl
refusal_out text name fault.NoMemory = refl

run_out : (asked : Simulation) (x : Instrumented) (flaw : Option StimFault) (text : List ℕ) (end : End) (counts : List ℕ)
    → (run_answer asked x flaw text end counts).out ≡ text
run_out asked x None text goes counts = refl
run_out asked x (Some flaw) text goes counts = refusal_out text asked.stimulus flaw
run_out asked x flaw text finished counts = refl
run_out asked x flaw text stopped counts = refl

-- the answer of a run that `$stop` ended or not, and that stores this
abbrev pub ended_answer : Bool → List ℕ → List ℕ × List ℕ → Answer
ended_answer false text store = done text (store ∷ [])
ended_answer true text store = stopped_with text (store ∷ [])

ended_out : (stop : Bool) (text : List ℕ) (store : List ℕ × List ℕ) → (ended_answer stop text store).out ≡ text
ended_out false text store = refl
ended_out true text store = refl

ended_stores : (stop : Bool) (text : List ℕ) (store : List ℕ × List ℕ) → (ended_answer stop text store).stores ≡ store ∷ []
ended_stores false text store = refl
ended_stores true text store = refl

-- of an answer that prints this a part may be put
printed : (told : Option Names) (asked : Simulation) (answer : Answer) (text : List ℕ) → answer.out ≡ text
    → IfSome told (λ held. IsSimAnswer held asked answer)
    → IfSome told (λ held. (a : Answer) × IsSimAnswer held asked a × ((more : List ℕ) × (a.out ≡ text ++ more)))
printed told asked answer text out is =
    if_told told (λ held. IsSimAnswer held asked answer) _ (λ held one. (answer, one, ([], out ∙ sym (append-nil text)))) is

module _ (asked : Simulation) (old mid new : World) where
  kept_part : (text kept : List ℕ) → IsKept text kept old mid → Both (PutsPart kept) mid.written new.written → Both (PutsPart text) old.written new.written
  kept_part text kept before part =
      subst (λ (t : List ℕ). Both (PutsPart t) old.written new.written) (append-nil text)
      (part_behind text kept [] old.written mid.written new.written before.output (part_first kept [] mid.written new.written part))

  put_fails : (answer : Answer) (text kept : List ℕ) → answer.out ≡ text → IsKept text kept old mid
      → IfSome old.held (λ held. IsSimAnswer held asked answer) → Rose mid.put_faults new.put_faults → new.faults ≡ mid.faults → new.held ≡ mid.held
      → Both (PutsPart kept) mid.written new.written → Leaves (sim_promise asked) output_line old new Fault
  put_fails answer text kept out before is rose quiet same part =
      put_failed_leaves asked old new (subst (λ (n : ℕ). Rose n new.put_faults) before.unharmed.out rose) (quiet ∙ before.unharmed.files)
      (has_part asked old new text (same ∙ before.held) (printed old.held asked answer text out is) (kept_part text kept before part))

  -- ---- a run that is at its end

  well_ended : (stop : Bool) (text bytes : List ℕ) → IfSome old.held (λ held. IsSimAnswer held asked (ended_answer stop text (asked.data_name, bytes)))
      → IsUnharmed old new → Both (PutsAll text) old.written new.written → Both (Stores asked.data_name bytes) old.held new.held
      → Leaves (sim_promise asked) (line_at (good_ending stop)) old new (status_at (good_ending stop))
  well_ended false text bytes is unharmed put made = done_leaves asked old new text bytes is unharmed put made
  well_ended true text bytes is unharmed put made = stopped_leaves asked old new text bytes is unharmed put made

  -- the data file is stored, or a call fails
  pub ended_leaves : (stop : Bool) (text kept bytes : List ℕ) (e : Ending) → IsKept text kept old mid
      → IfSome old.held (λ held. IsSimAnswer held asked (ended_answer stop text (asked.data_name, bytes)))
      → IsStored (good_ending stop) asked.data_name kept bytes mid new e → Leaves (sim_promise asked) (line_at e) old new (status_at e)
  ended_leaves stop text kept bytes e before is (stored unharmed put made) =
      well_ended stop text bytes is
      (record { files = unharmed.files ∙ before.unharmed.files; out = unharmed.out ∙ before.unharmed.out })
      (puts_kept text kept old.written mid.written new.written before.output put)
      (subst (λ (told : Option Names). Both (Stores asked.data_name bytes) told new.held) before.held made)
  ended_leaves stop text kept bytes e before is (unput rose quiet same part) =
      put_fails (ended_answer stop text (asked.data_name, bytes)) text kept (ended_out stop text (asked.data_name, bytes)) before is rose quiet same part
  ended_leaves stop text kept bytes e before is (unstored rose quiet put part) =
      let answer = ended_answer stop text (asked.data_name, bytes) in
      store_failed_leaves asked old new answer bytes (ended_stores stop text (asked.data_name, bytes)) is
      (subst (λ (f : FileFaults). StoresRose f new.faults) before.unharmed.files rose) (quiet ∙ before.unharmed.out)
      (subst (λ (t : List ℕ). Both (PutsAll t) old.written new.written) (sym (ended_out stop text (asked.data_name, bytes)))
      (puts_kept text kept old.written mid.written new.written before.output put))
      (subst (λ (told : Option Names). Both (StoresPart asked.data_name bytes) told new.held) before.held part)

  -- ---- a stimulus that is refused behind rows

  pub refused_ends : (flaw : StimFault) (text kept : List ℕ) (e : Ending) → is_of_text flaw ≡ true → IsKept text kept old mid
      → IfSome old.held (λ held. IsSimAnswer held asked (stimulus_refusal text asked.stimulus flaw)) → new.held ≡ mid.held → new.faults ≡ mid.faults
      → IsPutBefore (ending.Refused (stimulus_refusal [] asked.stimulus flaw).status (stimulus_refusal [] asked.stimulus flaw).line) kept
      mid.written new.written mid.put_faults new.put_faults e
      → Leaves (sim_promise asked) (line_at e) old new (status_at e)
  refused_ends flaw text kept e of_text before is same quiet (all_put calm all) =
      refused_leaves asked old new text flaw of_text is (same ∙ before.held)
      (record { files = quiet ∙ before.unharmed.files; out = calm ∙ before.unharmed.out })
      (puts_kept text kept old.written mid.written new.written before.output all)
  refused_ends flaw text kept e of_text before is same quiet (part_put rose part) =
      put_fails (stimulus_refusal text asked.stimulus flaw) text kept (refusal_out text asked.stimulus flaw) before is rose quiet same part

-- a run that is at its end refuses no stimulus
stored_is_other : (stop : Bool) (name kept bytes : List ℕ) (old new : World) (e : Ending) → IsStored (good_ending stop) name kept bytes old new e
    → status_at e ≡ BadStimulus → ⊥
stored_is_other false name kept bytes old new e (stored unharmed put made) bad = absurd (cc)
stored_is_other true name kept bytes old new e (stored unharmed put made) bad = absurd (cc)
stored_is_other stop name kept bytes old new e (unput rose quiet same part) bad = absurd (cc)
stored_is_other stop name kept bytes old new e (unstored rose quiet put part) bad = absurd (cc)

pub ended_spares : (asked : Simulation) (told : Option Names) (stop : Bool) (name kept bytes : List ℕ) (old new : World) (e : Ending)
    (rest : Option (List ℕ)) → IsStored (good_ending stop) name kept bytes old new e → IfSome told (SimSpares asked (status_at e) rest)
ended_spares asked told stop name kept bytes old new e rest is = other_spares asked told e rest (stored_is_other stop name kept bytes old new e is)

-- ---- a run that is cut off

-- the run of a design on a stimulus has printed this, and prints on
abbrev pub RunsOn : Simulation → Instrumented → List ℕ → Names → Type 0
RunsOn asked x said held = (text : List ℕ) × (stim : StimText) × HoldsDesign held asked.design x × (held asked.stimulus ≡ Some text)
    × (stimulus_of (inputs_of x.design) text ≡ Ok stim) × PrintsOn x (values_of stim.rows) said

pub cut_part : (asked : Simulation) (x : Instrumented) (said : List ℕ) (old new : World) → new.held ≡ old.held → IfSome old.held (RunsOn asked x said)
    → Both (PutsPart said) old.written new.written → HasPutPart (sim_promise asked) old new
cut_part asked x said old new same is part =
    has_part asked old new said same
    (if_told old.held (RunsOn asked x said) _
    (λ held one. (
      run_answer asked x one.1.fault (said ++ one.5.more) one.5.end one.5.counts,
      ran x one.0 one.1 (said ++ one.5.more) one.5.end one.5.counts one.2 one.3 one.4 one.5.run,
      (one.5.more, run_out asked x one.1.fault (said ++ one.5.more) one.5.end one.5.counts),
    )) is) part
