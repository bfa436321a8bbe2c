-- A stimulus up to its header.
use Rattle.std.proofs.Common.{◌≡◌, ◌≢◌, sym, ap, refl, subst, inr, ℕ, List, [], true, Option, None, Some, Err}
use Rattle.std.specs.Prelude.{IfSome}
use Rattle.cov_port.specs.Files.{FileFaults, Names, ReadsRose}
use Rattle.design_tree.specs.declared.instrumented.Instrumented.{Instrumented}
use Rattle.stim_lines.specs.Header.{inputs_of}
use Rattle.stim_lines.specs.Reading.{is_of_text, line_of}
use Rattle.stim_lines.specs.Stimulus.{stimulus_of}
use Rattle.stim_lines.specs.declared.fault.StimFault.{StimFault}
use Rattle.stim_lines.specs.declared.fault.StimFault.TheVariants as fault
use Rattle.stimulus.specs.Lines.{IsFrugal, StandsIn}
use Rattle.stimulus.specs.Streaming.{IsStarted, ReaderState}
use Rattle.command_ending.specs.Answer.{Answer, refused_with}
use Rattle.command_ending.specs.Ending.{status_at}
use Rattle.command_ending.specs.Opening.{IsOpened}
use Rattle.command_ending.specs.Stops.{Stops, cannot_open, cannot_read, is_refusal, lacks_name, refuses, taking, wants_memory}
use Rattle.command_ending.specs.declared.ending.Ending.{Ending}
use Rattle.command_ending.specs.declared.status.Status.TheVariants.{BadStimulus}
use Rattle.command_ending.proofs.StopLemmas.{stops_weaker}
use Rattle.command_ending.proofs.PutLemmas.{if_told}
use Rattle.sim_answer.specs.Refusals.{stimulus_refusal}
use Rattle.sim_answer.specs.SimAnswer.{HoldsDesign, IsSimAnswer, bad_header, no_stimulus}
use Rattle.sim_answer.specs.SimPromise.{in_stimulus, sim_promise}
use Rattle.sim_answer.specs.Simulation.{Simulation}
use Rattle.sim_frame.specs.Heads.{IsBegun, IsHeadEnding, refused, unread, wanting}
use Rattle.sim_frame.specs.Sparing.{SimSpares, TakesFew, fault_of}

-- what a fault of a text comes to is a refusal, and nothing but that
record IsTextRefusal (name : List ℕ) (flaw : StimFault) : Type 0 where
  refuses_text : is_refusal (stimulus_refusal [] name flaw).status ≡ true
  alone : stimulus_refusal [] name flaw ≡ refused_with (stimulus_refusal [] name flaw).status (stimulus_refusal [] name flaw).line

text_refusal : (name : List ℕ) (flaw : StimFault) → is_of_text flaw ≡ true → IsTextRefusal name flaw
text_refusal name (fault.BadHeader n) text = record { refuses_text = refl; alone = refl }
text_refusal name (fault.UnknownInput n) text = record { refuses_text = refl; alone = refl }
text_refusal name (fault.MissingInput n) text = record { refuses_text = refl; alone = refl }
text_refusal name (fault.RepeatedInput n) text = record { refuses_text = refl; alone = refl }
text_refusal name (fault.BadValue n) text = record { refuses_text = refl; alone = refl }
text_refusal name (fault.TooWide n) text = record { refuses_text = refl; alone = refl }
text_refusal name (fault.WrongCount n) text = record { refuses_text = refl; alone = refl }
text_refusal name (fault.BadRepeat n) text = record { refuses_text = refl; alone = refl }
text_refusal name (fault.TooManyCycles n) text = record { refuses_text = refl; alone = refl }
text_refusal name (fault.LineTooLong n) text = record { refuses_text = refl; alone = refl }
text_refusal name (fault.Limit limit) text = record { refuses_text = refl; alone = refl }
text_refusal name fault.Failed text = absurd (cc)
text_refusal name fault.NoMemory text = absurd (cc)

-- an ending that refuses no stimulus spares nothing
pub other_spares : (asked : Simulation) (told : Option Names) (e : Ending) (rest : Option (List ℕ)) → (status_at e ≡ BadStimulus → ⊥)
    → IfSome told (SimSpares asked (status_at e) rest)
other_spares asked None e rest other = tt
other_spares asked (Some held) e rest other = λ bad. absurd (other bad)

-- whatever the ending is, so much is spared
pub few_spares : (asked : Simulation) (told : Option Names) (e : Ending) (rest : Option (List ℕ)) → IfSome told (λ held. TakesFew held asked rest)
    → IfSome told (SimSpares asked (status_at e) rest)
few_spares asked told e rest few = if_told told (λ held. TakesFew held asked rest) _ (λ held is bad. is) few

module _ (asked : Simulation) (x : Instrumented) where
  -- ---- the stimulus isn't opened

  lacks_stimulus : (held : Names) → HoldsDesign held asked.design x
      → (answer : Answer) → (taking asked.stimulus).Answers held answer → IsSimAnswer held asked answer
  lacks_stimulus held holds answer lacking = subst (IsSimAnswer held asked) (sym lacking.1) (no_stimulus x holds lacking.0)

  pub unopened_stops : (told : Option Names) (before now : FileFaults) (e : Ending) → IfSome told (λ held. HoldsDesign held asked.design x)
      → Stops (taking asked.stimulus) told before now e → Stops (sim_promise asked) told before now e
  unopened_stops told before now e holds is =
      stops_weaker (taking asked.stimulus) (sim_promise asked) told before now e (λ name same. inr same) (λ status line never. absurd never)
      (if_told told (λ held. HoldsDesign held asked.design x) _ lacks_stimulus holds) is

  unopened_is_other : (told : Option Names) (before now : FileFaults) (e : Ending) → Stops (taking asked.stimulus) told before now e
      → status_at e ≡ BadStimulus → ⊥
  unopened_is_other told before now e (wants_memory quiet) bad = absurd (cc)
  unopened_is_other told before now e (lacks_name name line reads is quiet lacking) bad = absurd (cc)
  unopened_is_other told before now e (cannot_open name line reads is rose) bad = absurd (cc)
  unopened_is_other told before now e (cannot_read name line reads is rose) bad = absurd (cc)
  unopened_is_other told before now e (refuses status line refusal never quiet is) bad = absurd never

  pub unopened_spares : (told : Option Names) (before now : FileFaults) (e : Ending) (rest : Option (List ℕ))
      → Stops (taking asked.stimulus) told before now e → IfSome told (SimSpares asked (status_at e) rest)
  unopened_spares told before now e rest is = other_spares asked told e rest (unopened_is_other told before now e is)

  -- ---- the header is read

  pub begins : (told : Option Names) (left rest : Option (List ℕ)) (reader : ReaderState) → IsOpened told asked.stimulus left
      → IsStarted x.design left reader rest → IfSome left (λ text. StandsIn text reader.lines rest)
      → IfSome told (λ held. IsBegun held asked.stimulus x.design reader rest)
  begins None left rest reader opened started stands = tt
  begins (Some held) left rest reader opened started stands =
      let start = rw opened.2 at started in
      record {
        text = opened.0;
        left = start.0;
        holds = opened.1;
        says = start.1;
        told = start.2;
        stands = rw opened.2 at stands;
      }

  -- ---- the header is refused

  refused_answer : (told : Option Names) (left : Option (List ℕ)) (flaw : StimFault) → IsOpened told asked.stimulus left
      → IfSome told (λ held. HoldsDesign held asked.design x) → IfSome left (λ text. stimulus_of (inputs_of x.design) text ≡ Err flaw)
      → IfSome told (λ held. IsSimAnswer held asked (stimulus_refusal [] asked.stimulus flaw))
  refused_answer None left flaw opened holds says = tt
  refused_answer (Some held) left flaw opened holds says = bad_header x opened.0 flaw holds opened.1 (rw opened.2 at says)

  pub head_stops : (told : Option Names) (left : Option (List ℕ)) (before now : FileFaults) (flaw : StimFault) (e : Ending)
      → IsOpened told asked.stimulus left → IfSome told (λ held. HoldsDesign held asked.design x)
      → (is_of_text flaw ≡ true → IfSome left (λ text. stimulus_of (inputs_of x.design) text ≡ Err flaw))
      → (flaw ≢ fault.Failed → now ≡ before) → (flaw ≡ fault.Failed → ReadsRose before now)
      → IsHeadEnding asked.stimulus flaw e → Stops (sim_promise asked) told before now e
  head_stops told left before now flaw e opened holds says quiet rose wanting = wants_memory (quiet (λ is. absurd (cc)))
  head_stops told left before now flaw e opened holds says quiet rose unread = cannot_read asked.stimulus _ (inr refl) refl (rose refl)
  head_stops told left before now flaw e opened holds says quiet rose (refused same text) =
      let kind = text_refusal asked.stimulus flaw text in
      let answer = refused_answer told left flaw opened holds (says text) in
      refuses _ _ kind.refuses_text (in_stimulus flaw text) (quiet (of_text flaw text))
      (subst (λ (a : Answer). IfSome told (λ held. IsSimAnswer held asked a)) kind.alone answer)
    where
      of_text : (flaw : StimFault) → is_of_text flaw ≡ true → flaw ≢ fault.Failed
      of_text flaw text is = let other = ap is_of_text is in absurd (cc)

  few_told : (told : Option Names) (left rest : Option (List ℕ)) (flaw : StimFault) → IsOpened told asked.stimulus left
      → IfSome told (λ held. HoldsDesign held asked.design x) → IfSome left (λ text. stimulus_of (inputs_of x.design) text ≡ Err flaw)
      → IfSome left (λ text. IfSome (line_of flaw) (λ n. IsFrugal text rest n)) → IfSome told (λ held. TakesFew held asked rest)
  few_told None left rest flaw opened holds says few = tt
  few_told (Some held) left rest flaw opened holds says few =
      let same = rw opened.2 at says in
      record {
        design = x;
        text = opened.0;
        flaw = flaw;
        holds_design = holds;
        holds = opened.1;
        is_refused = ap fault_of same;
        few = rw opened.2 at few;
      }

  pub head_spares : (told : Option Names) (left rest : Option (List ℕ)) (flaw : StimFault) (e : Ending) → IsOpened told asked.stimulus left
      → IfSome told (λ held. HoldsDesign held asked.design x)
      → (is_of_text flaw ≡ true → IfSome left (λ text. stimulus_of (inputs_of x.design) text ≡ Err flaw))
      → IfSome left (λ text. IfSome (line_of flaw) (λ n. IsFrugal text rest n)) → IsHeadEnding asked.stimulus flaw e
      → IfSome told (SimSpares asked (status_at e) rest)
  head_spares told left rest flaw e opened holds says few wanting = other_spares asked told e rest (λ bad. absurd (cc))
  head_spares told left rest flaw e opened holds says few unread = other_spares asked told e rest (λ bad. absurd (cc))
  head_spares told left rest flaw e opened holds says few (refused same text) =
      few_spares asked told e rest (few_told told left rest flaw opened holds (says text) few)
