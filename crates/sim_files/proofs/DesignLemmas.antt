-- A design's text that is refused.
use Rattle.std.proofs.Common.{◌≡◌, ◌∙◌, sym, ap, refl, subst, ℕ, ◌≤◌, List, length, Option, None, Some}
use Rattle.std.specs.Prelude.{IfSome, IsSomeAnd}
use Rattle.cov_types.specs.Limits.{most}
use Rattle.cov_types.specs.declared.limit.LimitName.TheVariants.{CvdBytes}
use Rattle.cov_port.specs.Files.{FileFaults, Names}
use Rattle.cvd_text.specs.Fault.{Flaw, IsFlaw, not_cvd, version, bad_token, bad_number, bad_shape, truncated, trailing, invalid}
use Rattle.cvd_text.specs.Spelling.{Cvd}
use Rattle.design_meaning.specs.FlowFaults.{Fault, Flows, IsFaultOf}
use Rattle.design_tree.specs.declared.instrumented.Instrumented.{Instrumented}
use Rattle.cvd_file.specs.Faults.{IsDecodeFault, IsInvalid}
use Rattle.cvd_file.specs.declared.fault.CvdFault.{CvdFault}
use Rattle.cvd_file.specs.declared.fault.CvdFault.TheVariants as file
use Rattle.flow_check.specs.declared.fault.FlowFault.{FlowFault}
use Rattle.flow_check.specs.declared.fault.FlowFault.TheVariants as flow
use Rattle.command_ending.specs.Answer.{Answer, refused_with}
use Rattle.command_ending.specs.Ending.{status_at}
use Rattle.command_ending.specs.Stops.{IsRefusal, Stops, cannot_open, cannot_read, lacks_name, refused, refuses, wants_memory, without_memory}
use Rattle.command_ending.specs.declared.ending.Ending.{Ending}
use Rattle.command_ending.specs.declared.status.Status.{Status}
use Rattle.command_ending.specs.declared.status.Status.TheVariants.{BadData, BadStimulus, Limit}
use Rattle.command_ending.proofs.StopLemmas.{refusal_stops}
use Rattle.command_ending.proofs.PutLemmas.{if_told}
use Rattle.sim_answer.specs.Refusals.{design_refusal}
use Rattle.sim_answer.specs.SimAnswer.{HoldsDesign, IsSimAnswer, bad_design}
use Rattle.sim_answer.specs.SimPromise.{SimRefuses, in_design, sim_promise}
use Rattle.sim_answer.specs.Simulation.{Simulation}
use Rattle.sim_frame.specs.DesignText.{design_promise}
use Rattle.sim_files.specs.DesignFaults.{flaw_of, flow_flaw}

-- ---- how it ends for a fault

-- the flaw alone decides
pub told_alike : (name : List ℕ) (one same : Option (Flaw Fault)) (e : Ending) → one ≡ same
    → IsRefusal (λ answer. IsSomeAnd same (λ flaw. answer ≡ design_refusal name flaw)) e
    → IsRefusal (λ answer. IsSomeAnd one (λ flaw. answer ≡ design_refusal name flaw)) e
told_alike name one same e is may =
    subst (λ (o : Option (Flaw Fault)). IsRefusal (λ answer. IsSomeAnd o (λ flaw. answer ≡ design_refusal name flaw)) e) (sym is) may

-- ---- what it answers

flow_is : (text : List ℕ) (fault : FlowFault) (flaw : Flaw Fault) → IsInvalid text fault → flow_flaw fault ≡ Some flaw → IsFlaw Fault IsFaultOf text flaw
flow_is text (flow.TwoDrivers p v) flaw is same = subst (IsFlaw Fault IsFaultOf text) (cc) is
flow_is text (flow.MixedDriver p v) flaw is same = subst (IsFlaw Fault IsFaultOf text) (cc) is
flow_is text (flow.NotPrivate p v) flaw is same = subst (IsFlaw Fault IsFaultOf text) (cc) is
flow_is text (flow.Latch p v) flaw is same = subst (IsFlaw Fault IsFaultOf text) (cc) is
flow_is text (flow.ReadBeforeWrite p v) flaw is same = subst (IsFlaw Fault IsFaultOf text) (cc) is
flow_is text (flow.CombLoop cycle) flaw is same = subst (IsFlaw Fault IsFaultOf text) (cc) is
flow_is text flow.NoMemory flaw is same = absurd is

-- a fault that is told is the text's
fault_is : (text : List ℕ) (fault : CvdFault) (flaw : Flaw Fault) → IsDecodeFault text fault → flaw_of fault ≡ Some flaw → IsFlaw Fault IsFaultOf text flaw
fault_is text file.NoMemory flaw is same = absurd (cc)
fault_is text (file.NotCvd n) flaw is same = subst (IsFlaw Fault IsFaultOf text) (cc) is
fault_is text (file.Version n) flaw is same = subst (IsFlaw Fault IsFaultOf text) (cc) is
fault_is text (file.BadToken n) flaw is same = subst (IsFlaw Fault IsFaultOf text) (cc) is
fault_is text (file.BadNumber n) flaw is same = subst (IsFlaw Fault IsFaultOf text) (cc) is
fault_is text (file.BadShape n) flaw is same = subst (IsFlaw Fault IsFaultOf text) (cc) is
fault_is text (file.Truncated n) flaw is same = subst (IsFlaw Fault IsFaultOf text) (cc) is
fault_is text (file.Trailing n) flaw is same = subst (IsFlaw Fault IsFaultOf text) (cc) is
fault_is text (file.Invalid fault) flaw is same = flow_is text fault flaw is same
fault_is text (file.Limit name) flaw is same = absurd is

-- such a refusal is an answer, and one that is promised
module _ (asked : Simulation) (text : List ℕ) (fault : CvdFault) where
  abbrev Refuses : Answer → Type 0
  Refuses answer = IsSomeAnd (flaw_of fault) (λ flaw. answer ≡ design_refusal asked.design flaw)

  answers : (held : Names) → length text ≤ most CvdBytes → IsDecodeFault text fault → held asked.design ≡ Some text
      → (answer : Answer) → Refuses answer → IsSimAnswer held asked answer
  answers held within is holds answer may = by (flaw_of fault) refl may
    where
      by : (o : Option (Flaw Fault)) → flaw_of fault ≡ o → IsSomeAnd o (λ flaw. answer ≡ design_refusal asked.design flaw) → IsSimAnswer held asked answer
      by None none never = absurd never
      by (Some flaw) some one = subst (IsSimAnswer held asked) (sym one) (bad_design text flaw holds within (fault_is text fault flaw is some))

  may_refuse : (status : Status) (line : List ℕ) → Refuses (refused_with status line) → SimRefuses asked status line
  may_refuse status line may = by (flaw_of fault) may
    where
      by : (o : Option (Flaw Fault)) → IsSomeAnd o (λ flaw. refused_with status line ≡ design_refusal asked.design flaw) → SimRefuses asked status line
      by None never = absurd never
      by (Some flaw) one =
          subst (λ (s : Status). SimRefuses asked s line) (sym (ap (λ (a : Answer). a.status) one))
          (subst (SimRefuses asked (design_refusal asked.design flaw).status) (sym (ap (λ (a : Answer). a.line) one)) (in_design flaw))

  pub design_stops : (told : Option Names) (before now : FileFaults) (e : Ending) → now ≡ before → length text ≤ most CvdBytes
      → IsDecodeFault text fault → IfSome told (λ held. held asked.design ≡ Some text) → IsRefusal Refuses e
      → Stops (sim_promise asked) told before now e
  design_stops told before now e quiet within is holds refusal =
      refusal_stops (sim_promise asked) Refuses told before now e quiet may_refuse
      (if_told told (λ held. held asked.design ≡ Some text) _ (λ held one. answers held within is one) holds) refusal

-- ---- no such ending refuses a stimulus

-- one of a design file that isn't taken
pub untaken_is_other : (name : List ℕ) (told : Option Names) (before now : FileFaults) (e : Ending) → Stops (design_promise name) told before now e
    → status_at e ≡ BadStimulus → ⊥
untaken_is_other name told before now e (wants_memory quiet) bad = absurd (cc)
untaken_is_other name told before now e (lacks_name other line reads is quiet lacking) bad = absurd (cc)
untaken_is_other name told before now e (cannot_open other line reads is rose) bad = absurd (cc)
untaken_is_other name told before now e (cannot_read other line reads is rose) bad = absurd (cc)
untaken_is_other name told before now e (refuses status line refusal may quiet is) bad = let one : Limit ≡ BadStimulus = sym may.0 ∙ bad in absurd (cc)

-- a fault of a design's text is a file's
is_bad_data : (name : List ℕ) (flaw : Flaw Fault) → (design_refusal name flaw).status ≡ BadData
is_bad_data name (not_cvd n) = refl
is_bad_data name (version n) = refl
is_bad_data name (bad_token n) = refl
is_bad_data name (bad_number n) = refl
is_bad_data name (bad_shape n) = refl
is_bad_data name (truncated n) = refl
is_bad_data name (trailing n) = refl
is_bad_data name (invalid fault) = refl

told_is_other : (name : List ℕ) (flaw : Option (Flaw Fault)) (status : Status) (line : List ℕ)
    → IsSomeAnd flaw (λ one. refused_with status line ≡ design_refusal name one) → status ≡ BadStimulus → ⊥
told_is_other name None status line never bad = absurd never
told_is_other name (Some flaw) status line one bad =
    let same : BadStimulus ≡ BadData = sym bad ∙ (ap (λ (a : Answer). a.status) one ∙ is_bad_data name flaw) in absurd (cc)

-- one of a design's text that is refused
pub refused_is_other : (name : List ℕ) (fault : CvdFault) (e : Ending)
    → IsRefusal (λ answer. IsSomeAnd (flaw_of fault) (λ flaw. answer ≡ design_refusal name flaw)) e → status_at e ≡ BadStimulus → ⊥
refused_is_other name fault e without_memory bad = absurd (cc)
refused_is_other name fault e (refused status line refusal is) bad = told_is_other name (flaw_of fault) status line is bad

-- ---- a design's text that is read

pub holds_design : (told : Option Names) (name text : List ℕ) (x : Instrumented) → length text ≤ most CvdBytes → Cvd x text → Flows x.design
    → IfSome told (λ held. held name ≡ Some text) → IfSome told (λ held. HoldsDesign held name x)
holds_design told name text x within spelled flows =
    if_told told (λ held. held name ≡ Some text) _
    (λ held holds. record { text = text; holds = holds; within = within; spelled = spelled; flows = flows })
