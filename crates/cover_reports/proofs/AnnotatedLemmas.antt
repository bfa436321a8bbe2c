-- Sources that are annotated, and those that aren't.
use Rattle.std.proofs.Common.{◌≡◌, ℕ, ◌-◌, ◌≤◌, false, List, [], ◌∷◌, length, codes, refl, sym, ◌∙◌, ap, subst, Option, None, Some, arith}
use Rattle.std.specs.Prelude.{IfSome, nat_lt, option_map}
use Rattle.cov_port.specs.Files.{Names, FileFaults}
use Rattle.cov_dat.specs.Merging.{Counts}
use Rattle.report_text.specs.Annotation.{Options, annotated_text, short_source}
use Rattle.report_text.specs.Faults.{TellsFault}
use Rattle.report_text.specs.declared.report_fault.ReportFault.{ReportFault}
use Rattle.report_text.specs.declared.report_fault.ReportFault.TheVariants as fault
use Rattle.command_ending.specs.Answer.{Answer, refused_with, bad_data}
use Rattle.command_ending.specs.Stops.{IsRefusal, Stops}
use Rattle.command_ending.specs.declared.ending.Ending.{Ending}
use Rattle.command_ending.specs.declared.status.Status.{Status}
use Rattle.command_ending.specs.declared.status.Status.TheVariants.{Limit}
use Rattle.command_ending.proofs.PutLemmas.{always_told, if_told}
use Rattle.command_ending.proofs.StopLemmas.{refusal_stops, refusal_weaker, stops_weaker}
use Rattle.cover_answer.specs.Reports.{first_reason, source_of}
use Rattle.cover_reports.specs.Sources.{annotating_promise, annotating_reasons, short_answer, source_promise, IsAnnotated, SourceRefuses, too_long, too_short}

-- the refusal of a source that is too short
pub short_told : (e : Ending) (name : List ℕ) (flaw : ReportFault) (found : Answer) → short_answer name flaw ≡ Some found
    → IsRefusal (λ answer. answer ≡ found) e
    → IsRefusal (λ answer. short_answer name flaw ≡ Some answer) e
short_told e name flaw found is refusal = refusal_weaker _ _ e (λ a same. is ∙ ap {B = Option Answer} Some (sym same)) refusal

-- a reason among the first two comes before others
first_of_more : (a b : Option Answer) (rest : List (Option Answer)) (x : Answer) → first_reason (a ∷ b ∷ []) ≡ Some x → first_reason (a ∷ b ∷ rest) ≡ Some x
first_of_more (Some y) b rest x is = is
first_of_more None (Some y) rest x is = is
first_of_more None None rest x is = absurd (cc)

-- a source that can't be taken isn't annotated
pub untaken_annotated : (told : Option Names) (counts : Counts) (left : ℕ) (name : List ℕ) (before now : FileFaults) (e : Ending)
    → Stops (source_promise left name) told before now e → Stops (annotating_promise counts left name) told before now e
untaken_annotated told counts left name before now e is =
    stops_weaker (source_promise left name) (annotating_promise counts left name) told before now e (λ other same. same)
    (λ status line one. subst (λ (s : Status). SourceRefuses name s line) (sym one.0) (subst (SourceRefuses name Limit) (sym one.1) too_long))
    (always_told told _ (λ held answer one. first_of_more _ _ _ answer one)) is

within_left : (left size : ℕ) → size ≤ left → nat_lt left size ≡ false
within_left left size within = grind arith

-- of a source that is held and not too long the lines alone may be wrong
left_with_lines : (counts : Counts) (left : ℕ) (name source : List ℕ) (held : Option (List ℕ)) → held ≡ Some source → length source ≤ left
    → first_reason (annotating_reasons counts left held name)
    ≡ first_reason (option_map (λ lines. bad_data name lines (codes "ShortSource")) (short_source counts name source) ∷ [])
left_with_lines counts left name source held is within = rw (is, within_left left (length source) within) refl

-- a source that is held, not too long and not too short is annotated
annotated_one : (options : Options) (counts : Counts) (left : ℕ) (name source : List ℕ) (held : Names) (text : List ℕ) → held name ≡ Some source
    → length source ≤ left
    → short_source counts name source ≡ None → text ≡ annotated_text options counts name source
    → IsAnnotated held options counts name left text (left - length source)
annotated_one options counts left name source held text is within long made =
    let same : source_of held name ≡ source = rw is refl in
    record {
      sound = left_with_lines counts left name source (held name) is within ∙ rw long refl;
      text_is = made ∙ ap (annotated_text options counts name) (sym same);
      rest_is = ap (λ (t : List ℕ). left - length t) (sym same);
    }

pub annotated_told : (told : Option Names) (options : Options) (counts : Counts) (left : ℕ) (name source text : List ℕ)
    → IfSome told (λ held. held name ≡ Some source) → length source ≤ left
    → short_source counts name source ≡ None → text ≡ annotated_text options counts name source
    → IfSome told (λ held. IsAnnotated held options counts name left text (left - length source))
annotated_told told options counts left name source text is within long made =
    if_told told _ _ (λ held one. annotated_one options counts left name source held text one within long made) is

-- what is said of a source that is too short
said_short : (name : List ℕ) (o : Option ℕ) (flaw : ReportFault) (answer : Answer) → TellsFault (option_map fault.ShortSource o) flaw
    → short_answer name flaw ≡ Some answer
    → first_reason (option_map (λ lines. bad_data name lines (codes "ShortSource")) o ∷ []) ≡ Some answer
said_short name o (fault.BadKeyLine file) answer told is = absurd (cc)
said_short name o (fault.BadFileName file) answer told is = absurd (cc)
said_short name o (fault.SameBaseName file) answer told is = absurd (cc)
said_short name o (fault.Limit limit) answer told is = absurd (cc)
said_short name o fault.NoMemory answer told is = absurd (cc)
said_short name None (fault.ShortSource lines) answer told is = absurd (cc)
said_short name (Some n) (fault.ShortSource lines) answer told is =
    let flaw : fault.ShortSource n ≡ fault.ShortSource lines = cc in
    ap (short_answer name) flaw ∙ is

short_may : (name : List ℕ) (flaw : ReportFault) (status : Status) (line : List ℕ) → short_answer name flaw ≡ Some (refused_with status line)
    → SourceRefuses name status line
short_may name (fault.BadKeyLine file) status line is = absurd (cc)
short_may name (fault.BadFileName file) status line is = absurd (cc)
short_may name (fault.SameBaseName file) status line is = absurd (cc)
short_may name (fault.Limit limit) status line is = absurd (cc)
short_may name fault.NoMemory status line is = absurd (cc)
short_may name (fault.ShortSource lines) status line is =
    let same : bad_data name lines (codes "ShortSource") ≡ refused_with status line = cc in
    subst (λ (a : Answer). SourceRefuses name a.status a.line) same (too_short lines)

-- a source that is too short stops its command
pub short_stops : (told : Option Names) (counts : Counts) (left : ℕ) (name source : List ℕ) (flaw : ReportFault) (before now : FileFaults) (e : Ending)
    → now ≡ before
    → IfSome told (λ held. held name ≡ Some source) → length source ≤ left
    → TellsFault (option_map fault.ShortSource (short_source counts name source)) flaw → IsRefusal (λ answer. short_answer name flaw ≡ Some answer) e
    → Stops (annotating_promise counts left name) told before now e
short_stops told counts left name source flaw before now e quiet is within tells refusal =
    refusal_stops (annotating_promise counts left name) (λ answer. short_answer name flaw ≡ Some answer) told before now e quiet
    (λ status line one. short_may name flaw status line one)
    (if_told told _ _ (λ held one answer said. left_with_lines counts left name source (held name) one within
    ∙ said_short name (short_source counts name source) flaw answer tells said) is)
    refusal
