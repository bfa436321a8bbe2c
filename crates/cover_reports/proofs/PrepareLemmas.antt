-- Reports whose counts are sound, and those whose counts aren't.
use Rattle.std.proofs.Common.{◌≡◌, ℕ, Bool, true, false, cond, List, [], ◌∷◌, codes, refl, ◌∙◌, ap, subst, Option, None, Some}
use Rattle.std.specs.Prelude.{nat_lt, option_map}
use Rattle.cov_types.specs.Limits.{most}
use Rattle.cov_types.specs.declared.limit.LimitName.TheVariants.{LineEntries}
use Rattle.cov_dat.specs.Merging.{Counts}
use Rattle.report_text.specs.FileNames.{annotated_files, bad_file_name, same_base_name}
use Rattle.report_text.specs.Faults.{or_then, prepare_fault, TellsFault}
use Rattle.report_text.specs.Items.{bad_key_line, line_entries}
use Rattle.report_text.specs.declared.options.ReportOptions.{ReportOptions}
use Rattle.report_text.specs.declared.report_fault.ReportFault.{ReportFault}
use Rattle.report_text.specs.declared.report_fault.ReportFault.TheVariants as fault
use Rattle.command_ending.specs.Answer.{Answer, over_limit}
use Rattle.command_ending.specs.Stops.{IsRefusal}
use Rattle.command_ending.specs.declared.ending.Ending.{Ending}
use Rattle.command_ending.proofs.StopLemmas.{refusal_weaker}
use Rattle.cover_answer.specs.Reports.{bad_file, count_reasons, first_reason, reason_if}
use Rattle.cover_reports.specs.Sources.{answer_to, files_for}
use Rattle.cover_reports.proofs.ReasonLemmas.{counts_said, said}

-- what is said of a fault that is told
told_said : (expected : Option ReportFault) (flaw : ReportFault) (answer : Answer) → TellsFault expected flaw → answer_to flaw ≡ Some answer
    → said expected ≡ Some answer
told_said expected (fault.BadKeyLine file) answer tells is = ap said tells ∙ is
told_said expected (fault.BadFileName file) answer tells is = ap said tells ∙ is
told_said expected (fault.SameBaseName file) answer tells is = ap said tells ∙ is
told_said expected (fault.ShortSource lines) answer tells is = absurd (cc)
told_said expected (fault.Limit name) answer tells is = ap said tells ∙ is
told_said expected fault.NoMemory answer tells is = absurd (cc)

-- a report that isn't prepared is refused for its counts
pub counts_refused : (options : ReportOptions) (counts : Counts) (flaw : ReportFault) (e : Ending) → TellsFault (prepare_fault options counts) flaw
    → IsRefusal (λ a. answer_to flaw ≡ Some a) e → IsRefusal (λ a. first_reason (count_reasons counts (files_for options counts)) ≡ Some a) e
counts_refused options counts flaw e tells =
    refusal_weaker _ _ e (λ a is. counts_said options counts ∙ told_said (prepare_fault options counts) flaw a tells is)

pub counts_sound : (options : ReportOptions) (counts : Counts) → prepare_fault options counts ≡ None
    → first_reason (count_reasons counts (files_for options counts)) ≡ None
counts_sound options counts none = counts_said options counts ∙ ap said none

-- sources are no matter of counts
no_lines : (k : Option (List ℕ)) (l : Bool) (b s : Option (List ℕ)) (annotate : Bool) (lines : ℕ)
    → or_then (or_then (option_map fault.BadKeyLine k) (cond l (Some (fault.Limit LineEntries)) None))
    (cond annotate (or_then (option_map fault.BadFileName b) (option_map fault.SameBaseName s)) None) ≡ Some (fault.ShortSource lines) → ⊥
no_lines (Some file) l b s annotate lines is = absurd (cc)
no_lines None true b s annotate lines is = absurd (cc)
no_lines None false b s false lines is = absurd (cc)
no_lines None false (Some file) s true lines is = absurd (cc)
no_lines None false None (Some file) true lines is = absurd (cc)
no_lines None false None None true lines is = absurd (cc)

pub never_short : (options : ReportOptions) (counts : Counts) (flaw : ReportFault) (lines : ℕ) → TellsFault (prepare_fault options counts) flaw
    → flaw ≡ fault.ShortSource lines → ⊥
never_short options counts flaw lines tells is =
    no_lines (bad_key_line counts) (nat_lt (most LineEntries) (line_entries counts)) (bad_file_name (annotated_files options.all options.min counts))
    (same_base_name (annotated_files options.all options.min counts)) options.annotate lines
    (subst (TellsFault (prepare_fault options counts)) is tells)

-- where the counts are sound, no name is bad
names_of : (k : Option (List ℕ)) (l : Bool) (b s : Option (List ℕ))
    → first_reason (option_map (bad_file (codes "BadKeyLine")) k ∷ reason_if l (over_limit LineEntries) ∷ option_map (bad_file (codes "BadFileName")) b
    ∷ option_map (bad_file (codes "SameBaseName")) s ∷ []) ≡ None → b ≡ None
names_of (Some file) l b s is = absurd (cc)
names_of None true b s is = absurd (cc)
names_of None false (Some file) s is = absurd (cc)
names_of None false None s is = refl

pub names_sound : (options : ReportOptions) (counts : Counts) → prepare_fault options counts ≡ None → bad_file_name (files_for options counts) ≡ None
names_sound options counts none =
    names_of (bad_key_line counts) (nat_lt (most LineEntries) (line_entries counts)) (bad_file_name (files_for options counts))
    (same_base_name (files_for options counts)) (counts_sound options counts none)
