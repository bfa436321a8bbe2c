-- Reports that aren't made.
use Rattle.std.proofs.Common.{◌≡◌, ℕ, Bool, true, false, List, [], ◌∷◌, codes, refl, ap, subst, ◌∙◌, Option, None, Some, Result, Ok, Err}
use Rattle.std.specs.Prelude.{nat_lt, is_some, option_map, IfSome, IfErr, OnOk}
use Rattle.cov_types.specs.Limits.{most}
use Rattle.cov_types.specs.declared.limit.LimitName.TheVariants.{LineEntries, SourceBytes}
use Rattle.cov_port.specs.Files.{Names, FileFaults}
use Rattle.cov_dat.specs.Merging.{Counts}
use Rattle.cov_words.specs.Command.{Covering}
use Rattle.report_text.specs.FileNames.{bad_file_name, is_good_name, same_base_name}
use Rattle.report_text.specs.Items.{bad_key_line, line_entries}
use Rattle.report_text.specs.declared.options.ReportOptions.{ReportOptions}
use Rattle.command_ending.specs.Answer.{Answer, refused_with, over_limit}
use Rattle.command_ending.specs.Stops.{IsRefusal, Stops}
use Rattle.command_ending.specs.declared.ending.Ending.{Ending}
use Rattle.command_ending.specs.declared.status.Status.{Status}
use Rattle.command_ending.proofs.PutLemmas.{always_told, if_told}
use Rattle.command_ending.proofs.StopLemmas.{refusal_stops, stops_weaker}
use Rattle.cover_answer.specs.CoverPromise.{MayAnnotate, ReportRefuses}
use Rattle.cover_answer.specs.CoverPromise as may
use Rattle.cover_answer.specs.Reports.{bad_file, count_reasons, first_reason, in_key_order, looks_at_lines, reason_if, report_refusal, sources_of}
use Rattle.cover_reports.specs.Sources.{files_for, refused_from, sources_promise, SourceRefuses, too_long, too_short}
use Rattle.cover_reports.proofs.ReasonLemmas.{counts_first, reports_left}
use Rattle.cover_reporting.specs.Reporting.{options_for, reports_promise}
use Rattle.cover_reporting.proofs.AskedLemmas.{refusal_asked}
use Rattle.cover_reporting.proofs.NameLemmas.{bad_asked, may_annotate, same_asked}

-- what is wrong with counts may be said
first_may : (asked : Covering) (k : Option (List ℕ)) (l : Bool) (b s : Option (List ℕ)) → looks_at_lines asked ≡ true
    → ((file : List ℕ) → b ≡ Some file → (is_some asked.annotate ≡ true) × (is_good_name file ≡ false))
    → ((file : List ℕ) → b ≡ None → s ≡ Some file → MayAnnotate asked file)
    → (status : Status) (line : List ℕ)
    → first_reason (option_map (bad_file (codes "BadKeyLine")) k ∷ reason_if l (over_limit LineEntries) ∷ option_map (bad_file (codes "BadFileName")) b
    ∷ option_map (bad_file (codes "SameBaseName")) s ∷ []) ≡ Some (refused_with status line)
    → ReportRefuses asked status line
first_may asked (Some file) l b s looks bad same status line is =
    let so : bad_file (codes "BadKeyLine") file ≡ refused_with status line = cc in
    subst (λ (a : Answer). ReportRefuses asked a.status a.line) so (may.bad_key_line file looks)
first_may asked None true b s looks bad same status line is =
    let so : over_limit LineEntries ≡ refused_with status line = cc in
    subst (λ (a : Answer). ReportRefuses asked a.status a.line) so (may.too_many_lines looks)
first_may asked None false (Some file) s looks bad same status line is =
    let so : bad_file (codes "BadFileName") file ≡ refused_with status line = cc in
    subst (λ (a : Answer). ReportRefuses asked a.status a.line) so (may.bad_file_name file (bad file refl).0 (bad file refl).1)
first_may asked None false None (Some file) looks bad same status line is =
    let so : bad_file (codes "SameBaseName") file ≡ refused_with status line = cc in
    subst (λ (a : Answer). ReportRefuses asked a.status a.line) so (may.same_base_name file (same file refl refl))
first_may asked None false None None looks bad same status line is = absurd (cc)

-- counts for which no report is prepared
pub counts_stop : (told : Option Names) (asked : Covering) (options : ReportOptions) (counts : Counts) (before now : FileFaults) (e : Ending) → now ≡ before
    → looks_at_lines asked ≡ true → options ≡ options_for asked
    → IsRefusal (λ a. first_reason (count_reasons counts (files_for options counts)) ≡ Some a) e
    → Stops (reports_promise asked counts) told before now e
counts_stop told asked options counts before now e quiet looks same refusal =
    refusal_stops (reports_promise asked counts) (λ a. first_reason (count_reasons counts (sources_of asked counts)) ≡ Some a) told before now e quiet
    (first_may asked (bad_key_line counts) (nat_lt (most LineEntries) (line_entries counts)) (bad_file_name (sources_of asked counts))
    (same_base_name (sources_of asked counts)) looks
    (λ file is. bad_asked asked counts file is) (λ file none is. same_asked asked counts file none is))
    (always_told told _ (λ held answer is. refusal_asked held asked counts looks ∙ counts_first held counts (sources_of asked counts) answer is))
    (subst (λ (o : ReportOptions). IsRefusal (λ a. first_reason (count_reasons counts (files_for o counts)) ≡ Some a) e) same refusal)

-- what is wrong with a source may be said
source_may : (asked : Covering) (file : List ℕ) (status : Status) (line : List ℕ) → MayAnnotate asked file → SourceRefuses file status line
    → ReportRefuses asked status line
source_may asked file status line good too_long = may.too_long good.0
source_may asked file status line good (too_short lines) = may.short_source file lines good

-- sources that aren't annotated
sources_stop : (told : Option Names) (asked : Covering) (counts : Counts) (before now : FileFaults) (e : Ending) → looks_at_lines asked ≡ true
    → first_reason (count_reasons counts (sources_of asked counts)) ≡ None → bad_file_name (sources_of asked counts) ≡ None
    → Stops (sources_promise counts (most SourceBytes) (sources_of asked counts)) told before now e
    → Stops (reports_promise asked counts) told before now e
sources_stop told asked counts before now e looks sound none =
    stops_weaker (sources_promise counts (most SourceBytes) (sources_of asked counts)) (reports_promise asked counts) told before now e
    (λ name there. may_annotate asked counts name none there)
    (λ status line one. source_may asked one.0 status line (may_annotate asked counts one.0 none one.1) one.2)
    (always_told told _ (λ held answer is. refusal_asked held asked counts looks ∙ reports_left held counts (sources_of asked counts) sound ∙ is))

-- What is known of counts for which a report is prepared.
pub record IsPrepared (asked : Covering) (options : ReportOptions) (counts prepared : Counts) : Type 0 where
  pub looks : looks_at_lines asked ≡ true
  pub options_are : options ≡ options_for asked
  pub counts_are : prepared ≡ counts
  pub sound : first_reason (count_reasons counts (files_for options counts)) ≡ None
  pub names : bad_file_name (files_for options counts) ≡ None

pub prepared_by : (asked : Covering) (options : ReportOptions) (merged kept : Counts) → looks_at_lines asked ≡ true → options ≡ options_for asked
    → kept ≡ merged
    → first_reason (count_reasons (in_key_order merged) (files_for options (in_key_order merged))) ≡ None
    → bad_file_name (files_for options (in_key_order merged)) ≡ None
    → IsPrepared asked options (in_key_order merged) (in_key_order kept)
prepared_by asked options merged kept looks same kept_is sound names =
    record { looks = looks; options_are = same; counts_are = ap in_key_order kept_is; sound = sound; names = names }

counts_sound : (asked : Covering) (options : ReportOptions) (counts prepared : Counts) → IsPrepared asked options counts prepared
    → first_reason (count_reasons counts (sources_of asked counts)) ≡ None
counts_sound asked options counts prepared is = subst
    (λ (o : ReportOptions). first_reason (count_reasons counts (files_for o counts)) ≡ None) is.options_are is.sound

names_good : (asked : Covering) (options : ReportOptions) (counts prepared : Counts) → IsPrepared asked options counts prepared
    → bad_file_name (sources_of asked counts) ≡ None
names_good asked options counts prepared is = subst (λ (o : ReportOptions). bad_file_name (files_for o counts) ≡ None) is.options_are is.names

-- reports of a report that is prepared, where something is wrong with a source
pub prepared_stop : {T : Type 0} (result : Result T Ending) (told : Option Names) (asked : Covering) (options : ReportOptions)
    (counts prepared : Counts) (before now : FileFaults)
    → IsPrepared asked options counts prepared
    → IfErr result (Stops (sources_promise prepared (most SourceBytes) (sources_of asked prepared)) told before now)
    → IfErr result (Stops (reports_promise asked counts) told before now)
prepared_stop (Ok made) told asked options counts prepared before now is stops = tt
prepared_stop (Err e) told asked options counts prepared before now is stops =
    sources_stop told asked counts before now e is.looks (counts_sound asked options counts prepared is) (names_good asked options counts prepared is)
    (subst (λ (c : Counts). Stops (sources_promise c (most SourceBytes) (sources_of asked c)) told before now e) is.counts_are stops)

-- the same, where nothing is wrong
pub prepared_sound : {T : Type 0} (result : Result T Ending) (told : Option Names) (asked : Covering) (options : ReportOptions) (counts prepared : Counts)
    → IsPrepared asked options counts prepared
    → OnOk result (IfSome told (λ held. refused_from held prepared (most SourceBytes) (sources_of asked prepared) ≡ None))
    → OnOk result (IfSome told (λ held. report_refusal held asked counts ≡ None))
prepared_sound (Err e) told asked options counts prepared is sound = tt
prepared_sound (Ok made) told asked options counts prepared is sound =
    if_told told (λ held. refused_from held counts (most SourceBytes) (sources_of asked counts) ≡ None) _
    (λ held none. refusal_asked held asked counts is.looks
    ∙ reports_left held counts (sources_of asked counts) (counts_sound asked options counts prepared is) ∙ none)
    (subst (λ (c : Counts). IfSome told (λ held. refused_from held c (most SourceBytes) (sources_of asked c) ≡ None)) is.counts_are sound)
