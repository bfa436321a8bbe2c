-- Private: the sources of annotated files, step by step.
use Rattle.std.specs.Prelude.{◌≡◌, ℕ, ◌-◌, nat_lt, false, is_none, List, [], ◌∷◌, ◌++◌, length, map, codes, Contains, Option, None, Some, option_map}
use Rattle.std.specs.Prelude.{if◌then◌else◌}
use Rattle.std.specs.Option.{option_map_or}
use Rattle.cov_types.specs.declared.limit.LimitName.TheVariants.{SourceBytes}
use Rattle.cov_port.specs.Files.{Names}
use Rattle.cov_dat.specs.Merging.{Counts}
use Rattle.report_text.specs.Annotation.{Options, annotated_text, short_source}
use Rattle.report_text.specs.FileNames.{annotated_files}
use Rattle.report_text.specs.declared.options.ReportOptions.{ReportOptions}
use Rattle.report_text.specs.declared.report_fault.ReportFault.{ReportFault}
use Rattle.report_text.specs.declared.report_fault.ReportFault.TheVariants as fault
use Rattle.command_ending.specs.Answer.{Answer, over_limit, absent, bad_data}
use Rattle.command_ending.specs.ErrorLines.{data_line, limit_line}
use Rattle.command_ending.specs.Promise.{Promise}
use Rattle.command_ending.specs.declared.status.Status.{Status}
use Rattle.command_ending.specs.declared.status.Status.TheVariants.{BadData, Limit}
use Rattle.cover_answer.specs.Reports.{bad_file, first_reason, reason_if, source_of, stored_name}

-- what a fault of a report says to a command; a source that is too short is told with its name
abbrev pub answer_to : ReportFault → Option Answer
answer_to (fault.BadKeyLine file) = Some (bad_file (codes "BadKeyLine") file)
answer_to (fault.BadFileName file) = Some (bad_file (codes "BadFileName") file)
answer_to (fault.SameBaseName file) = Some (bad_file (codes "SameBaseName") file)
answer_to (fault.ShortSource lines) = None
answer_to (fault.Limit name) = Some (over_limit name)
answer_to fault.NoMemory = None

-- what may be wrong with a source, where this many bytes are left to all that come
abbrev pub taking_reasons : ℕ → Option (List ℕ) → List ℕ → List (Option Answer)
taking_reasons left held name =
    reason_if (is_none held) (absent name) ∷ reason_if (nat_lt left (length (option_map_or (λ text. text) held []))) (over_limit SourceBytes) ∷ []

-- what taking a source promises
abbrev pub source_promise : ℕ → List ℕ → Promise
source_promise left name = record {
  Answers = λ held answer. first_reason (taking_reasons left (held name) name) ≡ Some answer;
  Refuses = λ status line. (status ≡ Limit) × (line ≡ limit_line SourceBytes);
  Reads = λ other. other ≡ name;
  Stores = λ other. ⊥;
  prints_early = false;
}

-- what the fault of a source that is annotated says
abbrev pub short_answer : List ℕ → ReportFault → Option Answer
short_answer name (fault.ShortSource lines) = Some (bad_data name lines (codes "ShortSource"))
short_answer name (fault.BadKeyLine file) = None
short_answer name (fault.BadFileName file) = None
short_answer name (fault.SameBaseName file) = None
short_answer name (fault.Limit limit) = None
short_answer name fault.NoMemory = None

-- what may be wrong with a source of these counts
abbrev pub annotating_reasons : Counts → ℕ → Option (List ℕ) → List ℕ → List (Option Answer)
annotating_reasons counts left held name =
    reason_if (is_none held) (absent name) ∷ reason_if (nat_lt left (length (option_map_or (λ text. text) held []))) (over_limit SourceBytes)
    ∷ option_map (λ lines. bad_data name lines (codes "ShortSource")) (short_source counts name (option_map_or (λ text. text) held [])) ∷ []

-- a source may be refused so: it is too long, or too short
pub data SourceRefuses (name : List ℕ) : Status → List ℕ → Type 0 where
  too_long : SourceRefuses name Limit (limit_line SourceBytes)
  too_short : (lines : ℕ) → SourceRefuses name BadData (data_line name lines (codes "ShortSource"))

-- what annotating a source promises
abbrev pub annotating_promise : Counts → ℕ → List ℕ → Promise
annotating_promise counts left name = record {
  Answers = λ held answer. first_reason (annotating_reasons counts left (held name) name) ≡ Some answer;
  Refuses = SourceRefuses name;
  Reads = λ other. other ≡ name;
  Stores = λ other. ⊥;
  prints_early = false;
}

-- A source was annotated: nothing is wrong with it, this is the text, and so many bytes are left to the sources behind it.
pub record IsAnnotated (held : Names) (options : Options) (counts : Counts) (name : List ℕ) (left : ℕ) (text : List ℕ) (rest : ℕ) : Type 0 where
  pub sound : first_reason (annotating_reasons counts left (held name) name) ≡ None
  pub text_is : text ≡ annotated_text options counts name (source_of held name)
  pub rest_is : rest ≡ left - length (source_of held name)

-- the files that are annotated under options
abbrev pub files_for : ReportOptions → Counts → List (List ℕ)
files_for options counts = if options.annotate then annotated_files options.all options.min counts else []

-- the first of two reasons
abbrev pub or_later : Option Answer → Option Answer → Option Answer
or_later None later = later
or_later (Some answer) later = Some answer

-- why sources aren't annotated, where so many bytes are left to them
abbrev pub refused_from : Names → Counts → ℕ → List (List ℕ) → Option Answer
refused_from held counts left [] = None
refused_from held counts left (file ∷ files) =
    or_later (first_reason (annotating_reasons counts left (held file) file)) (refused_from held counts (left - length (source_of held file)) files)

-- the annotated file of a source, to be stored in a folder
abbrev pub store_of : Names → Options → Counts → List ℕ → List ℕ → List ℕ × List ℕ
store_of held options counts folder file = (stored_name folder file, annotated_text options counts file (source_of held file))

-- the names of files that are to be stored
abbrev pub names_in : List (List ℕ × List ℕ) → List (List ℕ)
names_in stores = map (λ store. store.0) stores

-- A source was annotated, and its annotated file stands behind the stores.
pub record IsStored (held : Names) (options : Options) (counts : Counts) (folder file : List ℕ) (left : ℕ) (old new : List (List ℕ × List ℕ)) (rest : ℕ)
    : Type 0 where
  pub sound : first_reason (annotating_reasons counts left (held file) file) ≡ None
  pub stores_is : new ≡ old ++ store_of held options counts folder file ∷ []
  pub rest_is : rest ≡ left - length (source_of held file)

-- what annotating sources promises
abbrev pub sources_promise : Counts → ℕ → List (List ℕ) → Promise
sources_promise counts left files = record {
  Answers = λ held answer. refused_from held counts left files ≡ Some answer;
  Refuses = λ status line. (file : List ℕ) × Contains files file × SourceRefuses file status line;
  Reads = Contains files;
  Stores = λ other. ⊥;
  prints_early = false;
}
