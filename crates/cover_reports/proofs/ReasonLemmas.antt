-- Why reports aren't made, as the calls tell it.
use Rattle.std.proofs.Common.{◌≡◌, ℕ, ◌+◌, ◌-◌, ◌<◌, ◌≤◌, Bool, true, false, cond, List, [], ◌∷◌, ◌++◌, length, codes, refl, ◌∙◌, ap, Option, None, Some, arith}
use Rattle.std.specs.Prelude.{nat_lt, is_none, option_map}
use Rattle.cov_types.specs.Limits.{most}
use Rattle.cov_types.specs.declared.limit.LimitName.TheVariants.{LineEntries, SourceBytes}
use Rattle.cov_port.specs.Files.{Names}
use Rattle.cov_dat.specs.Merging.{Counts}
use Rattle.report_text.specs.Annotation.{short_source}
use Rattle.report_text.specs.FileNames.{annotated_files, bad_file_name, same_base_name}
use Rattle.report_text.specs.Faults.{or_then, prepare_fault}
use Rattle.report_text.specs.Items.{bad_key_line, line_entries}
use Rattle.report_text.specs.declared.options.ReportOptions.{ReportOptions}
use Rattle.report_text.specs.declared.report_fault.ReportFault.{ReportFault}
use Rattle.report_text.specs.declared.report_fault.ReportFault.TheVariants as fault
use Rattle.command_ending.specs.Answer.{Answer, over_limit, absent, bad_data}
use Rattle.cover_answer.specs.Reports.{bad_file, count_reasons, first_reason, reason_if, report_reasons, source_bytes, source_of, source_reasons}
use Rattle.cover_answer.specs.Reports.{sources_reasons}
use Rattle.cover_reports.specs.Sources.{annotating_reasons, answer_to, or_later, refused_from}

-- what a fault says, if there is one
abbrev pub said : Option ReportFault → Option Answer
said None = None
said (Some flaw) = answer_to flaw

said_first : (k : Option (List ℕ)) (l : Bool) (b s : Option (List ℕ))
    → first_reason (option_map (bad_file (codes "BadKeyLine")) k ∷ reason_if l (over_limit LineEntries) ∷ option_map (bad_file (codes "BadFileName")) b
    ∷ option_map (bad_file (codes "SameBaseName")) s ∷ [])
    ≡ said (or_then (or_then (option_map fault.BadKeyLine k) (cond l (Some (fault.Limit LineEntries)) None))
    (or_then (option_map fault.BadFileName b) (option_map fault.SameBaseName s)))
said_first (Some file) l b s = refl
said_first None true b s = refl
said_first None false (Some file) s = refl
said_first None false None (Some file) = refl
said_first None false None None = refl

-- where no file is annotated, no name is wrong
said_plain : (k : Option (List ℕ)) (l : Bool)
    → first_reason (option_map (bad_file (codes "BadKeyLine")) k ∷ reason_if l (over_limit LineEntries) ∷ None ∷ None ∷ [])
    ≡ said (or_then (or_then (option_map fault.BadKeyLine k) (cond l (Some (fault.Limit LineEntries)) None)) None)
said_plain (Some file) l = refl
said_plain None true = refl
said_plain None false = refl

-- the first reason of the counts is that of the fault
pub counts_said : (options : ReportOptions) (counts : Counts)
    → first_reason (count_reasons counts (cond options.annotate (annotated_files options.all options.min counts) [])) ≡ said (prepare_fault options counts)
counts_said options counts = elim options.annotate as (λ b. first_reason (count_reasons counts (cond b (annotated_files options.all options.min counts) []))
    ≡ said (or_then (or_then (option_map fault.BadKeyLine (bad_key_line counts))
    (cond (nat_lt (most LineEntries) (line_entries counts)) (Some (fault.Limit LineEntries)) None))
    (cond b (or_then (option_map fault.BadFileName (bad_file_name (annotated_files options.all options.min counts)))
    (option_map fault.SameBaseName (same_base_name (annotated_files options.all options.min counts)))) None))) [
      | true ↦ said_first (bad_key_line counts) (nat_lt (most LineEntries) (line_entries counts))
          (bad_file_name (annotated_files options.all options.min counts))
          (same_base_name (annotated_files options.all options.min counts))
      | false ↦ said_plain (bad_key_line counts) (nat_lt (most LineEntries) (line_entries counts))
    ]

-- the first reason of two lists
first_append : (xs ys : List (Option Answer)) → first_reason (xs ++ ys) ≡ or_later (first_reason xs) (first_reason ys)
first_append [] ys = refl
first_append (None ∷ xs) ys = first_append xs ys
first_append (Some answer ∷ xs) ys = refl

total_append : (held : Names) (before : List (List ℕ)) (file : List ℕ)
    → source_bytes held (before ++ file ∷ []) ≡ source_bytes held before + length (source_of held file)
total_append held [] file = omega arith
total_append held (other ∷ before) file = let rest = total_append held before file in omega (arith, rest)

lt_true : (a b : ℕ) → a < b → nat_lt a b ≡ true
lt_true a b less = grind arith

lt_false : (a b : ℕ) → b ≤ a → nat_lt a b ≡ false
lt_false a b more = grind arith

true_lt : (a b : ℕ) → nat_lt a b ≡ true → a < b
true_lt a b is = grind arith

false_lt : (a b : ℕ) → nat_lt a b ≡ false → b ≤ a
false_lt a b is = grind arith

-- what passes the limit passes what is left of it
same_passed : (used left bound all size : ℕ) → used + left ≡ bound → all ≡ used + size → nat_lt bound all ≡ nat_lt left size
same_passed used left bound all size sum is = elim (nat_lt left size) as (λ b. nat_lt left size ≡ b → nat_lt bound all ≡ b) [
  | true ↦ λ e. lt_true bound all (omega (arith, sum, is, true_lt left size e))
  | false ↦ λ e. lt_false bound all (omega (arith, sum, is, false_lt left size e))
] refl

-- what may be wrong with a source, by what is left to it
source_left : (held : Names) (counts : Counts) (before : List (List ℕ)) (left : ℕ) (file : List ℕ) → source_bytes held before + left ≡ most SourceBytes
    → source_reasons held counts before file ≡ annotating_reasons counts left (held file) file
source_left held counts before left file sum =
    ap (λ (b : Bool). reason_if (is_none (held file)) (absent file) ∷ reason_if b (over_limit SourceBytes)
    ∷ option_map (λ lines. bad_data file lines (codes "ShortSource")) (short_source counts file (source_of held file)) ∷ [])
    (same_passed (source_bytes held before) left (most SourceBytes) (source_bytes held (before
    ++ file ∷ [])) (length (source_of held file)) sum (total_append held before file))

within_sound : (a b : Bool) (x y : Answer) (rest : List (Option Answer)) → first_reason (reason_if a x ∷ reason_if b y ∷ rest) ≡ None → b ≡ false
within_sound true b x y rest none = absurd (cc)
within_sound false true x y rest none = absurd (cc)
within_sound false false x y rest none = refl

-- sources one after the other, by what is left to them
pub sources_left : (held : Names) (counts : Counts) (before : List (List ℕ)) (left : ℕ) (files : List (List ℕ))
    → source_bytes held before + left ≡ most SourceBytes
    → first_reason (sources_reasons held counts before files) ≡ refused_from held counts left files
sources_left held counts before left [] sum = refl
sources_left held counts before left (file ∷ files) sum =
    let size = length (source_of held file) in
    let one = annotating_reasons counts left (held file) file in
    first_append (source_reasons held counts before file) (sources_reasons held counts (before ++ file ∷ []) files)
    ∙ ap (λ (rs : List (Option Answer)). or_later (first_reason rs) (first_reason (sources_reasons held counts (before
    ++ file ∷ []) files))) (source_left held counts before left file sum)
    ∙ (elim (first_reason one) as (λ o. first_reason one ≡ o → or_later o (first_reason (sources_reasons held counts (before ++ file ∷ []) files))
    ≡ or_later o (refused_from held counts (left - size) files)) [
      | None ↦ λ e. sources_left held counts (before ++ file ∷ []) (left - size) files
          (let within = false_lt left size (within_sound (is_none (held file)) (nat_lt left size) (absent file) (over_limit SourceBytes) _ e) in
          omega (arith, sum, within, total_append held before file))
      | Some answer ↦ λ e. refl
    ] refl)

-- why reports aren't made whose counts are sound
pub reports_left : (held : Names) (counts : Counts) (files : List (List ℕ)) → first_reason (count_reasons counts files) ≡ None
    → first_reason (report_reasons held counts files) ≡ refused_from held counts (most SourceBytes) files
reports_left held counts files sound =
    first_append (count_reasons counts files) (sources_reasons held counts [] files)
    ∙ ap (λ (o : Option Answer). or_later o (first_reason (sources_reasons held counts [] files))) sound
    ∙ sources_left held counts [] (most SourceBytes) files refl

-- reports whose counts aren't sound
pub counts_first : (held : Names) (counts : Counts) (files : List (List ℕ)) (answer : Answer) → first_reason (count_reasons counts files) ≡ Some answer
    → first_reason (report_reasons held counts files) ≡ Some answer
counts_first held counts files answer is =
    first_append (count_reasons counts files) (sources_reasons held counts [] files)
    ∙ ap (λ (o : Option Answer). or_later o (first_reason (sources_reasons held counts [] files))) is
