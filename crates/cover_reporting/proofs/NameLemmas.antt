-- The names of annotated sources, and of what is to be stored.
use Rattle.std.proofs.Common.{◌≡◌, ℕ, Bool, true, false, cond, not, List, [], ◌∷◌, ◌++◌, map, refl, sym, ap, subst, ◌∙◌, Option, None, Some, arith}
use Rattle.std.specs.Prelude.{is_some, option_to_list, All, Contains}
use Rattle.std.specs.List.{flat_map, list_any}
use Rattle.std.specs.Str.{bytes_eq}
use Rattle.std.proofs.lemmas.List.{map-append}
use Rattle.std.proofs.lemmas.List.Elements.{All-append, All-cons, All-from_get_or, All-map, All-nil, All-weaker, Contains-append_right}
use Rattle.cov_dat.specs.Merging.{Counts}
use Rattle.cov_words.specs.Command.{Covering}
use Rattle.report_text.specs.FileNames.{annotated_files, bad_file_name, base_name, is_good_name, same_base_behind, same_base_name}
use Rattle.report_text.specs.declared.options.ReportOptions.{ReportOptions}
use Rattle.cover_answer.specs.CoverPromise.{MayAnnotate, MayStore, merged_file, info_file, annotated_file}
use Rattle.cover_answer.specs.Reports.{minimum_of, sources_of, stored_name}
use Rattle.cover_reports.specs.Sources.{files_for, names_in}
use Rattle.cover_reports.proofs.GoodNames.{good_at}
use Rattle.cover_reporting.specs.Reporting.{options_for}

-- ---- sources

-- sources are annotated only where a folder is given
asked_by_one : (b : Bool) (files : List (List ℕ)) (file : List ℕ) → Contains (cond b files []) file → b ≡ true
asked_by_one true files file there = refl
asked_by_one false files file there = absurd (omega (arith, there.1))

asked_by_bad : (b : Bool) (files : List (List ℕ)) (file : List ℕ) → bad_file_name (cond b files []) ≡ Some file → b ≡ true
asked_by_bad true files file is = refl
asked_by_bad false files file is = absurd (cc)

-- where none is bad, each is good
good_one : (files : List (List ℕ)) (file : List ℕ) → bad_file_name files ≡ None → Contains files file → is_good_name file ≡ true
good_one files file none there = subst (λ (name : List ℕ). is_good_name name ≡ true) there.2 (good_at files there.0 file none there.1)

-- the one that is bad isn't good
bad_one : (files : List (List ℕ)) (file : List ℕ) → bad_file_name files ≡ Some file → is_good_name file ≡ false
bad_one [] file is = absurd (cc)
bad_one (first ∷ files) file is =
    elim (is_good_name first) as (λ b. is_good_name first ≡ b → cond (not b) (Some first) (bad_file_name files) ≡ Some file → is_good_name file ≡ false) [
      | true ↦ λ good later. bad_one files file later
      | false ↦ λ bad here. let same : first ≡ file = cc in subst (λ (name : List ℕ). is_good_name name ≡ false) same bad
    ] refl is

-- the one whose base name is that of another is one of the names
same_one : (before files : List (List ℕ)) (file : List ℕ) → same_base_behind before files ≡ Some file → Contains files file
same_one before [] file is = absurd (cc)
same_one before (first ∷ files) file is =
    elim (list_any (λ other. bytes_eq (base_name other) (base_name first)) before)
    as (λ b. cond b (Some first) (same_base_behind (before ++ first ∷ []) files) ≡ Some file → Contains (first ∷ files) file) [
      | true ↦ λ here. let same : first ≡ file = cc in (0, omega arith, same)
      | false ↦ λ later. Contains-append_right (first ∷ []) files file (same_one (before ++ first ∷ []) files file later)
    ] is

pub may_annotate : (asked : Covering) (counts : Counts) (file : List ℕ) → bad_file_name (sources_of asked counts) ≡ None → Contains
    (sources_of asked counts) file
    → MayAnnotate asked file
may_annotate asked counts file none there = (
  asked_by_one (is_some asked.annotate) (annotated_files asked.annotate_all (minimum_of asked) counts) file there,
  good_one
      (sources_of asked counts) file none there,
)

pub bad_asked : (asked : Covering) (counts : Counts) (file : List ℕ) → bad_file_name (sources_of asked counts) ≡ Some file
    → (is_some asked.annotate ≡ true) × (is_good_name file ≡ false)
bad_asked asked counts file is =
    (asked_by_bad (is_some asked.annotate) (annotated_files asked.annotate_all (minimum_of asked) counts) file is, bad_one (sources_of asked counts) file is)

pub same_asked : (asked : Covering) (counts : Counts) (file : List ℕ) → bad_file_name (sources_of asked counts) ≡ None
    → same_base_name (sources_of asked counts) ≡ Some file → MayAnnotate asked file
same_asked asked counts file none is = may_annotate asked counts file none (same_one [] (sources_of asked counts) file is)

-- ---- what is to be stored

-- a file that is stored where a name is given for it
one_named : (P : List ℕ → Type 0) (given : Option (List ℕ)) (text : List ℕ) → ((name : List ℕ) → given ≡ Some name → P name)
    → All P (names_in (map (λ name. (name, text)) (option_to_list given)))
one_named P None text may = All-nil P
one_named P (Some name) text may = All-cons P name [] (may name refl) (All-nil P)

named_behind : (P : List ℕ → Type 0) (old more new : List (List ℕ × List ℕ)) → new ≡ old ++ more → All P (names_in old) → All P (names_in more)
    → All P (names_in new)
named_behind P old more new is before behind =
    subst (All P) (sym (ap names_in is ∙ map-append (λ (s : List ℕ × List ℕ). s.0) old more)) (All-append P (names_in old) (names_in more) before behind)

pub merged_named : (asked : Covering) (text : List ℕ) (old new : List (List ℕ × List ℕ)) → old ≡ []
    → new ≡ old ++ map (λ name. (name, text)) (option_to_list asked.write) → All (MayStore asked) (names_in new)
merged_named asked text old new none is =
    named_behind (MayStore asked) old _ new is
    (subst (λ (stores : List (List ℕ × List ℕ)). All (MayStore asked) (names_in stores)) (sym none) (All-nil (MayStore asked)))
    (one_named (MayStore asked) asked.write text (λ name given. merged_file name given))

pub info_named : (asked : Covering) (text : List ℕ) (old new : List (List ℕ × List ℕ)) → new ≡ old ++ map (λ name. (name, text))
    (option_to_list asked.write_info)
    → All (MayStore asked) (names_in old) → All (MayStore asked) (names_in new)
info_named asked text old new is before =
    named_behind (MayStore asked) old _ new is before (one_named (MayStore asked) asked.write_info text (λ name given. info_file name given))

-- the annotated files, which are stored where a folder is given for them
all_named : (P : List ℕ → Type 0) (given : Option (List ℕ)) (files : List (List ℕ)) → bad_file_name files ≡ None
    → ((folder file : List ℕ) → given ≡ Some folder → is_good_name file ≡ true → P (stored_name folder file))
    → All P (flat_map (λ folder. map (stored_name folder) files) (option_to_list given))
all_named P None files none may = All-nil P
all_named P (Some folder) files none may =
    let good = All-from_get_or (λ file. is_good_name file ≡ true) files [] (λ k within. good_at files k [] none within) in
    All-append P (map (stored_name folder) files) []
    (All-map P (stored_name folder) files (All-weaker (λ file. is_good_name file ≡ true) (λ file. P (stored_name folder file))
    (λ file one. may folder file refl one) files good))
    (All-nil P)

pub sources_named : (asked : Covering) (options : ReportOptions) (counts : Counts) (old new : List (List ℕ)) → options ≡ options_for asked
    → bad_file_name (sources_of asked counts) ≡ None
    → new ≡ old ++ flat_map (λ folder. map (stored_name folder) (files_for options counts)) (option_to_list asked.annotate)
    → All (MayStore asked) old → All (MayStore asked) new
sources_named asked options counts old new same none is before =
    let files = sources_of asked counts in
    let named : new ≡ old ++ flat_map (λ folder. map (stored_name folder) files) (option_to_list asked.annotate) =
    is ∙ ap (λ (o : ReportOptions). old ++ flat_map (λ folder. map (stored_name folder) (files_for o counts)) (option_to_list asked.annotate)) same in
    subst (All (MayStore asked)) (sym named)
    (All-append (MayStore asked) old (flat_map (λ folder. map (stored_name folder) files) (option_to_list asked.annotate)) before
    (all_named (MayStore asked) asked.annotate files none (λ folder file given good. annotated_file folder file given good)))
