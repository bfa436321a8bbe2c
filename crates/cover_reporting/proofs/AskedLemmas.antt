-- Reports that aren't asked for, and those that are.
use Rattle.std.proofs.Common.{◌≡◌, ℕ, Bool, true, false, ◌&&◌, ◌||◌, not, List, [], ◌++◌, map, refl, ap, ◌∙◌, Option, None, Some}
use Rattle.std.specs.Prelude.{is_some, is_none, option_to_list}
use Rattle.std.specs.List.{flat_map}
use Rattle.std.proofs.lemmas.List.{append-nil}
use Rattle.cov_port.specs.Files.{Names}
use Rattle.cov_dat.specs.Merging.{Counts}
use Rattle.cov_words.specs.Command.{Covering}
use Rattle.report_text.specs.Info.{info_text}
use Rattle.report_text.specs.Totals.{total_text}
use Rattle.report_text.specs.declared.options.ReportOptions.{ReportOptions}
use Rattle.cover_answer.specs.Reports.{annotated_store, first_reason, looks_at_lines, prints_total, report_reasons, report_refusal, sources_of}
use Rattle.cover_reporting.specs.Reporting.{options_for, stores_behind, total_for}

left_false : (a b : Bool) → a || b ≡ false → a ≡ false
left_false true b is = is
left_false false b is = refl

pub total_printed : (asked : Covering) (options : ReportOptions) (counts : Counts) (text : List ℕ) → prints_total asked ≡ true → options ≡ options_for asked
    → text ≡ total_text options.min counts → text ≡ total_for asked counts
total_printed asked options counts text looks same is = rw looks (is ∙ ap (λ (o : ReportOptions). total_text o.min counts) same)

pub total_not_printed : (asked : Covering) (counts : Counts) → prints_total asked ≡ false → [] ≡ total_for asked counts
total_not_printed asked counts unasked = rw unasked refl

pub total_unasked : (asked : Covering) (counts : Counts) → looks_at_lines asked ≡ false → [] ≡ total_for asked counts
total_unasked asked counts unasked = total_not_printed asked counts (left_false (prints_total asked) (is_some asked.write_info) unasked)

nothing_behind : (write info annotate : Option (List ℕ)) (rank : Bool) (A : List ℕ → List ℕ × List ℕ) (B : List ℕ → List (List ℕ × List ℕ))
    (before : List (List ℕ × List ℕ))
    → (is_some annotate || (is_none write && is_none info && not rank)) || is_some info ≡ false
    → before ≡ before ++ map A (option_to_list info) ++ flat_map B (option_to_list annotate)
nothing_behind write info (Some folder) rank A B before unasked = absurd (cc)
nothing_behind (Some out) (Some name) None rank A B before unasked = absurd (cc)
nothing_behind None (Some name) None rank A B before unasked = absurd (cc)
nothing_behind write None None rank A B before unasked = rw (append-nil before, append-nil before) refl

pub stores_unasked : (held : Names) (asked : Covering) (counts : Counts) (before : List (List ℕ × List ℕ)) → looks_at_lines asked ≡ false
    → before ≡ stores_behind held asked counts before
stores_unasked held asked counts before unasked =
    nothing_behind asked.write asked.write_info asked.annotate asked.rank (λ name. (name, info_text counts))
    (λ folder. map (annotated_store held asked counts folder) (sources_of asked counts)) before unasked

pub refusal_unasked : (held : Names) (asked : Covering) (counts : Counts) → looks_at_lines asked ≡ false → report_refusal held asked counts ≡ None
refusal_unasked held asked counts unasked = rw unasked refl

pub refusal_asked : (held : Names) (asked : Covering) (counts : Counts) → looks_at_lines asked ≡ true
    → report_refusal held asked counts ≡ first_reason (report_reasons held counts (sources_of asked counts))
refusal_asked held asked counts looks = rw looks refl
