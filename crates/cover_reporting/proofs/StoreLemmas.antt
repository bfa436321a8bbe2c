-- The stores of reports, one behind the other.
use Rattle.std.proofs.Common.{◌≡◌, ℕ, List, ◌++◌, map, ap, subst, ◌∙◌, Option}
use Rattle.std.specs.Prelude.{IfSome, option_to_list}
use Rattle.std.specs.List.{flat_map}
use Rattle.cov_port.specs.Files.{Names}
use Rattle.cov_dat.specs.Merging.{Counts}
use Rattle.cov_words.specs.Command.{Covering}
use Rattle.report_text.specs.Info.{info_text}
use Rattle.report_text.specs.declared.options.ReportOptions.{ReportOptions}
use Rattle.cov_report.specs.Reports.{options_of}
use Rattle.command_ending.proofs.PutLemmas.{if_told}
use Rattle.cover_reports.specs.Sources.{files_for, store_of}
use Rattle.cover_reporting.specs.Reporting.{options_for, stores_behind}

-- the info file, and then the annotated files
pub stores_made : (told : Option Names) (asked : Covering) (options : ReportOptions) (counts : Counts) (old now new : List (List ℕ × List ℕ))
    → options ≡ options_for asked → now ≡ old ++ map (λ name. (name, info_text counts)) (option_to_list asked.write_info)
    → IfSome told (λ held. new ≡ now
    ++ flat_map (λ folder. map (store_of held (options_of options) counts folder) (files_for options counts)) (option_to_list asked.annotate))
    → IfSome told (λ held. new ≡ stores_behind held asked counts old)
stores_made told asked options counts old now new same info made =
    let sources : Names → List (List ℕ × List ℕ) = λ held.
    flat_map (λ folder. map (store_of held (options_of (options_for asked)) counts folder) (files_for (options_for asked) counts))
    (option_to_list asked.annotate) in
    if_told told (λ held. new ≡ now ++ sources held) (λ held. new ≡ stores_behind held asked counts old)
    (λ held is. is ∙ ap (λ (stores : List (List ℕ × List ℕ)). stores ++ sources held) info)
    (subst (λ (o : ReportOptions). IfSome told (λ held. new ≡ now
    ++ flat_map (λ folder. map (store_of held (options_of o) counts folder) (files_for o counts)) (option_to_list asked.annotate))) same made)
