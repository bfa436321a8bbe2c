-- Tables of counts, and those that are annotated.
use Rattle.std.proofs.Common.{◌≡◌, ℕ, zero, suc, ◌<◌, Bool, true, false, cond, ◌||◌, List, [], ◌∷◌, length, map, filter, get_or, Option, None, refl, sym, ap}
use Rattle.std.proofs.Common.{◌∙◌, subst, arith}
use Rattle.std.specs.List.{list_any}
use Rattle.cov_dat.specs.Merging.{Counts}
use Rattle.report_text.specs.Items.{files_of, is_low, lines_in}
use Rattle.report_text.specs.FileNames.{annotated_files, has_low_line}
use Rattle.report_text.specs.Tables.{Table, counted, seen_table, seen_tables, table_of, tables_of}
use Rattle.report_text.specs.declared.file_table.FileTable.{FileTable}
use Rattle.report_text.specs.Faults.{or_then, prepare_fault, table_fault}
use Rattle.report_text.specs.declared.options.ReportOptions.{ReportOptions}
use Rattle.report_text.specs.declared.report_fault.ReportFault.{ReportFault}
use Rattle.cov_report.specs.Names.{name_fault_if}
use Rattle.cov_report.specs.Reports.{ReportValue, IsReportOf, files_annotated, ordered}
use Rattle.cov_report.specs.Choosing.{has_low, is_chosen, StandsAt}

low_lines : (minimum : ℕ) (counts : Counts) (file : List ℕ) (ns : List ℕ)
    → has_low minimum (map (counted counts file) ns) ≡ list_any (is_low minimum counts file) ns
low_lines minimum counts file [] = refl
low_lines minimum counts file (n ∷ ns) = ap (λ (b : Bool). is_low minimum counts file n || b) (low_lines minimum counts file ns)

chosen_names : (all : Bool) (minimum : ℕ) (counts : Counts) (fs : List (List ℕ))
    → map (λ (t : Table). t.name) (filter (is_chosen all minimum) (map (table_of counts) fs)) ≡ filter (λ file. all || has_low_line minimum counts file) fs
chosen_names all minimum counts [] = refl
chosen_names all minimum counts (f ∷ fs) =
    let rest = filter (is_chosen all minimum) (map (table_of counts) fs) in
    ap (λ (b : Bool). map (λ (t : Table). t.name) (cond (all || b) (table_of counts f ∷ rest) rest)) (low_lines minimum counts f (lines_in counts f))
    ∙ elim (all || has_low_line minimum counts f) as (λ b. map (λ (t : Table). t.name) (cond b (table_of counts f ∷ rest) rest)
    ≡ cond b (f ∷ filter (λ file. all || has_low_line minimum counts file) fs) (filter (λ file. all || has_low_line minimum counts file) fs)) [
      | true ↦ ap (λ (xs : List (List ℕ)). f ∷ xs) (chosen_names all minimum counts fs)
      | false ↦ chosen_names all minimum counts fs
    ]

-- the names of the chosen tables are those of the annotated files
pub names_annotated : (all : Bool) (minimum : ℕ) (counts : Counts) (tables : List FileTable) → seen_tables tables ≡ tables_of counts
    → map (λ (t : Table). t.name) (filter (is_chosen all minimum) (seen_tables tables)) ≡ annotated_files all minimum counts
names_annotated all minimum counts tables is =
    ap (λ (ts : List Table). map (λ (t : Table). t.name) (filter (is_chosen all minimum) ts)) is ∙ chosen_names all minimum counts (files_of counts)

first_of : Table → List Table → Table
first_of t [] = t
first_of t (x ∷ xs) = x

tail_of : List Table → List Table
tail_of [] = []
tail_of (x ∷ xs) = xs

-- a table of these counts is that of the file of its name
table_here : (tables : List FileTable) (counts : Counts) (fs : List (List ℕ)) (k : ℕ) (d : FileTable) → seen_tables tables ≡ map (table_of counts) fs
    → k < length tables
    → seen_table (get_or tables k d) ≡ table_of counts (get_or tables k d).name.now
table_here [] counts fs k d is within = absurd (omega arith)
table_here (t ∷ ts) counts [] k d is within = absurd (cc)
table_here (t ∷ ts) counts (f ∷ fs) zero d is within =
    let head : seen_table t ≡ table_of counts f = cc in
    head ∙ ap (table_of counts) (sym (ap (λ (x : Table). x.name) head))
table_here (t ∷ ts) counts (f ∷ fs) (suc k) d is within =
    let rest : seen_tables ts ≡ map (table_of counts) fs = cc in
    table_here ts counts fs k d rest (omega arith)

pub table_at : (tables : List FileTable) (counts : Counts) (k : ℕ) (d : FileTable) (name : List ℕ) → seen_tables tables ≡ tables_of counts
    → StandsAt tables k name
    → seen_table (get_or tables k d) ≡ table_of counts name
table_at tables counts k d name is stands = table_here tables counts (files_of counts) k d is stands.within ∙ ap (table_of counts) (stands.named d)

-- what a report keeps, by what is seen of it
pub report_stands : (r v : ReportValue) (tables ts : List FileTable) (names : List (List ℕ)) (places ps : List ℕ) (file : ℕ) → r ≡ v
    → IsReportOf r tables names places → ts ≡ tables → ps ≡ places
    → file < length (files_annotated v) → StandsAt ts (get_or ps file 0) (get_or (files_annotated v) file []) × (seen_tables ts ≡ tables_of (ordered v))
report_stands r v tables ts names places ps file e is t p within =
    let w : file < length names =
    subst (λ (ns : List (List ℕ)). file < length ns) (sym is.named) (subst (λ (x : ReportValue). file < length (files_annotated x)) (sym e) within) in (
      subst (λ (x : ReportValue). StandsAt ts (get_or ps file 0) (get_or (files_annotated x) file [])) e
          (subst (λ (xs : List FileTable). StandsAt xs (get_or ps file 0) (get_or (files_annotated r) file [])) (sym t)
          (subst (λ (xs : List ℕ). StandsAt tables (get_or xs file 0) (get_or (files_annotated r) file [])) (sym p)
          (subst (λ (ns : List (List ℕ)). StandsAt tables (get_or places file 0) (get_or ns file [])) is.named (is.stands file w)))),
      ap seen_tables t ∙ is.tabled ∙ ap (λ (x : ReportValue). tables_of (ordered x)) e,
    )

-- where tables are made, names alone can be wrong
pub prepare_is : (options : ReportOptions) (counts : Counts) (names : List (List ℕ)) → table_fault counts ≡ None
    → names ≡ annotated_files options.all options.min counts
    → prepare_fault options counts ≡ name_fault_if options.annotate names
prepare_is options counts names none e =
    ap (λ (o : Option ReportFault). or_then o (name_fault_if options.annotate (annotated_files options.all options.min counts))) none
    ∙ ap (name_fault_if options.annotate) (sym e)
