use Rattle.std.proofs.Common.{◌≡◌, ℕ, List, ◌∷◌, ◌++◌, codes, take, sym, ◌∙◌, ap, arith}
use Rattle.std.specs.List.{flat_map}
use Rattle.std.proofs.lemmas.List.{take_all}
use Rattle.std.proofs.lemmas.List.Folds.{flat_map-map}
use Rattle.report_text.specs.declared.file_table.FileTable.{FileTable}
use Rattle.report_text.specs.Tables.{seen_table, seen_tables}
use Rattle.report_lines.specs.Walks.{table_text}
use Rattle.report_lines.proofs.InfoLaws.{info_of_tables}
use Rattle.report_lines.proofs.info.info_text.Goals as goal

pub returns : goal.returns
returns c = λ counts seen.
    let all : take c.files.table-index c.args.tables.now ≡ c.args.tables.now = take_all c.files.table-index c.args.tables.now (omega arith) in
    c.from_vec.ensures
    ∙ c.files.invariant
    ∙ ap (λ (head : List ℕ). head ++ flat_map (λ t. table_text (seen_table t)) (take c.files.table-index c.args.tables.now)) c.in_ok-text.ensures.items
    ∙ ap (λ (ts : List FileTable). codes "TN:vcov" ++ 10 ∷ flat_map (λ t. table_text (seen_table t)) ts) all
    ∙ ap (λ (body : List ℕ). codes "TN:vcov" ++ 10 ∷ body) (sym (flat_map-map table_text seen_table c.args.tables.now))
    ∙ info_of_tables counts (seen_tables c.args.tables.now) seen
