-- Private: which tables are annotated, and where they stand.
use Rattle.std.specs.Prelude.{◌≡◌, ℕ, ◌<◌, ◌||◌, Bool, nat_lt, List, length, get_or}
use Rattle.std.specs.List.{list_any}
use Rattle.report_text.specs.Tables.{Table}
use Rattle.report_text.specs.declared.file_table.CountedLine.{CountedLine}
use Rattle.report_text.specs.declared.file_table.FileTable.{FileTable}

-- a line below the minimum
abbrev pub has_low : ℕ → List CountedLine → Bool
has_low minimum ls = list_any (λ l. nat_lt l.count minimum) ls

abbrev pub is_chosen : Bool → ℕ → Table → Bool
is_chosen all minimum t = all || has_low minimum t.lines

-- the table at a place has this name
pub record StandsAt (tables : List FileTable) (place : ℕ) (name : List ℕ) : Type 0 where
  pub within : place < length tables
  pub named : (d : FileTable) → (get_or tables place d).name.now ≡ name
