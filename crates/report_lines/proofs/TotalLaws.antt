-- The total line that is made from tables is that of the counts.
use Rattle.std.proofs.Common.{◌≡◌, ℕ, suc, true, false, cond, not, List, [], ◌∷◌, length, map, refl, ap}
use Rattle.std.specs.Prelude.{nat_lt, filter}
use Rattle.cov_dat.specs.Merging.{Counts}
use Rattle.cov_port.specs.Sums.{total}
use Rattle.report_text.specs.Items.{files_of, is_low, lines_in}
use Rattle.report_text.specs.Tables.{Table, counted, table_of, tables_of}
use Rattle.report_text.specs.Totals.{total_line, total_text}
use Rattle.report_text.specs.declared.file_table.CountedLine.{CountedLine}
use Rattle.report_lines.specs.Walks.{all_counted, all_reached, reached_in}

length_map : {A B : Type 0} (f : A → B) (xs : List A) → length (map f xs) ≡ length xs
length_map f [] = refl
length_map f (x ∷ xs) = ap suc (length_map f xs)

module _ (minimum : ℕ) (counts : Counts) where
  -- how many of some lines of a file aren't low
  abbrev not_low : List ℕ → List ℕ → ℕ
  not_low file ms = length (filter (λ n. not (is_low minimum counts file n)) ms)

  abbrev kept : List CountedLine → List CountedLine
  kept ls = filter (λ (l : CountedLine). not (nat_lt l.count minimum)) ls

  reached_of : (file ms : List ℕ) → reached_in minimum (map (counted counts file) ms) ≡ not_low file ms
  reached_of file [] = refl
  reached_of file (m ∷ ms) =
      elim (not (is_low minimum counts file m)) as (λ b.
      length (cond b (counted counts file m ∷ kept (map (counted counts file) ms)) (kept (map (counted counts file) ms)))
      ≡ length (cond b (m ∷ filter (λ n. not (is_low minimum counts file n)) ms) (filter (λ n. not (is_low minimum counts file n)) ms))) [
        | true ↦ ap suc (reached_of file ms)
        | false ↦ reached_of file ms
      ]

  all_reached_of : (files : List (List ℕ)) → all_reached minimum (map (table_of counts) files) ≡ total (map (λ file. not_low file (lines_in counts file)) files)
  all_reached_of [] = refl
  all_reached_of (f ∷ fs) = rw (reached_of f (lines_in counts f), all_reached_of fs) refl

  all_counted_of : (files : List (List ℕ)) → all_counted (map (table_of counts) files) ≡ total (map (λ file. length (lines_in counts file)) files)
  all_counted_of [] = refl
  all_counted_of (f ∷ fs) = rw (length_map (counted counts f) (lines_in counts f), all_counted_of fs) refl

  pub total_of_tables : (tables : List Table) → tables ≡ tables_of counts
      → total_line (all_reached minimum tables) (all_counted tables) ≡ total_text minimum counts
  total_of_tables tables is = rw (is, all_reached_of (files_of counts), all_counted_of (files_of counts)) refl
