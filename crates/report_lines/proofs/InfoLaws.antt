-- The info file that is made from tables is that of the counts.
use Rattle.std.proofs.Common.{◌≡◌, ℕ, ◌+◌, Bool, true, false, cond, List, [], ◌∷◌, ◌++◌, map, codes, refl, ◌∙◌, ap}
use Rattle.std.specs.Prelude.{filter}
use Rattle.std.specs.List.{flat_map, enumerate_from}
use Rattle.std.specs.Str.{bytes_eq}
use Rattle.cov_dat.specs.KeyFields.{kind}
use Rattle.cov_dat.specs.Merging.{Counts}
use Rattle.report_text.specs.Items.{Point, files_of, line_count, lines_in}
use Rattle.report_text.specs.Annotation.{points_at}
use Rattle.report_text.specs.Info.{branch_line, branch_lines, count_line, file_text, info_text}
use Rattle.report_text.specs.Tables.{PlacedPoint, Table, counted, placed_at, placed_points, table_of, tables_of}
use Rattle.report_lines.specs.Walks.{branches_from, branches_text, counts_text, is_branch, table_text}
use Rattle.report_lines.proofs.ItemLaws.{Rises, lines_rise}
use Rattle.report_lines.proofs.PointLaws.{behind_first, here_first}

-- whether a point is one of a branch
abbrev branches : Point → Bool
branches p = bytes_eq (kind p.0) (codes "branch")

-- branch lines of placed points, and of points
abbrev of_placed : ℕ → ℕ → List PlacedPoint → List ℕ
of_placed k n ps = flat_map (λ (b : ℕ × PlacedPoint). branch_line n b.0 b.1.count) (enumerate_from k ps)

abbrev of_points : ℕ → ℕ → List Point → List ℕ
of_points k n ps = flat_map (λ (b : ℕ × Point). branch_line n b.0 b.1.1) (enumerate_from k ps)

branches_placed : (k n : ℕ) (ps : List Point) → branches_from k n (map (placed_at n) ps) ≡ of_points k n (filter branches ps)
branches_placed k n [] = refl
branches_placed k n (p ∷ ps) =
    elim (branches p) as (λ b.
    of_placed k n (cond b (placed_at n p ∷ filter is_branch (map (placed_at n) ps)) (filter is_branch (map (placed_at n) ps)))
    ≡ of_points k n (cond b (p ∷ filter branches ps) (filter branches ps))) [
      | true ↦ ap (λ (t : List ℕ). branch_line n k p.1 ++ t) (branches_placed (k + 1) n ps)
      | false ↦ branches_placed k n ps
    ]

module _ (counts : Counts) where
  branches_of : (file : List ℕ) (k : ℕ) (ms : List ℕ) → Rises k ms
      → branches_text (map (counted counts file) ms) (flat_map (placed_points counts file) ms) ≡ flat_map (branch_lines counts file) ms
  branches_of file k [] rises = refl
  branches_of file k (m ∷ ms) rises =
      rw (
        here_first counts file m ms rises.1,
        behind_first counts file m ms rises.1,
        branches_placed 0 m (points_at counts file m),
        branches_of file (m + 1) ms rises.1,
      ) refl

  counts_of : (file ms : List ℕ) → counts_text (map (counted counts file) ms) ≡ flat_map (λ n. count_line n (line_count counts file n)) ms
  counts_of file [] = refl
  counts_of file (m ∷ ms) = ap (λ (t : List ℕ). count_line m (line_count counts file m) ++ t) (counts_of file ms)

  table_text_of : (file : List ℕ) → table_text (table_of counts file) ≡ file_text counts file
  table_text_of file = rw (counts_of file (lines_in counts file), branches_of file 1 (lines_in counts file) (lines_rise counts file)) refl

  tables_text_of : (files : List (List ℕ)) → flat_map table_text (map (table_of counts) files) ≡ flat_map (file_text counts) files
  tables_text_of [] = refl
  tables_text_of (f ∷ fs) =
      ap (λ (t : List ℕ). t ++ flat_map table_text (map (table_of counts) fs)) (table_text_of f)
      ∙ ap (λ (t : List ℕ). file_text counts f ++ t) (tables_text_of fs)

  pub info_of_tables : (tables : List Table) → tables ≡ tables_of counts → codes "TN:vcov" ++ 10 ∷ flat_map table_text tables ≡ info_text counts
  info_of_tables tables is = rw (is, tables_text_of (files_of counts)) refl
