-- The annotated source that is made from a table, and whether the source is too short, are those of the counts.
use Rattle.std.proofs.Common.{◌≡◌, ◌≢◌, ℕ, ◌+◌, ◌≤◌, ◌==◌, ◌||◌, Bool, true, false, cond, List, [], ◌∷◌, ◌++◌, length, map, codes, None, Some}
use Rattle.std.proofs.Common.{refl, sym, ◌∙◌, ap, subst, arith, eq-eqb, inl, inr}
use Rattle.std.specs.Prelude.{nat_lt}
use Rattle.std.specs.List.{flat_map, enumerate_from, list_any}
use Rattle.std.proofs.lemmas.Bool.{ne_eqb}
use Rattle.std.proofs.lemmas.Bool.Decides.{eqb_tells}
use Rattle.std.proofs.lemmas.List.{append-nil}
use Rattle.cov_dat.specs.Merging.{Counts}
use Rattle.cov_port.specs.Lines.{Line, lines_of}
use Rattle.report_text.specs.Items.{Point, is_low, line_count, lines_in}
use Rattle.report_text.specs.Annotation.{Options, annotated_text, counted_line, plain_line, point_line, points_at, short_source, source_line}
use Rattle.report_text.specs.Tables.{Table, counted, placed_at, placed_points, table_of}
use Rattle.report_text.specs.declared.file_table.CountedLine.{CountedLine}
use Rattle.report_lines.specs.Walks.{annotated_from, lines_behind, placed_line, points_text, source_text}
use Rattle.report_lines.proofs.ItemLaws.{Rises, has_items, is_among, is_other, lines_rise, no_points, none_below}
use Rattle.report_lines.proofs.PointLaws.{behind_first, behind_later, here_first, here_later}

placed_lines : (minimum n : ℕ) (ps : List Point) → flat_map (placed_line minimum) (map (placed_at n) ps) ≡ flat_map (point_line minimum) ps
placed_lines minimum n [] = refl
placed_lines minimum n (p ∷ ps) = ap (λ (t : List ℕ). point_line minimum p ++ t) (placed_lines minimum n ps)

points_text_of : (wanted : Bool) (minimum n : ℕ) (ps : List Point)
    → points_text wanted minimum (map (placed_at n) ps) ≡ cond wanted (flat_map (point_line minimum) ps) []
points_text_of true minimum n ps = placed_lines minimum n ps
points_text_of false minimum n ps = refl

neither : (b : Bool) → ◌≡◌ {A = List ℕ} (cond b [] []) []
neither true = refl
neither false = refl

module _ (o : Options) (counts : Counts) (file : List ℕ) where
  -- the points of a line as lines, where they are wanted
  abbrev points_told : ℕ → List ℕ
  points_told n = cond o.points (flat_map (point_line o.minimum) (points_at counts file n)) []

  -- what is made of source lines from a number on, and what the counts tell of them
  abbrev made : ℕ → List ℕ → List Line → List ℕ
  made n ms source = annotated_from o.minimum o.points n (map (counted counts file) ms) (flat_map (placed_points counts file) ms) source

  abbrev told : ℕ → List Line → List ℕ
  told n source = flat_map (source_line o counts file) (enumerate_from n source)

  -- the lines with items from a number on are these
  abbrev AreFrom : ℕ → List ℕ → Type 0
  AreFrom n ms = (m : ℕ) → n ≤ m → is_among m (lines_in counts file) ≡ is_among m ms

  line_with : (n : ℕ) (l : Line) → is_among n (lines_in counts file) ≡ true
      → source_line o counts file (n, l) ≡ counted_line (is_low o.minimum counts file n) (line_count counts file n) l.0 ++ points_told n
  line_with n l is = rw (has_items counts file n, is) refl

  line_without : (n : ℕ) (l : Line) → is_among n (lines_in counts file) ≡ false → source_line o counts file (n, l) ≡ plain_line l.0
  line_without n l is =
      rw (has_items counts file n, is, no_points counts file n is)
      (ap (λ (t : List ℕ). plain_line l.0 ++ t) (neither o.points) ∙ append-nil (plain_line l.0))

  -- at a line before the lines with items nothing is taken off
  plain_later : (n : ℕ) (ms text : List ℕ) → Rises (n + 1) ms → source_text o.minimum (map (counted counts file) ms) n text ≡ plain_line text
  plain_later n [] text rises = refl
  plain_later n (m ∷ ms) text rises = rw (is_other m n (omega (arith, rises.0))) refl

  lines_later : (n : ℕ) (ms : List ℕ) → Rises (n + 1) ms → lines_behind n (map (counted counts file) ms) ≡ map (counted counts file) ms
  lines_later n [] rises = refl
  lines_later n (m ∷ ms) rises = rw (is_other m n (omega (arith, rises.0))) refl

  from_next : (n : ℕ) (ms : List ℕ) → AreFrom n ms → AreFrom (n + 1) ms
  from_next n ms are k above = are k (omega arith)

  from_behind : (n : ℕ) (ms : List ℕ) → AreFrom n (n ∷ ms) → AreFrom (n + 1) ms
  from_behind n ms are k above = are k (omega arith) ∙ (let other : (n == k) ≡ false = ne_eqb n k (λ e. omega arith) in rw other refl)

  -- one source line before the lines with items
  step_later : (n : ℕ) (ms : List ℕ) (l : Line) (source : List Line) → Rises (n + 1) ms → AreFrom n ms
      → made (n + 1) ms source ≡ told (n + 1) source → made n ms (l ∷ source) ≡ told n (l ∷ source)
  step_later n ms l source rises are more =
      rw (
        line_without n l (are n (omega arith) ∙ none_below (n + 1) n ms rises (omega arith)),
        plain_later n ms l.0 rises,
        lines_later n ms rises,
        here_later counts file (n + 1) n ms rises (omega arith),
        behind_later counts file (n + 1) n ms rises (omega arith),
        neither o.points,
      ) (ap (λ (t : List ℕ). t ++ made (n + 1) ms source) (append-nil (plain_line l.0)) ∙ ap (λ (t : List ℕ). plain_line l.0 ++ t) more)

  -- one source line that is the first line with items
  step_first : (n : ℕ) (ms : List ℕ) (l : Line) (source : List Line) → Rises (n + 1) ms → AreFrom n (n ∷ ms)
      → made (n + 1) ms source ≡ told (n + 1) source → made n (n ∷ ms) (l ∷ source) ≡ told n (l ∷ source)
  step_first n ms l source rises are more =
      let same : (n == n) ≡ true = eq-eqb n n refl in
      let has : is_among n (n ∷ ms) ≡ true = rw same refl in
      rw (
        line_with n l (are n (omega arith) ∙ has),
        here_first counts file n ms rises,
        behind_first counts file n ms rises,
        same,
        points_text_of o.points o.minimum n (points_at counts file n),
        more,
      ) refl

  annotated_lines : (n : ℕ) (ms : List ℕ) (source : List Line) → Rises n ms → AreFrom n ms → made n ms source ≡ told n source
  annotated_lines n ms [] rises are = refl
  annotated_lines n [] (l ∷ source) rises are = step_later n [] l source tt are (annotated_lines (n + 1) [] source tt (from_next n [] are))
  annotated_lines n (m ∷ ms) (l ∷ source) rises are =
      elim (eqb_tells m n) [
        | inl t ↦
            let is : m ≡ n = t.1 in
            let later : Rises (n + 1) ms = subst (λ (j : ℕ). Rises (j + 1) ms) is rises.1 in
            let here : AreFrom n (n ∷ ms) = subst (λ (j : ℕ). AreFrom n (j ∷ ms)) is are in
            subst (λ (j : ℕ). made n (j ∷ ms) (l ∷ source) ≡ told n (l ∷ source)) (sym is)
            (step_first n ms l source later here (annotated_lines (n + 1) ms source later (from_behind n ms here)))
        | inr t ↦
            let apart : m ≢ n = t.1 in
            let later : Rises (n + 1) (m ∷ ms) = (omega (arith, apart, rises.0), rises.1) in
            step_later n (m ∷ ms) l source later are (annotated_lines (n + 1) (m ∷ ms) source later (from_next n (m ∷ ms) are))
      ]

  pub annotated_of_table : (source : List ℕ) (t : Table) → t ≡ table_of counts file
      → 9 ∷ codes "// vcov annotation" ++ 10 ∷ annotated_from o.minimum o.points 1 t.lines t.points (lines_of source) ≡ annotated_text o counts file source
  annotated_of_table source t is =
      rw is (ap (λ (body : List ℕ). 9 ∷ codes "// vcov annotation" ++ 10 ∷ body)
      (annotated_lines 1 (lines_in counts file) (lines_of source) (lines_rise counts file) (λ m above. refl)))

-- ---- short sources

-- whether one of some lines is past a number of lines
abbrev pub any_past : ℕ → List CountedLine → Bool
any_past most ls = list_any (λ (l : CountedLine). nat_lt most l.line) ls

any_counted : (counts : Counts) (file : List ℕ) (most : ℕ) (ms : List ℕ) → any_past most (map (counted counts file) ms) ≡ list_any (λ m. nat_lt most m) ms
any_counted counts file most [] = refl
any_counted counts file most (m ∷ ms) = ap (λ (b : Bool). nat_lt most m || b) (any_counted counts file most ms)

pub short_of_table : (counts : Counts) (file source : List ℕ) (t : Table) → t ≡ table_of counts file
    → cond (any_past (length (lines_of source)) t.lines) (Some (length (lines_of source))) None ≡ short_source counts file source
short_of_table counts file source t is = rw (is, any_counted counts file (length (lines_of source)) (lines_in counts file)) refl
