-- A counted run of a built design is that of the source's one run: the proof.
use Rattle.std.proofs.Common.{◌≡◌, ◌∙◌, sym, ap, ap₂, subst, refl, ℕ, ◌-◌, ◌<◌, ◌≤◌, ◌^◌, List, [], ◌∷◌, map, length, slice_index}
use Rattle.std.proofs.Common.{All, Contains, ◌+◌, Bool, true, false, true≢false}
use Rattle.std.proofs.lemmas.List.Elements.{All-head, All-tail, All-contains, Contains-append_left, Contains-append_right, Contains-push}
use Rattle.std.proofs.lemmas.List.Recursion.{is_sum_by}
use Rattle.cov_points.specs.declared.point.Point.{Point}
use Rattle.cov_points.specs.KeyText.{key_text}
use Rattle.cov_dat.specs.DataText.{count_map, data_text}
use Rattle.circuit_run.specs.Lists.{total}
use Rattle.circuit_run.specs.Counting.{at_bits}
use Rattle.circuit_run.specs.Runs.{Run, printed}
use Rattle.circuit_run.specs.Ends.{End, run_end}
use Rattle.design_tree.specs.declared.instrumented.PointRow.{PointRow}
use Rattle.design_tree.specs.declared.instrumented.Instrumented.{Instrumented}
use Rattle.design_meaning.specs.SettledLaws.{IsRow}
use Rattle.design_meaning.specs.Runs.{IsRun, counter_count, row_count, total_of, point_count, point_counts}
use Rattle.point_meaning.specs.Points.{identity_in}
use Rattle.point_meaning.specs.Occurrences.{counted_of, occurrences}
use Rattle.point_meaning.specs.RunData.{counts_of}
use Rattle.build_meaning.specs.Given.{Given}
use Rattle.build_meaning.specs.Built.{IsBuilt, RunsAsSource}
use Rattle.build_meaning.specs.SimLaw.{AreOfSource, BuiltRunsAsSource}

-- ---- lists

here : {X : Type 0} (x : X) (xs : List X) → Contains (x ∷ xs) x
here x xs = Contains-append_left (x ∷ []) xs x (Contains-push [] x)

later : {X : Type 0} (x : X) (xs : List X) {y : X} → Contains xs y → Contains (x ∷ xs) y
later x xs {y} there = Contains-append_right (x ∷ []) xs y there

abbrev is_empty : List (List ℕ) → Bool
is_empty [] = true
is_empty (key ∷ keys) = false

abbrev first_of : List (List ℕ) → List ℕ
first_of [] = []
first_of (key ∷ keys) = key

abbrev others_of : List (List ℕ) → List (List ℕ)
others_of [] = []
others_of (key ∷ keys) = keys

-- ---- from counters to points

module _ (x : Instrumented) (run : Run ℕ) (counts : List ℕ)
    (counted : (k : ℕ) → k < x.counters → slice_index counts k ≡ counter_count x run k) where
  -- what some counters come to
  totals : (cs : List ℕ) → All (λ c. c < x.counters) cs → total (map (slice_index counts) cs) ≡ total (map (counter_count x run) cs)
  totals [] below = refl
  totals (c ∷ cs) below =
      ap₂ (λ a b. a + b) (counted c (All-head (λ n. n < x.counters) c cs below)) (totals cs (All-tail (λ n. n < x.counters) c cs below))

  summed : (cs : List ℕ) → All (λ c. c < x.counters) cs → total_of counts cs ≡ total (map (counter_count x run) cs)
  summed cs below = sym (is_sum_by (λ ns. total (map (slice_index counts) ns)) (slice_index counts) refl (λ n ns. refl) cs) ∙ totals cs below

  -- what a row comes to
  row_is : (row : PointRow) → All (λ c. c < x.counters) row.plus → All (λ c. c < x.counters) row.minus
      → point_count counts row ≡ row_count x run row
  row_is row plus minus = ap₂ (λ a b. a - b) (summed row.plus plus) (summed row.minus minus)

-- the keys with their counts are those of the points, where the keys are and each count is
module _ (names : List (List ℕ)) (width : ℕ) (of_row : PointRow → ℕ) (of_point : Point → ℕ) where
  abbrev row_entry : PointRow → List ℕ × ℕ
  row_entry row = (row.key, at_bits width (of_row row))

  abbrev point_entry : Point → List ℕ × ℕ
  point_entry p = (key_text names p, at_bits width (of_point p))

  entries_are : (rows : List PointRow) (points : List Point) → map (λ row. row.key) rows ≡ map (key_text names) points
      → ((p : Point) (row : PointRow) → Contains points p → Contains rows row → row.key ≡ key_text names p → of_row row ≡ of_point p)
      → map row_entry rows ≡ map point_entry points
  entries_are [] [] keys same = refl
  entries_are [] (p ∷ points) keys same = absurd (true≢false (ap is_empty keys))
  entries_are (row ∷ rows) [] keys same = absurd (true≢false (sym (ap is_empty keys)))
  entries_are (row ∷ rows) (p ∷ points) keys same =
      ap₂ (λ e es. e ∷ es)
      (ap₂ (λ key count. (key, at_bits width count)) (ap first_of keys) (same p row (here p points) (here row rows) (ap first_of keys)))
      (entries_are rows points (ap others_of keys) (λ q other there found. same q other (later p points there) (later row rows found)))

-- ---- the whole

of_design : (given : Given) (bytes : List ℕ) (rows : List (List ℕ)) (width : ℕ) (text : List ℕ) (end : End) (counts : List ℕ)
    (b : IsBuilt given bytes) → All (IsRow b.design.design) rows → length rows ≤ 2 ^ 32 → IsRun b.design rows text end counts
    → AreOfSource given rows width text end (data_text (count_map (point_counts b.design width counts)))
of_design given bytes rows width text end counts b are_rows short run =
    let s : RunsAsSource given b.points b.design rows = b.runs rows are_rows short in
    let same : run.run ≡ s.counting = s.alone.1 run.run run.is_run in
    let entries : point_counts b.design width counts ≡ counts_of given.source given.options given.names b.points width (counted_of s.of_source) =
    entries_are given.names width (point_count counts) (λ p. occurrences given.source given.options (identity_in p) (counted_of s.of_source))
    b.design.points b.points b.keys
    (λ p row there found key.
    row_is b.design run.run counts run.counted row
    (All-contains (λ point. All (λ c. c < b.design.counters) point.plus) b.design.points row b.spelled.valid.points.plus found)
    (All-contains (λ point. All (λ c. c < b.design.counters) point.minus) b.design.points row b.spelled.valid.points.minus found)
    ∙ ap (λ r. row_count b.design r row) same
    ∙ s.counted p row there found key) in
    record {
      run = s.of_source;
      only = s.only;
      printed_run = run.prints ∙ ap (printed b.design.design.outputs) same ∙ s.prints;
      ends = run.ends ∙ ap run_end same ∙ s.ends;
      counted = (b.points, b.of_source, ap (λ counts. data_text (count_map counts)) entries);
    }

-- the law
pub built_runs_as_source : BuiltRunsAsSource
built_runs_as_source one given bytes x rows width text end counts b spelled are_rows short run =
    let e : b.design ≡ x = one b.design x bytes b.spelled spelled in
    subst (λ y. AreOfSource given rows width text end (data_text (count_map (point_counts y width counts)))) e
    (of_design given bytes rows width text end counts b (subst (λ y. All (IsRow y.design) rows) (sym e) are_rows) short
    (subst (λ y. IsRun y rows text end counts) (sym e) run))
