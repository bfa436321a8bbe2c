-- Points grouped by a key.
use Rattle.std.proofs.Common.{◌≡◌, ◌≢◌, ◌==◌, ℕ, suc, ◌<◌, Bool, true, false, cond, List, [], ◌∷◌, length, map, filter, get_or, set, Option, None, Some, refl}
use Rattle.std.proofs.Common.{sym, ap, ◌∙◌, subst, arith, get_or-set_same, get_or-set_other}
use Rattle.std.proofs.Math.Logic.{⊎_elim}
use Rattle.std.proofs.lemmas.Bool.{cases_eq, true≢false}
use Rattle.std.specs.List.{flat_map}
use Rattle.cov_dat.specs.Merging.{Counts}
use Rattle.std.specs.Option.{option_map_or}
use Rattle.std.specs.Cmp.{IsTotalOrder}
use Rattle.std.specs.Cmp.Lexicographic.{nat_list_cmp_total}
use Rattle.report_text.specs.Items.{Point, is_of_file, line_of}
use Rattle.report_text.specs.Tables.{PlacedPoint, Table, placed_at, table_of}
use Rattle.report_text.specs.declared.file_table.CountedLine.{CountedLine}
use Rattle.report_table.specs.declared.data_point.DataPoint.{DataPoint}
use Rattle.report_table.specs.Seen.{by_bytes, seen_point, seen_points}
use Rattle.report_table.specs.Groups.{of_file, at_line}
use Rattle.report_table.proofs.ChainLemmas.{from_place, IsPlace, place_of_first, rest_of_first}
use Rattle.report_table.specs.FileTables.{counted_in_points, lines_of_points, lines_table, numbers_of, placed_in, table_of_points}
use Rattle.report_table.specs.Chains.{first_at, IsLinked, Rises}

module _ {A : Type 0} (p : A → Bool) where
  -- one place more from behind
  pub linked_step : (up : List A) (next : List (Option ℕ)) (k : ℕ) (w : Option ℕ) → length next ≡ length up → k < length up → IsLinked p up next (suc k)
      → (((d : A) → p (get_or up k d) ≡ true) → w ≡ first_at p up (suc k)) → IsLinked p up (set next k w) k
  linked_step up next k w len within linked here = record {
    next_is = λ j from to passes. ⊎_elim
        (λ (e : j ≡ k). ap (λ (i : ℕ). get_or (set next k w) i None) e ∙ get_or-set_same next k w None (omega (arith, len))
        ∙ here (λ d. ap (λ (i : ℕ). p (get_or up i d)) (sym e) ∙ passes d) ∙ ap (λ (i : ℕ). first_at p up (suc i)) (sym e))
        (λ (ne : j ≢ k). get_or-set_other next k j w None ne ∙ linked.next_is j (omega (arith, ne)) to passes)
        (cases_eq j k);
  }

  -- where the place doesn't pass, nothing is written
  pub linked_past : (up : List A) (next : List (Option ℕ)) (k : ℕ) (x : A) → k < length up → IsLinked p up next (suc k) → p (get_or up k x) ≡ false
      → IsLinked p up next k
  linked_past up next k x within linked fails = record {
    next_is = λ j from to passes. ⊎_elim
        (λ (e : j ≡ k). absurd (true≢false (sym (passes x) ∙ ap (λ (i : ℕ). p (get_or up i x)) e ∙ fails)))
        (λ (ne : j ≢ k). linked.next_is j (omega (arith, ne)) to passes)
        (cases_eq j k);
  }

-- places that rise, with one more
pub rises_step : (next : List (Option ℕ)) (n k : ℕ) (w : Option ℕ) → Rises next n → k < length next → ((j : ℕ) → w ≡ Some j → (k < j) × (j < n))
    → Rises (set next k w) n
rises_step next n k w rises within here i j e = ⊎_elim
    (λ (same : i ≡ k). subst (λ (x : ℕ). (x < j) × (j < n)) (sym same) (here j (sym (get_or-set_same next k w None within)
    ∙ ap (λ (x : ℕ). get_or (set next k w) x None) (sym same) ∙ e)))
    (λ (ne : i ≢ k). rises i j (sym (get_or-set_other next k i w None ne) ∙ e))
    (cases_eq i k)

numbers_counted : (ps : Counts) (ns : List ℕ) → numbers_of (map (counted_in_points ps) ns) ≡ ns
numbers_counted ps [] = refl
numbers_counted ps (n ∷ ns) = ap (λ (ms : List ℕ). n ∷ ms) (numbers_counted ps ns)

-- a table with the lines and the points of these points
pub same_table : (name : List ℕ) (ps : Counts) (ls : List CountedLine) (qs : List PlacedPoint) → ls ≡ lines_table ps
    → qs ≡ flat_map (placed_in ps) (numbers_of ls)
    → ◌≡◌ {A = Table} (record { name = name; lines = ls; points = qs }) (table_of_points name ps)
same_table name ps ls qs l q =
    ap (λ (xs : List PlacedPoint). record { name = name; lines = ls; points = xs }) (q
    ∙ ap (λ (xs : List CountedLine). flat_map (placed_in ps) (numbers_of xs)) l ∙ ap (flat_map (placed_in ps)) (numbers_counted ps (lines_of_points ps)))
    ∙ ap (λ (xs : List CountedLine). record { name = name; lines = xs; points = flat_map (placed_in ps) (lines_of_points ps) }) l

-- a test of what is seen
pub filter-seen : (test : Point → Bool) (ps : List DataPoint) → filter test (seen_points ps) ≡ seen_points (filter (λ p. test (seen_point p)) ps)
filter-seen test [] = refl
filter-seen test (p ∷ ps) =
    elim (test (seen_point p)) as (λ b. cond b (seen_point p ∷ filter test (seen_points ps)) (filter test (seen_points ps))
    ≡ seen_points (cond b (p ∷ filter (λ q. test (seen_point q)) ps) (filter (λ q. test (seen_point q)) ps))) [
      | true ↦ ap (λ (qs : Counts). seen_point p ∷ qs) (filter-seen test ps)
      | false ↦ filter-seen test ps
    ]

-- the points of a line, from the group of the line
pub placed_in_group : (ps : List DataPoint) (n : ℕ) (group : List DataPoint) → group ≡ filter (at_line n) ps
    → map (placed_at n) (seen_points group) ≡ placed_in (seen_points ps) n
placed_in_group ps n group e =
    ap (λ (g : List DataPoint). map (placed_at n) (seen_points g)) e
    ∙ ap (map (placed_at n)) (sym (filter-seen (λ (p : Point). option_map_or (λ m. m == n) (line_of p) false) ps))

-- a line without a first point has none
pub placed_in_none : (ps : List DataPoint) (n : ℕ) → first_at (at_line n) ps 0 ≡ None → placed_in (seen_points ps) n ≡ []
placed_in_none ps n none = sym (placed_in_group ps n [] (sym (rest_of_first (at_line n) ps 0 ∙ ap (from_place (at_line n) ps) none)))

-- the table of a file, from its group
pub table_of_group : (ps : List DataPoint) (name : List ℕ) (group : List DataPoint) → group ≡ filter (of_file name) ps
    → table_of_points name (seen_points group) ≡ table_of (seen_points ps) name
table_of_group ps name group e = ap (table_of_points name) (ap seen_points e ∙ sym (filter-seen (is_of_file name) ps))

-- the first point of a group stands within
pub first_within : {A : Type 0} (p : A → Bool) (up : List A) (first : ℕ) → first_at p up 0 ≡ Some first → first < length up
first_within p up first e = (subst (IsPlace p up) e (place_of_first p up 0)).0

-- the order of borrowed keys
pub by_bytes_total : IsTotalOrder by_bytes
by_bytes_total = record {
  antisymm = λ x y. nat_list_cmp_total.antisymm x.now y.now;
  trans = λ x y z. nat_list_cmp_total.trans x.now y.now z.now;
  congr = λ x y z. nat_list_cmp_total.congr x.now y.now z.now;
}
