-- The first badly placed point, and the lines counted so far.
use Rattle.std.proofs.Common.{◌≡◌, ℕ, ◌+◌, ◌<◌, Bool, true, false, cond, ◌&&◌, List, ◌∷◌, length, drop, get_or, Option, None, Some, option_map, is_some, refl}
use Rattle.std.proofs.Common.{sym, ap, ◌∙◌, arith, if◌then◌else◌}
use Rattle.std.specs.Prelude.{option_and_then}
use Rattle.std.specs.List.{find}
use Rattle.std.proofs.lemmas.Bool.{false≢true}
use Rattle.cov_dat.specs.Merging.{Counts}
use Rattle.report_text.specs.Items.{Point, file_of, is_badly_placed, entries_of, line_entries}
use Rattle.report_text.specs.Faults.{or_then, limit_fault, table_fault}
use Rattle.report_text.specs.declared.report_fault.ReportFault.{ReportFault}
use Rattle.report_text.specs.declared.report_fault.ReportFault.TheVariants as fault
use Rattle.report_table.specs.declared.data_point.DataPoint.{DataPoint}
use Rattle.report_table.specs.Placing.{bad_line_of, capped, entries_if_placed}
use Rattle.report_table.specs.Seen.{seen_point, seen_points}
use Rattle.report_table.proofs.CountLemmas.{drop_here}

none_if : (b : Bool) (x : ℕ) (o : Option ℕ) → o ≡ None → o ≡ (if b then None else Some x) → b ≡ true
none_if true x o n e = refl
none_if false x o n e = absurd (cc)

some_if : (b : Bool) (x m : ℕ) → Some m ≡ (if b then None else Some x) → (b ≡ false) × (m ≡ x)
some_if true x m e = absurd (cc)
some_if false x m e = (refl, cc)

and_first : (a b : Bool) → (a && b) ≡ true → a ≡ true
and_first true b e = refl
and_first false b e = absurd (false≢true e)

told : (o : Option (List ℕ)) (later : Option ReportFault) → is_some o ≡ true → or_then (option_map fault.BadKeyLine o) later ≡ option_map fault.BadKeyLine o
told None later e = absurd (false≢true e)
told (Some file) later e = refl

bad_first : (ps : Counts) (p : Point) → find is_badly_placed ps ≡ Some p → is_badly_placed p ≡ true → table_fault ps ≡ option_map fault.BadKeyLine (file_of p)
bad_first ps p e bad =
    ap (λ (o : Option Point). or_then (option_map fault.BadKeyLine (option_and_then file_of o)) (limit_fault ps)) e
    ∙ told (file_of p) (limit_fault ps) (and_first (is_some (file_of p)) _ bad)

caps : (e m r : ℕ) → capped (capped (e + capped m) + r) ≡ capped (e + (m + r))
caps e m r = omega arith

module _ (up : List DataPoint) (k : ℕ) (d : DataPoint) (within : k < length up) where
  seen_here : seen_points (drop k up) ≡ seen_point (get_or up k d) ∷ seen_points (drop (k + 1) up)
  seen_here = ap seen_points (drop_here up k d within)

  -- a key that is badly placed where none before it is
  pub bad_here : (o : Option ℕ) → find is_badly_placed (seen_points (drop k up)) ≡ find is_badly_placed (seen_points up) → o ≡ None
      → o ≡ entries_if_placed (get_or up k d).key.now
      → table_fault (seen_points up) ≡ bad_line_of (get_or up k d).key.now
  bad_here o so_far none is =
      let bad : is_badly_placed (seen_point (get_or up k d))
      ≡ true = none_if (is_badly_placed (seen_point (get_or up k d))) (capped (entries_of (seen_point (get_or up k d)))) o none is in
      bad_first (seen_points up) (seen_point (get_or up k d))
      (sym so_far ∙ ap (find is_badly_placed) seen_here
      ∙ ap (λ (b : Bool). cond b (Some (seen_point (get_or up k d))) (find is_badly_placed (seen_points (drop (k + 1) up)))) bad) bad

  -- a key that isn't
  pub placed_here : (more : ℕ) → find is_badly_placed (seen_points (drop k up)) ≡ find is_badly_placed (seen_points up)
      → Some more ≡ entries_if_placed (get_or up k d).key.now
      → find is_badly_placed (seen_points (drop (k + 1) up)) ≡ find is_badly_placed (seen_points up)
  placed_here more so_far is =
      let good = (some_if (is_badly_placed (seen_point (get_or up k d))) (capped (entries_of (seen_point (get_or up k d)))) more is).0 in
      sym (ap (λ (b : Bool). cond b (Some (seen_point (get_or up k d))) (find is_badly_placed (seen_points (drop (k + 1) up)))) good)
      ∙ sym (ap (find is_badly_placed) seen_here) ∙ so_far

  -- its lines are counted
  pub sum_here : (more before after : ℕ) → capped (before + line_entries (seen_points (drop k up))) ≡ capped (line_entries (seen_points up))
      → Some more ≡ entries_if_placed (get_or up k d).key.now
      → after ≡ capped (before + more) → capped (after + line_entries (seen_points (drop (k + 1) up))) ≡ capped (line_entries (seen_points up))
  sum_here more before after so_far is sum =
      let rest = line_entries (seen_points (drop (k + 1) up)) in
      let here = entries_of (seen_point (get_or up k d)) in
      ap (λ (n : ℕ). capped (n + rest)) (sum
      ∙ ap (λ (n : ℕ). capped (before + n)) (some_if (is_badly_placed (seen_point (get_or up k d))) (capped here) more is).1)
      ∙ caps before here rest ∙ ap (λ (ps : Counts). capped (before + line_entries ps)) (sym seen_here) ∙ so_far
