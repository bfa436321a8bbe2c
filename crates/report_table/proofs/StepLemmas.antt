-- One point more in the groups of files and of lines.
use Rattle.std.proofs.Common.{◌≡◌, ◌==◌, ℕ, suc, ◌<◌, Bool, true, false, cond, List, length, drop, get_or, Option, None, Some, sym, ap, ◌∙◌, drop-cons}
use Rattle.std.specs.Borrow.{Bor}
use Rattle.std.specs.List.{filter_map, cons_option}
use Rattle.std.specs.Option.{option_map_or}
use Rattle.std.specs.Ordering.{nat_cmp, is_eq}
use Rattle.std.specs.Str.{bytes_eq}
use Rattle.std.specs.Cmp.Lexicographic.{slice_cmp}
use Rattle.std.specs.FinMap.{put}
use Rattle.std.proofs.lemmas.Bool.Decides.{Decides-eqb}
use Rattle.std.proofs.lemmas.Cmp.{nat_list_eq_equiv}
use Rattle.std.proofs.lemmas.Map.Text.{is_eq-slice_cmp}
use Rattle.std.proofs.lemmas.Slice.Eq.{bytes_eq-Decides}
use Rattle.report_text.specs.Items.{file_of, line_of, placed}
use Rattle.report_table.specs.declared.data_point.DataPoint.{DataPoint}
use Rattle.report_table.specs.Seen.{by_bytes, seen_points}
use Rattle.report_table.specs.Groups.{of_file, at_line}
use Rattle.report_table.specs.Chains.{first_at}
use Rattle.report_table.proofs.ChainLemmas.{first_step}
use Rattle.report_table.proofs.CountLemmas.{same_line, swapped_line}

module _ (up : List DataPoint) (k : ℕ) (d : DataPoint) (within : k < length up) where
  -- ---- lines

  pub line_passed : None ≡ line_of ((get_or up k d).key.now, 0) → (q : ℕ) → first_at (at_line q) up (suc k) ≡ first_at (at_line q) up k
  line_passed none q = sym (first_step (at_line q) up k d within
      ∙ ap (λ (o : Option ℕ). cond (option_map_or (λ m. m == q) o false) (Some k) (first_at (at_line q) up (suc k))) (sym none))

  pub line_fails : None ≡ line_of ((get_or up k d).key.now, 0) → (q : ℕ) → at_line q (get_or up k d) ≡ false
  line_fails none q = ap (λ (o : Option ℕ). option_map_or (λ m. m == q) o false) (sym none)

  pub line_firsts : (line : ℕ) (G H : ℕ → Option ℕ) → Some line ≡ line_of ((get_or up k d).key.now, 0) → ((q : ℕ) → G q ≡ first_at (at_line q) up (suc k))
      → ((q : ℕ) → H q ≡ cond (is_eq (nat_cmp line q)) (Some k) (G q)) → (q : ℕ) → H q ≡ first_at (at_line q) up k
  line_firsts line G H is g h q =
      h q ∙ ap (λ (b : Bool). cond b (Some k) (G q)) (same_line line q ∙ swapped_line q line) ∙ ap (λ (o : Option ℕ). cond (line == q) (Some k) o) (g q)
      ∙ sym (first_step (at_line q) up k d within
      ∙ ap (λ (o : Option ℕ). cond (option_map_or (λ m. m == q) o false) (Some k) (first_at (at_line q) up (suc k))) (sym is))

  pub line_here : (line q : ℕ) (w : Option ℕ) → Some line ≡ line_of ((get_or up k d).key.now, 0) → w ≡ first_at (at_line line) up (suc k)
      → at_line q (get_or up k d) ≡ true → w ≡ first_at (at_line q) up (suc k)
  line_here line q w is e t =
      let test : (line == q) ≡ true = sym (ap (λ (o : Option ℕ). option_map_or (λ m. m == q) o false) (sym is)) ∙ t in
      e ∙ ap (λ (n : ℕ). first_at (at_line n) up (suc k)) ((Decides-eqb line q).0 test)

  -- ---- files

  pub file_passed : None ≡ file_of ((get_or up k d).key.now, 0) → (q : List ℕ) → first_at (of_file q) up (suc k) ≡ first_at (of_file q) up k
  file_passed none q = sym (first_step (of_file q) up k d within
      ∙ ap (λ (o : Option (List ℕ)). cond (option_map_or (bytes_eq q) o false) (Some k) (first_at (of_file q) up (suc k))) (sym none))

  pub file_fails : None ≡ file_of ((get_or up k d).key.now, 0) → (q : List ℕ) → of_file q (get_or up k d) ≡ false
  file_fails none q = ap (λ (o : Option (List ℕ)). option_map_or (bytes_eq q) o false) (sym none)

  pub file_firsts : (file : Bor (List ℕ)) (G H : Bor (List ℕ) → Option ℕ) → Some file.now ≡ file_of ((get_or up k d).key.now, 0)
      → ((q : Bor (List ℕ)) → G q ≡ first_at (of_file q.now) up (suc k))
      → ((q : Bor (List ℕ)) → H q ≡ cond (is_eq (by_bytes file q)) (Some k) (G q)) → (q : Bor (List ℕ)) → H q ≡ first_at (of_file q.now) up k
  file_firsts file G H is g h q =
      h q ∙ ap (λ (b : Bool). cond b (Some k) (G q)) (is_eq-slice_cmp file.now q.now ∙ nat_list_eq_equiv.symm file.now q.now)
      ∙ ap (λ (o : Option ℕ). cond (bytes_eq q.now file.now) (Some k) o) (g q)
      ∙ sym (first_step (of_file q.now) up k d within
      ∙ ap (λ (o : Option (List ℕ)). cond (option_map_or (bytes_eq q.now) o false) (Some k) (first_at (of_file q.now) up (suc k))) (sym is))

  pub file_here : (file q : List ℕ) (w : Option ℕ) → Some file ≡ file_of ((get_or up k d).key.now, 0) → w ≡ first_at (of_file file) up (suc k)
      → of_file q (get_or up k d) ≡ true → w ≡ first_at (of_file q) up (suc k)
  file_here file q w is e t =
      let test : bytes_eq q file ≡ true = sym (ap (λ (o : Option (List ℕ)). option_map_or (bytes_eq q) o false) (sym is)) ∙ t in
      e ∙ ap (λ (n : List ℕ). first_at (of_file n) up (suc k)) (sym ((bytes_eq-Decides q file).0 test))

  files_here : (o : Option (List ℕ)) → o ≡ file_of ((get_or up k d).key.now, 0)
      → cons_option o (filter_map file_of (seen_points (drop (suc k) up))) ≡ filter_map file_of (seen_points (drop k up))
  files_here o is = ap (λ (x : Option (List ℕ)). cons_option x (filter_map file_of (seen_points (drop (suc k) up)))) (sym (sym is))
      ∙ ap (λ (xs : List DataPoint). filter_map file_of (seen_points xs)) (sym (drop-cons up k d within))

  pub names_passed : (es : List (List ℕ × Unit {0})) → None ≡ file_of ((get_or up k d).key.now, 0)
      → es ≡ placed (slice_cmp nat_cmp) (filter_map file_of (seen_points (drop (suc k) up)))
      → es ≡ placed (slice_cmp nat_cmp) (filter_map file_of (seen_points (drop k up)))
  names_passed es none e = e ∙ ap (placed (slice_cmp nat_cmp)) (files_here None none)

  pub names_here : (file : List ℕ) (es fs : List (List ℕ × Unit {0})) → Some file ≡ file_of ((get_or up k d).key.now, 0)
      → es ≡ placed (slice_cmp nat_cmp) (filter_map file_of (seen_points (drop (suc k) up))) → fs ≡ put (slice_cmp nat_cmp) file (tt {0}) es
      → fs ≡ placed (slice_cmp nat_cmp) (filter_map file_of (seen_points (drop k up)))
  names_here file es fs is e f = f ∙ ap (put (slice_cmp nat_cmp) file (tt {0})) e ∙ ap (placed (slice_cmp nat_cmp)) (files_here (Some file) is)
