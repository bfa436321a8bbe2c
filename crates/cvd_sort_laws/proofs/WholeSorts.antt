-- Where marks of a whole design come next, either all are numbers, or none is.
use Rattle.std.proofs.Common.{◌≡◌, ℕ, Bool, true, false, List, [], ◌∷◌, ◌++◌, map, length, refl, sym, ◌∙◌, ap, subst}
use Rattle.std.specs.Prelude.{codes, flat_map, nat_le, nat_lt, ◌&&◌, ◌==◌}
use Rattle.std.specs.List.{list_all, slice_split, AllByRecursion}
use Rattle.std.proofs.lemmas.Bool.{true≢false}
use Rattle.std.proofs.lemmas.List.{append-nil}
use Rattle.cov_types.specs.Limits.{most}
use Rattle.cov_types.specs.declared.limit.LimitName.TheVariants as limit
use Rattle.cov_types.specs.declared.var.Var.{Var}
use Rattle.cov_port.specs.KeyTest.{is_key_text}
use Rattle.design_tree.specs.declared.design.Design.{Design}
use Rattle.design_tree.specs.declared.design.Process.{Process}
use Rattle.design_tree.specs.declared.instrumented.Instrumented.{Instrumented}
use Rattle.design_tree.specs.declared.instrumented.PointRow.{PointRow}
use Rattle.design_tree.specs.declared.instrumented.ToggleEntry.{ToggleEntry}
use Rattle.design_meaning.specs.Valid.{toggle_place}
use Rattle.cvd_text.specs.Tokens.{Token, word, counters, is_numeric}
use Rattle.cvd_text.specs.Lines.{Load, Line, line, stands, no_load}
use Rattle.cvd_text.specs.Pieces.{Piece, a_word, feed, Mark, token, line_end, fits, marks_of, design_marks}
use Rattle.cvd_text.specs.Sections.{heading, var_lines, input_lines, output_lines, toggle_lines, has_bit, is_below, are_below, point_lines, process_lines}
use Rattle.cvd_text.specs.Sections.{processes_lines}
use Rattle.cvd_text.specs.Spelling.{first_line, last_line}
use Rattle.cvd_cursor.specs.Reads.{marks, line_marks}
use Rattle.spelling_laws.specs.Spelled.{Apart}
use Rattle.spelling_laws.specs.Lists.{headed_marks}
use Rattle.spelling_laws.proofs.ListSorts.{sorted_via, headed_sorted}
use Rattle.spelling_laws.proofs.Sorts.{sorts_one}
use Rattle.cvd_laws.specs.Expressions.{is_token}
use Rattle.cvd_laws.proofs.Marks.{apart_marks}
use Rattle.cvd_step_laws.specs.LineMarks.{load_behind, with_vars, each_lines, each_load}
use Rattle.cvd_step_laws.specs.StepMarks.{this_word}
use Rattle.cvd_step_laws.proofs.LineMarks.{marks_plain, each_joined}
use Rattle.cvd_section_laws.proofs.Rows.{Seen, row, heading_tokens, apart_row, head_marks, apart_head_marks}
use Rattle.cvd_section_laws.proofs.Sections.{point_tokens, apart_point, toggle_tokens, apart_toggle, with_inputs, with_outputs, with_processes, apart_process}
use Rattle.cvd_section_laws.proofs.Sections.{apart_vars, apart_inputs, apart_outputs, apart_processes, apart_toggles, apart_points}
use Rattle.cvd_section_laws.proofs.Whole.{Last, Points, Toggles, Processes, Outputs, Inputs, Variables, Counters, Whole, last_marks, points_on, toggles_on}
use Rattle.cvd_section_laws.proofs.Whole.{processes_on, outputs_on, inputs_on, variables_on, counters_on, counters_stand, first_marks, whole_marks}
use Rattle.cvd_section_laws.proofs.Whole.{parts_of_design, design_alike, section_then}
use Rattle.cvd_sort_laws.proofs.DesignSorts.{vars_sorted, inputs_sorted, outputs_sorted, sorted_toggle, process_sorted}
use Rattle.cvd_sort_laws.proofs.SectionSorts.{row_sorted, head_sorted, section_sorted}
use Rattle.cvd_sort_laws.proofs.StepSorts.{then_sorts, word_then}
use Rattle.cvd_sort_laws.proofs.TokenSorts.{MarkSort, numbers, has_sort, is_numeric_mark, MarksSorted, sorted_end}

-- ---- points: no mark of theirs is a number

abbrev Plain : List Mark → Type 0
Plain ms = AllByRecursion (λ m. is_numeric_mark m ≡ false) ms

plain_member : (front more : List Mark) (m : Mark) → Plain (front ++ m ∷ more) → is_numeric_mark m ≡ false
plain_member [] more m h = h.0
plain_member (x ∷ front) more m h = plain_member front more m h.1

plain_sorted : {A : Type 0} (s : A → List Mark) (top : ℕ) → ((a : A) → Plain (s a)) → MarksSorted numbers top s
plain_sorted s top h gs m n few v w =
    plain_member v.first v.more m (subst Plain v.split (h v.value)) ∙ sym (plain_member w.first w.more n (subst Plain w.split (h w.value)))

plain_words : (ws : List (List ℕ)) (stand : Bool) → Plain (map token (map word ws) ++ line_end stand ∷ [])
plain_words [] stand = (refl, tt)
plain_words (w ∷ ws) stand = (refl, plain_words ws stand)

pub points_sorted : (top : ℕ) (load : Load) (n : ℕ) → MarksSorted numbers top (λ points. marks_of load (point_lines n points))
points_sorted top load n =
    section_sorted numbers load (codes "points") (λ k. nat_le k (most limit.Points)) point_tokens is_point top (λ s. apart_point flag s)
    (λ s. plain_sorted (row point_tokens flag s) top (λ r. (refl, (refl, plain_words (slice_split (λ byte. byte == 32) r.key) (flag s r)))))
  where
    is_point : ℕ → List PointRow → PointRow → Bool
    is_point k before r =
        are_below n r.plus && are_below n r.minus && is_key_text r.key && nat_le (length r.key) (most limit.KeyBytes)
        && list_all (λ (q : PointRow). is_below q.key r.key) before

    flag : Seen PointRow → PointRow → Bool
    flag s r = stands load (line (point_tokens r) (is_point s.0 s.1 r))

module _ (of : MarkSort) (top : ℕ) where
  pub toggles_sorted : (load : Load) (vars : List Var) (n : ℕ) → MarksSorted of top (λ toggles. marks_of load (toggle_lines (with_vars vars) n toggles))
  toggles_sorted load vars n =
      section_sorted of load (codes "toggles") (λ k. true) toggle_tokens is_toggle top (λ s. apart_row toggle_tokens flag apart_toggle s)
      (λ s. row_sorted of toggle_tokens flag top apart_toggle (sorted_toggle of top) s)
    where
      is_toggle : ℕ → List ToggleEntry → ToggleEntry → Bool
      is_toggle k before t = has_bit (with_vars vars) t && nat_lt t.counter n && list_all (λ u. is_below (toggle_place u) (toggle_place t)) before

      flag : Seen ToggleEntry → ToggleEntry → Bool
      flag s t = stands load (line (toggle_tokens t) (is_toggle s.0 s.1 t))

  abbrev processes_flag : Load → ℕ → Bool
  processes_flag load k = stands load (heading (codes "processes") k (nat_le k (most limit.Processes)))

  pub processes_sorted : (load : Load) (vars : List Var) (n : ℕ)
      → MarksSorted of top (λ processes. marks_of load (processes_lines (with_processes vars processes) n))
  processes_sorted load vars n =
      sorted_via fits (has_sort of) (List Process) (List Process) (λ l. l)
      (headed_marks (each_lines (process_lines (with_vars vars) n)) (each_load (process_lines (with_vars vars) n))
      (head_marks (codes "processes") (processes_flag load))
      (λ k. load)) (λ processes. marks_of load (processes_lines (with_processes vars processes) n)) alike top
      (headed_sorted fits (has_sort of) Process Load (each_lines (process_lines (with_vars vars) n)) (each_load (process_lines (with_vars vars) n))
      (apart_process (with_vars vars) n) top (process_sorted of top (with_vars vars) n) (head_marks (codes "processes") (processes_flag load)) (λ k. load)
      (apart_head_marks (codes "processes") (processes_flag load)) (head_sorted of top (codes "processes") (processes_flag load)))
    where
      alike : (ps : List Process) → marks_of load (processes_lines (with_processes vars ps) n)
          ≡ headed_marks (each_lines (process_lines (with_vars vars) n)) (each_load (process_lines (with_vars vars) n))
          (head_marks (codes "processes") (processes_flag load)) (λ k. load) ps
      alike ps =
          marks_plain load (heading_tokens (codes "processes") (length ps)) (nat_le (length ps) (most limit.Processes))
          (flat_map (process_lines (with_vars vars) n) ps)
          ∙ ap (λ z. map token (heading_tokens (codes "processes") (length ps)) ++ line_end (processes_flag load (length ps)) ∷ z)
          (each_joined (process_lines (with_vars vars) n) load ps)

  pub last_sorted : (load : Load) → MarksSorted of top (last_marks load)
  last_sorted load =
      sorted_via fits (has_sort of) ((u : Unit {0}) × Unit {0}) (Unit {0}) (λ u. (tt, tt))
      (λ p. marks (this_word (codes "end")) p.0 ++ line_marks (stands load last_line) p.1) (last_marks load) (λ u. refl) top
      (word_then of top (codes "end") (Unit {0}) (line_marks (stands load last_line)) (sorted_end of top _))

  pub first_sorted : MarksSorted of top first_marks
  first_sorted =
      sorted_via fits (has_sort of) ((u : Unit {0}) × ((v : Unit {0}) × Unit {0})) (Unit {0}) (λ u. (tt, (tt, tt)))
      (λ p. marks (this_word (codes "CVD")) p.0 ++ (marks (this_word (codes "1")) p.1.0
      ++ line_marks (stands no_load first_line) p.1.1)) first_marks (λ u. refl) top
      (word_then of top (codes "CVD") _ _ (word_then of top (codes "1") (Unit {0}) (line_marks (stands no_load first_line)) (sorted_end of top _)))

  pub section_then_sorted : {A B : Type 0} (lines : A → List Line) (more : A → Load → B → List Mark) (load : Load) → Apart fits (λ a. marks_of load (lines a))
      → MarksSorted of top (λ a. marks_of load (lines a)) → ((a : A) (load : Load) → MarksSorted of top (more a load))
      → MarksSorted of top (section_then lines more load)
  section_then_sorted {A} {B} lines more load apart first second =
      then_sorts of A (λ a. B) (λ a. marks_of load (lines a)) (λ a. more a (load_behind load (lines a))) top apart first
      (λ a. second a (load_behind load (lines a)))

-- ---- the whole

module _ (top : ℕ) where
  pub design_sorted : MarksSorted numbers top design_marks
  design_sorted =
      sorted_via fits is_numeric_mark Whole Instrumented parts_of_design whole_marks design_marks design_alike top
      (then_sorts numbers (Unit {0}) (λ u. Counters) first_marks (λ u. counters_on) top (λ u v h. refl) (first_sorted numbers top)
      (λ u. then_sorts numbers ℕ (λ n. Variables) (head_marks (codes "counters") counters_stand) (λ n. variables_on n no_load) top
      (apart_head_marks (codes "counters") counters_stand) (head_sorted numbers top (codes "counters") counters_stand)
      (λ n. section_then_sorted numbers top var_lines (λ vars. inputs_on vars n) no_load (apart_vars no_load) (vars_sorted numbers top no_load)
      (λ vars l1. section_then_sorted numbers top (λ i. input_lines (with_inputs vars i)) (λ i. outputs_on vars n) l1 (apart_inputs l1 vars)
      (inputs_sorted numbers top l1 vars)
      (λ i l2. section_then_sorted numbers top (λ o. output_lines (with_outputs vars o)) (λ o. processes_on vars n) l2 (apart_outputs l2 vars)
      (outputs_sorted numbers top l2 vars)
      (λ o l3. section_then_sorted numbers top (λ p. processes_lines (with_processes vars p) n) (λ p. toggles_on vars n) l3 (apart_processes l3 vars n)
      (processes_sorted numbers top l3 vars n)
      (λ p l4. section_then_sorted numbers top (toggle_lines (with_vars vars) n) (λ t. points_on n) l4 (apart_toggles l4 vars n)
      (toggles_sorted numbers top l4 vars n)
      (λ t l5. section_then_sorted numbers top (point_lines n) (λ q. last_marks) l5 (apart_points l5 n) (points_sorted top l5 n)
      (λ q l6. last_sorted numbers top l6)))))))))
