-- Where marks of a design come next, either all are numbers, or none is.
use Rattle.std.proofs.Common.{◌≡◌, ℕ, Bool, true, false, List, [], ◌∷◌, ◌++◌, map, length, refl, sym, ◌∙◌, ap}
use Rattle.std.specs.Prelude.{codes, nat_le, nat_lt, ◌&&◌, ◌||◌, ◌==◌}
use Rattle.std.specs.List.{list_all}
use Rattle.cov_types.specs.Limits.{most}
use Rattle.cov_types.specs.declared.limit.LimitName.TheVariants as limit
use Rattle.cov_types.specs.declared.kind.ProcessKind.{ProcessKind}
use Rattle.cov_types.specs.declared.kind.VarKind.{VarKind}
use Rattle.cov_types.specs.declared.var.Var.{Var}
use Rattle.cov_port.specs.KeyTest.{is_key_text}
use Rattle.design_tree.specs.declared.design.Design.{Design}
use Rattle.design_tree.specs.declared.design.Input.{Input}
use Rattle.design_tree.specs.declared.design.Process.{Process}
use Rattle.design_tree.specs.declared.instrumented.Instrumented.{Instrumented}
use Rattle.design_tree.specs.declared.instrumented.PointRow.{PointRow}
use Rattle.design_tree.specs.declared.instrumented.ToggleEntry.{ToggleEntry}
use Rattle.cvd_text.specs.Tokens.{Token, word, number, hex, counters, is_numeric}
use Rattle.cvd_text.specs.Lines.{Load, Line, stands}
use Rattle.cvd_text.specs.Pieces.{Mark, token, line_end, fits, marks_of, design_marks}
use Rattle.cvd_text.specs.Sections.{kind_word, process_word}
use Rattle.cvd_cursor.specs.Numerals.{number_tokens, hex_tokens}
use Rattle.cvd_cursor.specs.Reads.{marks, line_marks}
use Rattle.spelling_laws.specs.Spelled.{Apart}
use Rattle.spelling_laws.specs.Lists.{headed_marks}
use Rattle.spelling_laws.proofs.ListSorts.{sorted_via, sorted_then, headed_sorted}
use Rattle.spelling_laws.proofs.Sorts.{sorts_one}
use Rattle.cvd_laws.specs.Expressions.{is_token}
use Rattle.cvd_laws.proofs.Marks.{apart_marks}
use Rattle.cvd_laws.proofs.Typeds as typeds
use Rattle.cvd_step_laws.specs.StepMarks.{this_word, block_marks}
use Rattle.cvd_step_laws.proofs.PartsApart.{apart_end}
use Rattle.cvd_section_laws.proofs.Rows.{row, heading_tokens, apart_heading, head_marks, apart_head_marks, Seen, seen_more, seen_none, things_lines}
use Rattle.cvd_section_laws.proofs.Rows.{thing_marks, heading_stands, things_alike}
use Rattle.cvd_section_laws.proofs.Sections.{kind_tokens, process_tokens, var_tokens, apart_input, input_tokens, toggle_tokens}
use Rattle.cvd_section_laws.proofs.Keys.{word_tokens}
use Rattle.cvd_sort_laws.proofs.TokenSorts.{MarkSort, has_sort, TokensSorted, MarksSorted, lifted, sorted_number, sorted_end}
use Rattle.cvd_sort_laws.proofs.StepSorts.{then_sorts}

module _ (of : MarkSort) where
  -- ---- lines that are told by their tokens

  pub tokens_then : (A B : Type 0) (sA : A → List Token) (sB : B → List Token) (most : ℕ) → Apart is_token sA → TokensSorted most sA → TokensSorted most sB
      → TokensSorted most (λ (p : (x : A) × B). sA p.0 ++ sB p.1)
  tokens_then A B sA sB most apart first second = sorted_then is_token is_numeric A (λ x. B) sA (λ x. sB) most apart first (λ a. second)

  module _ {A S : Type 0} (tokens : A → List Token) (flag : S → A → Bool) where
    pub row_sorted : (most : ℕ) → Apart is_token tokens → TokensSorted most tokens → (s : S) → MarksSorted of most (row tokens flag s)
    row_sorted most apart h s =
        sorted_via fits (has_sort of) ((y : A) × Unit {0}) A (λ y. (y, tt)) (λ p. marks tokens p.0
        ++ line_marks (flag s p.0) p.1) (row tokens flag s) (λ y. refl) most
        (then_sorts of A (λ y. Unit {0}) (marks tokens) (λ y. line_marks (flag s y)) most (λ y. apart_marks tokens y (apart y)) (lifted tokens of most h)
        (λ y. sorted_end of most (flag s y)))

  sorted_word : (most : ℕ) (text : List ℕ) → TokensSorted most (this_word text)
  sorted_word most text = sorts_one is_token is_numeric (Unit {0}) (λ u. word text) (λ v w. refl) most

  sorted_heading : (most : ℕ) (name : List ℕ) → TokensSorted most (heading_tokens name)
  sorted_heading most name =
      sorted_via is_token is_numeric ((u : Unit {0}) × ℕ) ℕ (λ k. (tt, k)) (λ p. this_word name p.0 ++ number_tokens p.1) (heading_tokens name)
      (λ k. refl) most
      (tokens_then (Unit {0}) ℕ (this_word name) number_tokens most (λ u v h. refl) (sorted_word most name) (sorted_number most))

  pub head_sorted : (most : ℕ) (name : List ℕ) (flag : ℕ → Bool) → MarksSorted of most (head_marks name flag)
  head_sorted most name flag =
      row_sorted (heading_tokens name) (λ (u : Unit {0}) n. flag n) most (apart_heading name) (sorted_heading most name) tt

  -- ---- sections of lines that add nothing

  module _ {A : Type 0} (load : Load) (name : List ℕ) (heads : ℕ → Bool) (tokens : A → List Token) (holds : ℕ → List A → A → Bool) where
    pub section_sorted : (most : ℕ) → ((s : Seen A) → Apart fits (thing_marks load name heads tokens holds s))
        → ((s : Seen A) → MarksSorted of most (thing_marks load name heads tokens holds s))
        → MarksSorted of most (λ xs. marks_of load (things_lines load name heads tokens holds xs))
    section_sorted most apart h =
        sorted_via fits (has_sort of) (List A) (List A) (λ l. l)
        (headed_marks (thing_marks load name heads tokens holds) seen_more (head_marks name (heading_stands load name heads tokens holds)) seen_none)
        (λ xs. marks_of load (things_lines load name heads tokens holds xs)) (things_alike load name heads tokens holds) most
        (headed_sorted fits (has_sort of) A (Seen A) (thing_marks load name heads tokens holds) seen_more apart most h
        (head_marks name (heading_stands load name heads tokens holds)) seen_none (apart_head_marks name (heading_stands load name heads tokens holds))
        (head_sorted most name (heading_stands load name heads tokens holds)))
