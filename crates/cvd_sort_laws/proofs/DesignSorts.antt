-- Where marks of a design come next, either all are numbers, or none is: each section, and the whole.
use Rattle.std.proofs.Common.{◌≡◌, ℕ, Bool, true, List, [], ◌∷◌, ◌++◌, map, length, refl, sym, ◌∙◌, ap}
use Rattle.std.specs.Prelude.{codes, flat_map, nat_le, nat_lt, ◌&&◌, ◌||◌, ◌==◌}
use Rattle.std.specs.List.{list_all, slice_split}
use Rattle.cov_types.specs.Limits.{most}
use Rattle.cov_types.specs.declared.limit.LimitName.TheVariants as limit
use Rattle.cov_types.specs.declared.kind.ProcessKind.{ProcessKind}
use Rattle.cov_types.specs.declared.kind.VarKind.{VarKind}
use Rattle.cov_types.specs.declared.var.Var.{Var}
use Rattle.cov_port.specs.KeyTest.{is_key_text}
use Rattle.design_tree.specs.declared.design.Design.{Design}
use Rattle.design_tree.specs.declared.design.Input.{Input}
use Rattle.design_tree.specs.declared.design.Process.{Process}
use Rattle.design_tree.specs.declared.instrumented.Instrumented.{Instrumented}
use Rattle.design_tree.specs.declared.instrumented.ToggleEntry.{ToggleEntry}
use Rattle.design_tree.specs.declared.step.Step.{Step}
use Rattle.design_meaning.specs.Valid.{toggle_place}
use Rattle.design_meaning.specs.WellTyped.{is_plain_var}
use Rattle.cvd_text.specs.Tokens.{Token, word, number, hex, is_numeric}
use Rattle.cvd_text.specs.Lines.{Load, Line, line, stands, no_load}
use Rattle.cvd_text.specs.Pieces.{Mark, token, line_end, fits, marks_of}
use Rattle.cvd_text.specs.Sections.{heading, kind_word, process_word, var_line, var_lines, input_lines, input_numbers, is_input_line, output_lines}
use Rattle.cvd_text.specs.Sections.{toggle_lines, has_bit, is_below, process_lines, processes_lines}
use Rattle.cvd_text.specs.Spelling.{last_line}
use Rattle.cvd_cursor.specs.Numerals.{number_tokens, hex_tokens}
use Rattle.cvd_cursor.specs.Reads.{marks, line_marks}
use Rattle.spelling_laws.specs.Lists.{headed_marks}
use Rattle.spelling_laws.proofs.ListSorts.{sorted_via, headed_sorted}
use Rattle.spelling_laws.proofs.Sorts.{sorts_one}
use Rattle.cvd_laws.specs.Expressions.{is_token}
use Rattle.cvd_laws.proofs.Marks.{apart_marks}
use Rattle.cvd_laws.proofs.Typeds as typeds
use Rattle.cvd_step_laws.specs.LineMarks.{with_vars, each_lines, each_load}
use Rattle.cvd_step_laws.specs.StepMarks.{block_marks}
use Rattle.cvd_section_laws.proofs.Keys.{word_tokens}
use Rattle.cvd_section_laws.proofs.Rows.{Seen, apart_row, head_marks, apart_head_marks}
use Rattle.cvd_section_laws.proofs.Sections.{kind_tokens, process_tokens, apart_process_kind, var_tokens, apart_var, vars_alike, input_tokens, apart_input}
use Rattle.cvd_section_laws.proofs.Sections.{with_inputs, with_outputs, toggle_tokens, apart_toggle, process_line, process_parts, process_alike, apart_process}
use Rattle.cvd_sort_laws.proofs.SectionSorts.{tokens_then, row_sorted, head_sorted, section_sorted}
use Rattle.cvd_sort_laws.proofs.StepSorts.{then_sorts, end_then, sorted_block}
use Rattle.cvd_sort_laws.proofs.TokenSorts.{MarkSort, has_sort, TokensSorted, MarksSorted, lifted, sorted_number}

module _ (of : MarkSort) where
  module _ (top : ℕ) where
    hexes : TokensSorted top hex_tokens
    hexes = sorts_one is_token is_numeric ℕ hex (λ v w. refl) top

    words : TokensSorted top word_tokens
    words = sorts_one is_token is_numeric (List ℕ) word (λ v w. refl) top

    kinds : TokensSorted top kind_tokens
    kinds = sorts_one is_token is_numeric VarKind (λ k. word (kind_word k)) (λ v w. refl) top

    numbers_then : (B : Type 0) (s : B → List Token) → TokensSorted top s → TokensSorted top (λ (p : (n : ℕ) × B). number_tokens p.0 ++ s p.1)
    numbers_then B s h = tokens_then of ℕ B number_tokens s top typeds.apart_number (sorted_number top) h

    -- ---- variables

    sorted_var : TokensSorted top var_tokens
    sorted_var =
        sorted_via is_token is_numeric ((width : ℕ) × ((words : ℕ) × ((start : ℕ) × VarKind))) Var (λ (v : Var). (v.width, (v.words, (v.start, v.kind))))
        (λ p. number_tokens p.0 ++ (number_tokens p.1.0 ++ (hex_tokens p.1.1.0 ++ kind_tokens p.1.1.1))) var_tokens (λ v. refl) top
        (numbers_then _ _ (numbers_then _ _ (tokens_then of ℕ VarKind hex_tokens kind_tokens top typeds.apart_hex hexes kinds)))

    abbrev one_var : Var → List Line
    one_var v = var_line v ∷ []

    abbrev vars_flag : Load → ℕ → Bool
    vars_flag load n = stands load (heading (codes "vars") n true)

    pub vars_sorted : (load : Load) → MarksSorted of top (λ vars. marks_of load (var_lines vars))
    vars_sorted load =
        sorted_via fits (has_sort of) (List Var) (List Var) (λ l. l)
        (headed_marks (each_lines one_var) (each_load one_var) (head_marks (codes "vars") (vars_flag load)) (λ n. load))
        (λ vars. marks_of load (var_lines vars))
        (vars_alike load) top
        (headed_sorted fits (has_sort of) Var Load (each_lines one_var) (each_load one_var)
        (λ before. apart_row var_tokens (λ b v. stands b (var_line v)) apart_var before) top
        (λ before. row_sorted of var_tokens (λ b v. stands b (var_line v)) top apart_var sorted_var before) (head_marks (codes "vars") (vars_flag load))
        (λ n. load)
        (apart_head_marks (codes "vars") (vars_flag load)) (head_sorted of top (codes "vars") (vars_flag load)))

    -- ---- inputs, outputs, toggle entries

    sorted_input : TokensSorted top input_tokens
    sorted_input =
        sorted_via is_token is_numeric ((var : ℕ) × List ℕ) Input (λ (i : Input). (i.var, i.name)) (λ p. number_tokens p.0
        ++ word_tokens p.1) input_tokens (λ i. refl) top
        (numbers_then (List ℕ) word_tokens words)

    pub inputs_sorted : (load : Load) (vars : List Var) → MarksSorted of top (λ inputs. marks_of load (input_lines (with_inputs vars inputs)))
    inputs_sorted load vars =
        section_sorted of load (codes "inputs") (λ n. nat_lt 0 n || length (input_numbers vars) == 0) input_tokens (is_input_line (with_vars vars)) top
        (λ s. apart_row input_tokens (λ (s : Seen Input) i. stands load (line (input_tokens i) (is_input_line (with_vars vars) s.0 s.1 i))) apart_input s)
        (λ s. row_sorted of input_tokens (λ (s : Seen Input) i. stands load (line (input_tokens i) (is_input_line (with_vars vars) s.0 s.1 i))) top
        apart_input sorted_input s)

    pub outputs_sorted : (load : Load) (vars : List Var) → MarksSorted of top (λ outputs. marks_of load (output_lines (with_outputs vars outputs)))
    outputs_sorted load vars =
        section_sorted of load (codes "outputs") (λ n. true) number_tokens
        (λ n before v. is_plain_var (with_vars vars) v && list_all (λ u. nat_lt u v) before) top
        (λ s. apart_row number_tokens (λ (s : Seen ℕ) v. stands load
        (line (number_tokens v) (is_plain_var (with_vars vars) v && list_all (λ u. nat_lt u v) s.1)))
        typeds.apart_number s)
        (λ s. row_sorted of number_tokens
        (λ (s : Seen ℕ) v. stands load (line (number_tokens v) (is_plain_var (with_vars vars) v && list_all (λ u. nat_lt u v) s.1))) top
        typeds.apart_number (sorted_number top) s)

    pub sorted_toggle : TokensSorted top toggle_tokens
    sorted_toggle =
        sorted_via is_token is_numeric ((var : ℕ) × ((word : ℕ) × ((bit : ℕ) × ℕ))) ToggleEntry (λ (t : ToggleEntry). (t.var, (t.word, (t.bit, t.counter))))
        (λ p. number_tokens p.0 ++ (number_tokens p.1.0 ++ (number_tokens p.1.1.0 ++ number_tokens p.1.1.1))) toggle_tokens (λ t. refl) top
        (numbers_then _ _ (numbers_then _ _ (numbers_then ℕ number_tokens (sorted_number top))))

    -- ---- processes

    abbrev ProcessParts : Type 0
    ProcessParts = (k : ProcessKind) × ((ended : Unit {0}) × List Step)

    pub process_sorted : (d : Design) (counters : ℕ) (load : Load) → MarksSorted of top (each_lines (process_lines d counters) load)
    process_sorted d counters load =
        sorted_via fits (has_sort of) ProcessParts Process (λ (p : Process). (p.kind, (tt, p.body))) (process_parts d counters load)
        (each_lines (process_lines d counters) load) (process_alike d counters load) top
        (then_sorts of ProcessKind (λ k. (ended : Unit {0}) × List Step) (marks process_tokens)
        (λ k q. line_marks (stands load (process_line d counters k)) q.0 ++ block_marks (record { design = d; counters = counters; kind = k }) load 1 q.1) top
        (λ k. apart_marks process_tokens k (apart_process_kind k))
        (lifted process_tokens of top (sorts_one is_token is_numeric ProcessKind (λ k. word (process_word k)) (λ v w. refl) top))
        (λ k. end_then of top (stands load (process_line d counters k)) (List Step)
        (λ steps. block_marks (record { design = d; counters = counters; kind = k }) load 1 steps)
        (sorted_block of top (record { design = d; counters = counters; kind = k }) load 1)))
