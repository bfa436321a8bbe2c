-- No section's spelling is the front of another's: variables, inputs, outputs, processes, toggle entries, points.
use Rattle.std.proofs.Common.{◌≡◌, ℕ, Bool, true, List, [], ◌∷◌, ◌++◌, map, length, refl, sym, ◌∙◌, ap}
use Rattle.std.specs.Prelude.{codes, find, flat_map, ◌==◌, ◌&&◌, ◌||◌, nat_lt, nat_le}
use Rattle.std.specs.List.{list_all}
use Rattle.std.specs.Str.{bytes_eq}
use Rattle.std.specs.Option.{option_map_or}
use Rattle.cov_types.specs.Limits.{most}
use Rattle.cov_types.specs.declared.limit.LimitName.TheVariants as limit
use Rattle.cov_types.specs.declared.kind.ProcessKind.{ProcessKind}
use Rattle.cov_types.specs.declared.kind.ProcessKind.TheVariants as process
use Rattle.cov_types.specs.declared.kind.VarKind.{VarKind}
use Rattle.cov_types.specs.declared.kind.VarKind.TheVariants as kind
use Rattle.cov_types.specs.declared.var.Var.{Var}
use Rattle.cov_port.specs.KeyTest.{is_key_text}
use Rattle.design_tree.specs.declared.design.Design.{Design}
use Rattle.design_tree.specs.declared.design.Input.{Input}
use Rattle.design_tree.specs.declared.design.Process.{Process}
use Rattle.design_tree.specs.declared.instrumented.PointRow.{PointRow}
use Rattle.design_tree.specs.declared.instrumented.ToggleEntry.{ToggleEntry}
use Rattle.design_tree.specs.declared.step.Step.{Step}
use Rattle.design_meaning.specs.WellTyped.{is_plain_var}
use Rattle.design_meaning.specs.Valid.{toggle_place}
use Rattle.cvd_text.specs.Tokens.{Token, word, number, hex, counters, words_of}
use Rattle.cvd_text.specs.Lines.{Load, Line, line, stands}
use Rattle.cvd_text.specs.Pieces.{Mark, token, line_end, fits, marks_of}
use Rattle.cvd_text.specs.Steps.{Around, body_lines}
use Rattle.cvd_text.specs.Sections.{heading, kind_word, process_word, var_line, var_lines, input_numbers, is_input_line, input_lines, output_lines}
use Rattle.cvd_text.specs.Sections.{process_lines, processes_lines, toggle_lines, has_bit, is_below, are_below, point_lines}
use Rattle.cvd_cursor.specs.Numerals.{number_tokens, hex_tokens}
use Rattle.cvd_cursor.specs.Reads.{marks, line_marks}
use Rattle.spelling_laws.specs.Spelled.{Apart}
use Rattle.spelling_laws.specs.Lists.{headed_marks}
use Rattle.spelling_laws.proofs.One as single
use Rattle.spelling_laws.proofs.Then as after
use Rattle.cvd_laws.specs.Expressions.{is_token}
use Rattle.cvd_laws.proofs.Marks.{apart_marks}
use Rattle.cvd_laws.proofs.Typeds.{then_apart, same_text, apart_number, apart_hex}
use Rattle.cvd_step_laws.specs.LineMarks.{with_vars, each_lines, each_load}
use Rattle.cvd_step_laws.specs.StepMarks.{block_marks}
use Rattle.cvd_step_laws.proofs.LineMarks.{marks_plain, each_joined, rows_joined}
use Rattle.cvd_step_laws.proofs.PartsApart.{end_then}
use Rattle.cvd_step_laws.proofs.StepsApart.{apart_block}
use Rattle.cvd_section_laws.proofs.Counters.{counters_tokens, apart_counters}
use Rattle.cvd_section_laws.proofs.Keys.{word_tokens, apart_any_word, key_marks, apart_key}
use Rattle.cvd_section_laws.proofs.Rows.{row, apart_row, head_marks, heading_tokens, apart_things, Seen, apart_section}

-- ---- words of kinds

abbrev pub kind_tokens : VarKind → List Token
kind_tokens k = word (kind_word k) ∷ []

abbrev kind_of : List ℕ → VarKind
kind_of text = option_map_or (λ k. k) (find (λ k. bytes_eq text (kind_word k)) (kind.Input ∷ kind.Reg ∷ kind.Wire ∷ [])) kind.Input

kind_back : (k : VarKind) → kind_of (kind_word k) ≡ k
kind_back kind.Input = refl
kind_back kind.Reg = refl
kind_back kind.Wire = refl

pub apart_kind : Apart is_token kind_tokens
apart_kind = single.apart_one is_token VarKind (λ k. word (kind_word k))
    (λ p v w e f. sym (kind_back v) ∙ ap kind_of (sym (same_text p (kind_word v) e) ∙ same_text p (kind_word w) f) ∙ kind_back w)

abbrev pub process_tokens : ProcessKind → List Token
process_tokens k = word (process_word k) ∷ []

abbrev all_processes : List ProcessKind
all_processes = process.Assign ∷ process.Comb ∷ process.Clocked ∷ process.Initial ∷ process.Cover ∷ []

abbrev process_of : List ℕ → ProcessKind
process_of text = option_map_or (λ k. k) (find (λ k. bytes_eq text (process_word k)) all_processes) process.Assign

process_back : (k : ProcessKind) → process_of (process_word k) ≡ k
process_back process.Assign = refl
process_back process.Comb = refl
process_back process.Clocked = refl
process_back process.Initial = refl
process_back process.Cover = refl

pub apart_process_kind : Apart is_token process_tokens
apart_process_kind = single.apart_one is_token ProcessKind (λ k. word (process_word k))
    (λ p v w e f. sym (process_back v) ∙ ap process_of (sym (same_text p (process_word v) e) ∙ same_text p (process_word w) f) ∙ process_back w)

-- ---- variables

abbrev pub var_tokens : Var → List Token
var_tokens v = number v.width ∷ number v.words ∷ hex v.start ∷ word (kind_word v.kind) ∷ []

abbrev VarParts : Type 0
VarParts = (width : ℕ) × ((words : ℕ) × ((start : ℕ) × VarKind))

abbrev made_var : VarParts → Var
made_var p = record { width = p.0; words = p.1.0; start = p.1.1.0; kind = p.1.1.1 }

pub apart_var : Apart is_token var_tokens
apart_var v =
    single.apart_via is_token VarParts Var made_var (λ (v : Var). (v.width, (v.words, (v.start, v.kind)))) (λ v. refl)
    (λ p. number_tokens p.0 ++ (number_tokens p.1.0 ++ (hex_tokens p.1.1.0 ++ kind_tokens p.1.1.1))) var_tokens (λ v. refl) v
    (then_apart ℕ ((words : ℕ) × ((start : ℕ) × VarKind)) number_tokens (λ p. number_tokens p.0 ++ (hex_tokens p.1.0 ++ kind_tokens p.1.1)) v.width
    (v.words, (v.start, v.kind)) (apart_number v.width)
    (then_apart ℕ ((start : ℕ) × VarKind) number_tokens (λ p. hex_tokens p.0 ++ kind_tokens p.1) v.words (v.start, v.kind) (apart_number v.words)
    (then_apart ℕ VarKind hex_tokens kind_tokens v.start v.kind (apart_hex v.start) (apart_kind v.kind))))

abbrev one_var : Var → List Line
one_var v = var_line v ∷ []

pub vars_alike : (load : Load) (vars : List Var)
    → marks_of load (var_lines vars)
    ≡ headed_marks (each_lines one_var) (each_load one_var) (head_marks (codes "vars") (λ n. stands load (heading (codes "vars") n true))) (λ n. load) vars
vars_alike load vars =
    let n = length vars in
    marks_plain load (heading_tokens (codes "vars") n) true (map var_line vars)
    ∙ ap (λ z. map token (heading_tokens (codes "vars") n) ++ line_end (stands load (heading (codes "vars") n true)) ∷ z)
    (ap (marks_of load) (rows_joined var_line vars) ∙ each_joined one_var load vars)

pub apart_vars : (load : Load) → Apart fits (λ vars. marks_of load (var_lines vars))
apart_vars load vars =
    single.apart_via fits (List Var) (List Var) (λ l. l) (λ l. l) (λ l. refl)
    (headed_marks (each_lines one_var) (each_load one_var) (head_marks (codes "vars") (λ n. stands load (heading (codes "vars") n true))) (λ n. load))
    (λ vs. marks_of load (var_lines vs)) (vars_alike load) vars
    (apart_things Var Load (each_lines one_var) (each_load one_var) (codes "vars") (λ n. stands load (heading (codes "vars") n true)) (λ n. load)
    (λ before. apart_row var_tokens (λ b v. stands b (var_line v)) apart_var before) vars)

-- ---- inputs and outputs

abbrev pub input_tokens : Input → List Token
input_tokens i = number i.var ∷ word i.name ∷ []

abbrev made_input : (var : ℕ) × List ℕ → Input
made_input p = record { var = p.0; name = p.1 }

pub apart_input : Apart is_token input_tokens
apart_input i =
    single.apart_via is_token ((var : ℕ) × List ℕ) Input made_input (λ (i : Input). (i.var, i.name)) (λ i. refl) (λ p. number_tokens p.0 ++ word_tokens p.1)
    input_tokens (λ i. refl) i
    (then_apart ℕ (List ℕ) number_tokens word_tokens i.var i.name (apart_number i.var) (apart_any_word i.name))

abbrev pub with_inputs : List Var → List Input → Design
with_inputs vars inputs = record { vars = vars; inputs = inputs; outputs = []; processes = [] }

abbrev pub with_outputs : List Var → List ℕ → Design
with_outputs vars outputs = record { vars = vars; inputs = []; outputs = outputs; processes = [] }

module _ (load : Load) (vars : List Var) where
  abbrev input_heads : ℕ → Bool
  input_heads n = nat_lt 0 n || length (input_numbers vars) == 0

  pub apart_inputs : Apart fits (λ inputs. marks_of load (input_lines (with_inputs vars inputs)))
  apart_inputs =
      apart_section load (codes "inputs") input_heads input_tokens (is_input_line (with_vars vars))
      (λ s. apart_row input_tokens (λ (s : Seen Input) i. stands load (line (input_tokens i) (is_input_line (with_vars vars) s.0 s.1 i))) apart_input s)

  abbrev is_output : ℕ → List ℕ → ℕ → Bool
  is_output n before v = is_plain_var (with_vars vars) v && list_all (λ u. nat_lt u v) before

  pub apart_outputs : Apart fits (λ outputs. marks_of load (output_lines (with_outputs vars outputs)))
  apart_outputs =
      apart_section load (codes "outputs") (λ n. true) number_tokens is_output
      (λ s. apart_row number_tokens (λ (s : Seen ℕ) v. stands load (line (number_tokens v) (is_output s.0 s.1 v))) apart_number s)

-- ---- processes

abbrev pub with_processes : List Var → List Process → Design
with_processes vars processes = record { vars = vars; inputs = []; outputs = []; processes = processes }

module _ (d : Design) (counters : ℕ) where
  abbrev around_kind : ProcessKind → Around
  around_kind k = record { design = d; counters = counters; kind = k }

  abbrev ProcessParts : Type 0
  ProcessParts = (k : ProcessKind) × ((ended : Unit {0}) × List Step)

  abbrev made_process : ProcessParts → Process
  made_process p = record { kind = p.0; body = p.1.1 }

  abbrev parts_of_process : Process → ProcessParts
  parts_of_process p = (p.kind, (tt, p.body))

  abbrev pub process_line : ProcessKind → Line
  process_line k = line (word (process_word k) ∷ []) true

  abbrev pub process_parts : Load → ProcessParts → List Mark
  process_parts load p = marks process_tokens p.0 ++ (line_marks (stands load (process_line p.0)) p.1.0 ++ block_marks (around_kind p.0) load 1 p.1.1)

  pub process_alike : (load : Load) (p : Process) → each_lines (process_lines d counters) load p ≡ process_parts load (parts_of_process p)
  process_alike load p = marks_plain load (process_tokens p.kind) true (body_lines (around_kind p.kind) p.body)

  pub apart_process : (load : Load) → Apart fits (each_lines (process_lines d counters) load)
  apart_process load p =
      single.apart_via fits ProcessParts Process made_process parts_of_process (λ p. refl) (process_parts load) (each_lines (process_lines d counters) load)
      (process_alike load) p
      (after.apart_pair fits ProcessKind (λ k. (ended : Unit {0}) × List Step) (marks process_tokens)
      (λ k q. line_marks (stands load (process_line k)) q.0 ++ block_marks (around_kind k) load 1 q.1) p.kind (tt, p.body)
      (apart_marks process_tokens p.kind (apart_process_kind p.kind))
      (end_then (stands load (process_line p.kind)) (List Step) (λ steps. block_marks (around_kind p.kind) load 1 steps) p.body
      (apart_block (around_kind p.kind) load 1 p.body)))

  abbrev processes_heads : ℕ → Bool
  processes_heads n = nat_le n (most limit.Processes)

  abbrev processes_flag : Load → ℕ → Bool
  processes_flag load n = stands load (heading (codes "processes") n (processes_heads n))

  abbrev processes_marks : Load → List Process → List Mark
  processes_marks load = headed_marks (each_lines (process_lines d counters)) (each_load (process_lines d counters))
      (head_marks (codes "processes") (processes_flag load)) (λ n. load)

  abbrev lines_of_all : List Process → List Line
  lines_of_all ps = heading (codes "processes") (length ps) (processes_heads (length ps)) ∷ flat_map (process_lines d counters) ps

  processes_alike : (load : Load) (ps : List Process) → marks_of load (lines_of_all ps) ≡ processes_marks load ps
  processes_alike load ps =
      let n = length ps in
      marks_plain load (heading_tokens (codes "processes") n) (processes_heads n) (flat_map (process_lines d counters) ps)
      ∙ ap (λ z. map token (heading_tokens (codes "processes") n) ++ line_end (processes_flag load n) ∷ z) (each_joined (process_lines d counters) load ps)

  all_processes_apart : (load : Load) → Apart fits (λ ps. marks_of load (lines_of_all ps))
  all_processes_apart load ps =
      single.apart_via fits (List Process) (List Process) (λ l. l) (λ l. l) (λ l. refl) (processes_marks load) (λ qs. marks_of load (lines_of_all qs))
      (processes_alike load) ps
      (apart_things Process Load (each_lines (process_lines d counters)) (each_load (process_lines d counters)) (codes "processes") (processes_flag load)
      (λ n. load) apart_process ps)

pub apart_processes : (load : Load) (vars : List Var) (counters : ℕ)
    → Apart fits (λ processes. marks_of load (processes_lines (with_processes vars processes) counters))
apart_processes load vars n = all_processes_apart (with_vars vars) n load

-- ---- toggle entries

abbrev pub toggle_tokens : ToggleEntry → List Token
toggle_tokens t = number t.var ∷ number t.word ∷ number t.bit ∷ number t.counter ∷ []

abbrev ToggleParts : Type 0
ToggleParts = (var : ℕ) × ((word : ℕ) × ((bit : ℕ) × ℕ))

abbrev made_toggle : ToggleParts → ToggleEntry
made_toggle p = record { var = p.0; word = p.1.0; bit = p.1.1.0; counter = p.1.1.1 }

pub apart_toggle : Apart is_token toggle_tokens
apart_toggle t =
    single.apart_via is_token ToggleParts ToggleEntry made_toggle (λ (t : ToggleEntry). (t.var, (t.word, (t.bit, t.counter)))) (λ t. refl)
    (λ p. number_tokens p.0 ++ (number_tokens p.1.0 ++ (number_tokens p.1.1.0 ++ number_tokens p.1.1.1))) toggle_tokens (λ t. refl) t
    (then_apart ℕ ((word : ℕ) × ((bit : ℕ) × ℕ)) number_tokens (λ p. number_tokens p.0 ++ (number_tokens p.1.0 ++ number_tokens p.1.1)) t.var
    (t.word, (t.bit, t.counter)) (apart_number t.var)
    (then_apart ℕ ((bit : ℕ) × ℕ) number_tokens (λ p. number_tokens p.0 ++ number_tokens p.1) t.word (t.bit, t.counter) (apart_number t.word)
    (then_apart ℕ ℕ number_tokens number_tokens t.bit t.counter (apart_number t.bit) (apart_number t.counter))))

module _ (load : Load) (vars : List Var) (counters : ℕ) where
  abbrev is_toggle : ℕ → List ToggleEntry → ToggleEntry → Bool
  is_toggle n before t = has_bit (with_vars vars) t && nat_lt t.counter counters && list_all (λ u. is_below (toggle_place u) (toggle_place t)) before

  pub apart_toggles : Apart fits (λ toggles. marks_of load (toggle_lines (with_vars vars) counters toggles))
  apart_toggles =
      apart_section load (codes "toggles") (λ n. true) toggle_tokens is_toggle
      (λ s. apart_row toggle_tokens (λ (s : Seen ToggleEntry) t. stands load (line (toggle_tokens t) (is_toggle s.0 s.1 t))) apart_toggle s)

-- ---- points

abbrev pub point_tokens : PointRow → List Token
point_tokens r = counters r.plus ∷ counters r.minus ∷ words_of r.key

abbrev PointParts : Type 0
PointParts = (plus : List ℕ) × ((minus : List ℕ) × List ℕ)

abbrev made_point : PointParts → PointRow
made_point p = record { plus = p.0; minus = p.1.0; key = p.1.1 }

-- a point's line, whatever it says of it
pub apart_point : {S : Type 0} (flag : S → PointRow → Bool) (s : S) → Apart fits (row point_tokens flag s)
apart_point flag s r =
    single.apart_via fits PointParts PointRow made_point (λ (r : PointRow). (r.plus, (r.minus, r.key))) (λ r. refl)
    (λ p. marks counters_tokens p.0 ++ (marks counters_tokens p.1.0 ++ key_marks (λ key. flag s (made_point (p.0, (p.1.0, key)))) p.1.1))
    (row point_tokens flag s) (λ r. refl) r
    (after.apart_pair fits (List ℕ) (λ plus. (minus : List ℕ) × List ℕ) (marks counters_tokens)
    (λ plus q. marks counters_tokens q.0 ++ key_marks (λ key. flag s (made_point (plus, (q.0, key)))) q.1) r.plus (r.minus, r.key)
    (apart_marks counters_tokens r.plus (apart_counters r.plus))
    (after.apart_pair fits (List ℕ) (λ minus. List ℕ) (marks counters_tokens) (λ minus key. key_marks (λ key. flag s (made_point (r.plus, (minus, key)))) key)
    r.minus r.key (apart_marks counters_tokens r.minus (apart_counters r.minus)) (apart_key (λ key. flag s (made_point (r.plus, (r.minus, key)))) r.key)))

module _ (load : Load) (counters : ℕ) where
  abbrev is_point : ℕ → List PointRow → PointRow → Bool
  is_point n before r =
      are_below counters r.plus && are_below counters r.minus && is_key_text r.key && nat_le (length r.key) (most limit.KeyBytes)
      && list_all (λ (q : PointRow). is_below q.key r.key) before

  pub apart_points : Apart fits (λ points. marks_of load (point_lines counters points))
  apart_points =
      apart_section load (codes "points") (λ n. nat_le n (most limit.Points)) point_tokens is_point
      (λ s. apart_point (λ (s : Seen PointRow) r. stands load (line (point_tokens r) (is_point s.0 s.1 r))) s)
