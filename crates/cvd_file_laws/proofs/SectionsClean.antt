-- No token of the lines of a valid design has a blank or a line feed in it.
use Rattle.std.proofs.Common.{◌≡◌, ℕ, Bool, true, false, cond, not, List, [], ◌∷◌, ◌++◌, map, length, refl, ◌∙◌, ap, eqb, arith}
use Rattle.std.specs.Prelude.{◌&&◌, flat_map}
use Rattle.std.specs.List.{list_all, AllByRecursion, slice_split, onto_first}
use Rattle.std.proofs.lemmas.Bool.Decides.{nat_tests}
use Rattle.cov_types.specs.Key.{is_mark, IsPlain, IsField, IsKey, field_text}
use Rattle.cov_types.specs.declared.kind.ProcessKind.{ProcessKind}
use Rattle.cov_types.specs.declared.kind.ProcessKind.TheVariants as process
use Rattle.cov_types.specs.declared.kind.VarKind.{VarKind}
use Rattle.cov_types.specs.declared.kind.VarKind.TheVariants as kind
use Rattle.cov_types.specs.declared.var.Var.{Var}
use Rattle.design_tree.specs.declared.design.Design.{Design}
use Rattle.design_tree.specs.declared.design.Input.{Input}
use Rattle.design_tree.specs.declared.design.Process.{Process}
use Rattle.design_tree.specs.declared.instrumented.Instrumented.{Instrumented}
use Rattle.design_tree.specs.declared.instrumented.PointRow.{PointRow}
use Rattle.design_tree.specs.declared.instrumented.ToggleEntry.{ToggleEntry}
use Rattle.design_meaning.proofs.Listed.{by_recursion}
use Rattle.design_meaning.specs.Names.{is_name, begins_name, continues_name}
use Rattle.design_meaning.specs.Valid.{IsValid}
use Rattle.cvd_text.specs.Tokens.{word, number, hex, counters, words_of}
use Rattle.cvd_text.specs.Lines.{Line}
use Rattle.cvd_text.specs.Sections.{kind_word, process_word, var_line, var_lines, input_line, input_lines, output_line, output_lines, process_lines}
use Rattle.cvd_text.specs.Sections.{processes_lines, toggle_line, toggle_lines, point_line, point_lines, lines_behind}
use Rattle.cvd_text.specs.Spelling.{last_line, design_lines}
use Rattle.cvd_cursor.proofs.Cutting.{none_passes, separates}
use Rattle.spelling_laws.proofs.Fitting.{first_true, second_true, both_true}
use Rattle.cvd_valid_laws.proofs.Conditions.{all_join}
use Rattle.cvd_file_laws.proofs.Clean.{is_clean, all_clean, onto, number_clean, hex_clean, counters_clean}
use Rattle.cvd_file_laws.proofs.StepsClean.{clean_join, blocks_clean}
use Rattle.cvd_file_laws.proofs.TextPieces.{is_line, lines_clean}

abbrev clear : ℕ → Bool
clear b = not (separates b)

-- ---- names and keys

name_byte : (b : ℕ) → continues_name b ≡ true → clear b ≡ true
name_byte b h = grind (arith, nat_tests)

first_byte : (b : ℕ) → begins_name b ≡ true → clear b ≡ true
first_byte b h = grind (arith, nat_tests)

all_bytes : (bs : List ℕ) → list_all continues_name bs ≡ true → none_passes separates bs ≡ true
all_bytes [] h = refl
all_bytes (b ∷ bs) h =
    both_true (clear b) (none_passes separates bs) (name_byte b (first_true (continues_name b) _ h)) (all_bytes bs (second_true (continues_name b) _ h))

pub name_clean : (bs : List ℕ) → is_name bs ≡ true → is_clean (word bs) ≡ true
name_clean [] h = refl
name_clean (b ∷ bs) h =
    both_true (clear b) (none_passes separates bs) (first_byte b (first_true (begins_name b) (list_all continues_name bs) h))
    (all_bytes bs (second_true (begins_name b) (list_all continues_name bs) h))

abbrev is_feedless : ℕ → Bool
is_feedless b = not (eqb b 10)

plain_feedless : (b : ℕ) → is_mark b ≡ false → is_feedless b ≡ true
plain_feedless b h = grind (arith, nat_tests)

plain_all : (bs : List ℕ) → IsPlain bs → list_all is_feedless bs ≡ true
plain_all [] h = refl
plain_all (b ∷ bs) h = both_true (is_feedless b) (list_all is_feedless bs) (plain_feedless b h.0) (plain_all bs h.1)

fields_feedless : (fields : List (List ℕ × List ℕ)) → AllByRecursion IsField fields → list_all is_feedless (flat_map field_text fields) ≡ true
fields_feedless [] h = refl
fields_feedless (field ∷ fields) h =
    all_join is_feedless (field_text field) (flat_map field_text fields)
    (all_join is_feedless (1 ∷ field.0) (2 ∷ field.1) (plain_all field.0 h.0.1) (plain_all field.1 h.0.2)) (fields_feedless fields h.1)

key_feedless : (key : List ℕ) → IsKey key → list_all is_feedless key ≡ true
key_feedless key (fields, some, good, is) = ap (list_all is_feedless) is ∙ fields_feedless fields good

abbrev is_blank : ℕ → Bool
is_blank b = eqb b 32

no_separator : (b : ℕ) → is_blank b ≡ false → is_feedless b ≡ true → clear b ≡ true
no_separator b h k = grind (arith, nat_tests)

abbrev parts_clean : List (List ℕ) → Bool
parts_clean ws = all_clean (map word ws)

onto_clean : (b : ℕ) (ws : List (List ℕ)) → clear b ≡ true → parts_clean ws ≡ true → parts_clean (onto_first b ws) ≡ true
onto_clean b [] h p = both_true (clear b && true) true (both_true (clear b) true h refl) refl
onto_clean b (w ∷ ws) h p =
    both_true (clear b && none_passes separates w) (parts_clean ws)
    (both_true (clear b) (none_passes separates w) h (first_true (none_passes separates w) (parts_clean ws) p))
    (second_true (none_passes separates w) (parts_clean ws) p)

split_clean : (b : ℕ) (key : List ℕ) (c : Bool) → is_blank b ≡ c → is_feedless b ≡ true → parts_clean (slice_split is_blank key) ≡ true
    → parts_clean (slice_split is_blank (b ∷ key)) ≡ true
split_clean b key true e f more = ap (λ d. parts_clean (cond d ([] ∷ slice_split is_blank key) (onto_first b (slice_split is_blank key)))) e ∙ more
split_clean b key false e f more =
    ap (λ d. parts_clean (cond d ([] ∷ slice_split is_blank key) (onto_first b (slice_split is_blank key)))) e
    ∙ onto_clean b (slice_split is_blank key) (no_separator b e f) more

pub words_clean : (key : List ℕ) → list_all is_feedless key ≡ true → all_clean (words_of key) ≡ true
words_clean [] h = refl
words_clean (b ∷ key) h =
    split_clean b key (is_blank b) refl (first_true (is_feedless b) (list_all is_feedless key) h)
    (words_clean key (second_true (is_feedless b) (list_all is_feedless key) h))

-- ---- lines

kind_clean : (k : VarKind) → is_clean (word (kind_word k)) ≡ true
kind_clean kind.Input = refl
kind_clean kind.Reg = refl
kind_clean kind.Wire = refl

process_word_clean : (k : ProcessKind) → is_clean (word (process_word k)) ≡ true
process_word_clean process.Assign = refl
process_word_clean process.Comb = refl
process_word_clean process.Clocked = refl
process_word_clean process.Initial = refl
process_word_clean process.Cover = refl

-- a name and a number
pub heading_clean : (n : ℕ) → (is_clean (number n) && true) ≡ true
heading_clean n = onto (number n) true (number_clean n) refl

vars_clean : (vars : List Var) → lines_clean (map var_line vars) ≡ true
vars_clean [] = refl
vars_clean (v ∷ vars) =
    both_true (is_line (var_line v).tokens) (lines_clean (map var_line vars))
    (onto (number v.width) _ (number_clean v.width) (onto (number v.words) _ (number_clean v.words) (onto (hex v.start) _ (hex_clean v.start)
    (onto (word (kind_word v.kind)) true (kind_clean v.kind) refl)))) (vars_clean vars)

-- lines of things that each have clean tokens
rows_clean : {A : Type 0} (P : A → Type 0) (row : List A → A → Line) → ((before : List A) (x : A) → P x → is_line (row before x).tokens ≡ true)
    → (before xs : List A) → AllByRecursion P xs → lines_clean (lines_behind row before xs) ≡ true
rows_clean P row each before [] h = refl
rows_clean P row each before (x ∷ xs) h =
    both_true (is_line (row before x).tokens) (lines_clean (lines_behind row (before ++ x ∷ []) xs)) (each before x h.0)
    (rows_clean P row each (before ++ x ∷ []) xs h.1)

anything : {A : Type 0} (xs : List A) → AllByRecursion (λ (x : A). Unit {0}) xs
anything [] = tt
anything (x ∷ xs) = (tt, anything xs)

processes_clean : (d : Design) (n : ℕ) (ps : List Process) → lines_clean (flat_map (process_lines d n) ps) ≡ true
processes_clean d n [] = refl
processes_clean d n (p ∷ ps) =
    clean_join (process_lines d n p) (flat_map (process_lines d n) ps)
    (both_true (is_clean (word (process_word p.kind)) && true) _ (onto (word (process_word p.kind)) true (process_word_clean p.kind) refl)
    (blocks_clean (record { design = d; counters = n; kind = p.kind }) 1 p.body))
    (processes_clean d n ps)

-- ---- the whole

module _ (x : Instrumented) (valid : IsValid x) where
  abbrev d : Design
  d = x.design

  abbrev n : ℕ
  n = x.counters

  inputs_clean : lines_clean (input_lines d) ≡ true
  inputs_clean =
      both_true (is_clean (number (length d.inputs)) && true) _ (heading_clean (length d.inputs))
      (rows_clean (λ (i : Input). is_name i.name ≡ true) (input_line d (length d.inputs))
      (λ before i h. onto (number i.var) _ (number_clean i.var) (onto (word i.name) true (name_clean i.name h) refl)) [] d.inputs
      (by_recursion (λ (i : Input). is_name i.name ≡ true) d.inputs valid.inputs.names))

  outputs_clean : lines_clean (output_lines d) ≡ true
  outputs_clean =
      both_true (is_clean (number (length d.outputs)) && true) _ (heading_clean (length d.outputs))
      (rows_clean (λ (v : ℕ). Unit {0}) (output_line d) (λ before v h. onto (number v) true (number_clean v) refl) [] d.outputs (anything d.outputs))

  toggles_clean : lines_clean (toggle_lines d n x.toggles) ≡ true
  toggles_clean =
      both_true (is_clean (number (length x.toggles)) && true) _ (heading_clean (length x.toggles))
      (rows_clean (λ (t : ToggleEntry). Unit {0}) (toggle_line d n)
      (λ before t h. onto (number t.var) _ (number_clean t.var) (onto (number t.word) _ (number_clean t.word) (onto (number t.bit) _ (number_clean t.bit)
      (onto (number t.counter) true (number_clean t.counter) refl)))) [] x.toggles (anything x.toggles))

  points_clean : lines_clean (point_lines n x.points) ≡ true
  points_clean =
      both_true (is_clean (number (length x.points)) && true) _ (heading_clean (length x.points))
      (rows_clean (λ (r : PointRow). IsKey r.key) (point_line n)
      (λ before r h. onto (counters r.plus) _ (counters_clean r.plus) (onto (counters r.minus) _ (counters_clean r.minus)
      (words_clean r.key (key_feedless r.key h)))) [] x.points
      (by_recursion (λ (r : PointRow). IsKey r.key) x.points valid.points.keys))

  abbrev points : List Line
  points = point_lines n x.points ++ last_line ∷ []

  abbrev toggles : List Line
  toggles = toggle_lines d n x.toggles ++ points

  abbrev processes : List Line
  processes = processes_lines d n ++ toggles

  abbrev outputs : List Line
  outputs = output_lines d ++ processes

  pub design_clean : lines_clean (design_lines x) ≡ true
  design_clean =
      both_true (is_clean (number n) && true) _ (heading_clean n)
      (clean_join (var_lines d.vars) (input_lines d ++ outputs)
      (both_true (is_clean (number (length d.vars)) && true) _ (heading_clean (length d.vars)) (vars_clean d.vars))
      (clean_join (input_lines d) outputs inputs_clean
      (clean_join (output_lines d) processes outputs_clean
      (clean_join (processes_lines d n) toggles
      (both_true (is_clean (number (length d.processes)) && true) _ (heading_clean (length d.processes)) (processes_clean d n d.processes))
      (clean_join (toggle_lines d n x.toggles) points toggles_clean (clean_join (point_lines n x.points) (last_line ∷ []) points_clean refl))))))
