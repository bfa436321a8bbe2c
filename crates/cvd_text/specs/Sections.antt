-- The sections of a design's text (docs/formats.md, "Design files").
use Rattle.std.specs.Prelude.{ℕ, ◌+◌, ◌*◌, ◌^◌, ◌==◌, ◌&&◌, ◌||◌, Bool, true, not, nat_le, nat_lt, List, [], ◌∷◌, ◌++◌, codes, length, map, filter, flat_map}
use Rattle.std.specs.List.{list_all}
use Rattle.std.specs.Ordering.{nat_cmp, is_lt}
use Rattle.std.specs.Str.{bytes_eq}
use Rattle.std.specs.Cmp.Lexicographic.{slice_cmp, pointwise}
use Rattle.cov_types.specs.Limits.{most}
use Rattle.cov_types.specs.declared.limit.LimitName.TheVariants as limit
use Rattle.cov_types.specs.declared.kind.ProcessKind.{ProcessKind}
use Rattle.cov_types.specs.declared.kind.ProcessKind.TheVariants as process
use Rattle.cov_types.specs.declared.kind.VarKind.{VarKind}
use Rattle.cov_types.specs.declared.kind.VarKind.TheVariants as kind
use Rattle.cov_types.specs.declared.var.Var.{Var}
use Rattle.cov_port.specs.KeyTest.{is_key_text}
use Rattle.design_tree.specs.declared.design.Design.{Design}
use Rattle.design_tree.specs.declared.design.Input.{Input}
use Rattle.design_tree.specs.declared.design.Process.{Process}
use Rattle.design_tree.specs.declared.instrumented.PointRow.{PointRow}
use Rattle.design_tree.specs.declared.instrumented.ToggleEntry.{ToggleEntry}
use Rattle.circuit_run.specs.Lists.{numbered}
use Rattle.design_meaning.specs.States.{var_of}
use Rattle.design_meaning.specs.WellTyped.{is_width, is_var, is_plain_var}
use Rattle.design_meaning.specs.Names.{is_name}
use Rattle.design_meaning.specs.Valid.{toggle_place}
use Rattle.cvd_text.specs.Tokens.{word, number, hex, counters, words_of}
use Rattle.cvd_text.specs.Lines.{Line, line}
use Rattle.cvd_text.specs.Targets.{same_kind}
use Rattle.cvd_text.specs.Steps.{body_lines}

-- a section begins with its name and how many things it has
abbrev pub heading : List ℕ → ℕ → Bool → Line
heading name n holds = line (word name ∷ number n ∷ []) holds

-- a line for each thing of a list, by those before it
abbrev pub lines_behind : {A : Type 0} → (List A → A → Line) → List A → List A → List Line
lines_behind f before [] = []
lines_behind f before (x ∷ xs) = f before x ∷ lines_behind f (before ++ x ∷ []) xs

-- whether numbers come before others: by the first that differs, else the shorter ones
abbrev pub is_below : List ℕ → List ℕ → Bool
is_below a b = is_lt (slice_cmp nat_cmp a b)

-- ---- variables

abbrev pub kind_word : VarKind → List ℕ
kind_word kind.Input = codes "i"
kind_word kind.Reg = codes "r"
kind_word kind.Wire = codes "w"

-- 1 to 65,536 words; a start other than 0 is that of a register of one word, and fits it
abbrev pub is_variable : Var → Bool
is_variable v =
    is_width v.width && nat_le 1 v.words && nat_le v.words (most limit.MemoryWords)
    && (v.start == 0 || (same_kind v.kind kind.Reg && v.words == 1 && nat_lt v.start (2 ^ v.width)))

abbrev pub var_line : Var → Line
var_line v = record {
  tokens = number v.width ∷ number v.words ∷ hex v.start ∷ word (kind_word v.kind) ∷ [];
  holds = is_variable v;
  load = record { bits = v.width * v.words; steps = 0; nodes = 0; shown = 0 };
}

abbrev pub var_lines : List Var → List Line
var_lines vars = heading (codes "vars") (length vars) true ∷ map var_line vars

-- ---- inputs

-- the numbers of all variables that are inputs, ascending
abbrev pub input_numbers : List Var → List ℕ
input_numbers vars = map (λ p. p.0) (filter (λ p. same_kind p.1.kind kind.Input) (numbered 0 vars))

abbrev pub same_numbers : List ℕ → List ℕ → Bool
same_numbers a b = pointwise (λ m n. m == n) a b

-- inputs ascend and have different names; with the last of them stands each input variable
abbrev pub is_input_line : Design → ℕ → List Input → Input → Bool
is_input_line d all before i =
    is_plain_var d i.var && same_kind (var_of d i.var).kind kind.Input && is_name i.name
    && list_all (λ (j : Input). nat_lt j.var i.var && not (bytes_eq j.name i.name)) before
    && (nat_lt (length before + 1) all || same_numbers (map (λ (j : Input). j.var) (before ++ i ∷ [])) (input_numbers d.vars))

abbrev pub input_line : Design → ℕ → List Input → Input → Line
input_line d all before i = line (number i.var ∷ word i.name ∷ []) (is_input_line d all before i)

abbrev pub input_lines : Design → List Line
input_lines d =
    heading (codes "inputs") (length d.inputs) (nat_lt 0 (length d.inputs) || length (input_numbers d.vars) == 0)
    ∷ lines_behind (input_line d (length d.inputs)) [] d.inputs

-- ---- outputs

abbrev pub output_line : Design → List ℕ → ℕ → Line
output_line d before v = line (number v ∷ []) (is_plain_var d v && list_all (λ u. nat_lt u v) before)

abbrev pub output_lines : Design → List Line
output_lines d = heading (codes "outputs") (length d.outputs) true ∷ lines_behind (output_line d) [] d.outputs

-- ---- processes

abbrev pub process_word : ProcessKind → List ℕ
process_word process.Assign = codes "assign"
process_word process.Comb = codes "comb"
process_word process.Clocked = codes "clocked"
process_word process.Initial = codes "initial"
process_word process.Cover = codes "cover"

abbrev pub process_lines : Design → ℕ → Process → List Line
process_lines d n p = line (word (process_word p.kind) ∷ []) true ∷ body_lines (record { design = d; counters = n; kind = p.kind }) p.body

abbrev pub processes_lines : Design → ℕ → List Line
processes_lines d n =
    heading (codes "processes") (length d.processes) (nat_le (length d.processes) (most limit.Processes)) ∷ flat_map (process_lines d n) d.processes

-- ---- toggles

-- a bit that the variable has
abbrev pub has_bit : Design → ToggleEntry → Bool
has_bit d t = is_var d t.var && nat_lt t.word (var_of d t.var).words && nat_lt t.bit (var_of d t.var).width

-- an entry's bit lies in its variable, and entries ascend by variable, word and bit
abbrev pub toggle_line : Design → ℕ → List ToggleEntry → ToggleEntry → Line
toggle_line d n before t = line (number t.var ∷ number t.word ∷ number t.bit ∷ number t.counter ∷ [])
    (has_bit d t && nat_lt t.counter n && list_all (λ u. is_below (toggle_place u) (toggle_place t)) before)

abbrev pub toggle_lines : Design → ℕ → List ToggleEntry → List Line
toggle_lines d n toggles = heading (codes "toggles") (length toggles) true ∷ lines_behind (toggle_line d n) [] toggles

-- ---- points

abbrev pub are_below : ℕ → List ℕ → Bool
are_below n ks = list_all (λ k. nat_lt k n) ks

-- a point's key is one of the data file, of at most 65,000 bytes, and keys ascend
abbrev pub point_line : ℕ → List PointRow → PointRow → Line
point_line n before r = line (counters r.plus ∷ counters r.minus ∷ words_of r.key)
    (are_below n r.plus && are_below n r.minus && is_key_text r.key && nat_le (length r.key) (most limit.KeyBytes)
    && list_all (λ (q : PointRow). is_below q.key r.key) before)

abbrev pub point_lines : ℕ → List PointRow → List Line
point_lines n points = heading (codes "points") (length points) (nat_le (length points) (most limit.Points)) ∷ lines_behind (point_line n) [] points
