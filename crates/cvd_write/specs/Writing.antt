-- What it is to write a text behind another, and the text of steps without their conditions.
use Rattle.std.specs.Prelude.{◌≡◌, ℕ, ◌<◌, List, [], ◌∷◌, ◌++◌, codes, length, map, flat_map, Result, Ok, Err}
use Rattle.cov_types.specs.Limits.{most}
use Rattle.cov_types.specs.declared.limit.LimitName.TheVariants as limit
use Rattle.design_tree.specs.declared.step.Step.{Step, Step-F, fold-Step}
use Rattle.design_tree.specs.declared.step.Step.TheOpen as s
use Rattle.design_tree.specs.declared.step.StepArm.{StepArm, fold-StepArm}
use Rattle.design_tree.specs.declared.step.StepItem.{StepItem}
use Rattle.cov_types.specs.declared.var.Var.{Var}
use Rattle.design_tree.specs.declared.design.Design.{Design}
use Rattle.design_tree.specs.declared.design.Input.{Input}
use Rattle.design_tree.specs.declared.design.Process.{Process}
use Rattle.design_tree.specs.declared.instrumented.Instrumented.{Instrumented}
use Rattle.design_tree.specs.declared.instrumented.PointRow.{PointRow}
use Rattle.design_tree.specs.declared.instrumented.ToggleEntry.{ToggleEntry}
use Rattle.cvd_text.specs.Tokens.{Token, word, number, hex, counters, token_text, decimal_text, counters_text}
use Rattle.cvd_text.specs.Expressions.{tokens_of}
use Rattle.cvd_text.specs.Sections.{kind_word, process_word}
use Rattle.cvd_text.specs.Targets.{piece_tokens}
use Rattle.cvd_text.specs.Steps.{assigned_tokens}
use Rattle.cvd_write.specs.declared.fault.WriteFault.{WriteFault}
use Rattle.cvd_write.specs.declared.fault.WriteFault.TheVariants.{NoMemory, Limit}

-- a fault of the limit is one of too many bytes
abbrev pub Refuses : WriteFault → List ℕ → Type 0
Refuses NoMemory text = Unit {0}
Refuses (Limit name) text = (name ≡ limit.CvdBytes) × (most limit.CvdBytes < length text)

-- the text was put behind the old one, or there was no room for it
abbrev pub Writes : List ℕ → List ℕ → Result (Unit {0}) WriteFault → List ℕ → Type 0
Writes old text (Ok done) new = new ≡ old ++ text
Writes old text (Err fault) new = Refuses fault (old ++ text)

-- a blank before each token
abbrev pub spaced : List Token → List ℕ
spaced tokens = flat_map (λ t. 32 ∷ token_text t) tokens

-- a line that begins with a text
abbrev pub row : List ℕ → List Token → List ℕ
row first tokens = first ++ (spaced tokens ++ 10 ∷ [])

-- a block of steps, by their texts
abbrev pub block_text : List (List ℕ) → List ℕ
block_text steps = row (codes "begin") [] ++ (flat_map (λ text. text) steps ++ row (codes "end") [])

abbrev pub step_row : Step-F (List ℕ) (List ℕ) → List ℕ
step_row (s.Set targets value) = row (codes "set") (assigned_tokens targets value)
step_row (s.Later targets value) = row (codes "later") (assigned_tokens targets value)
step_row (s.If test left right) = row (codes "if") (tokens_of test) ++ (block_text left ++ block_text right)
step_row (s.Case on arms rest) = row (codes "case") (number (length arms) ∷ tokens_of on) ++ (flat_map (λ text. text) arms ++ block_text rest)
step_row (s.Show pieces) = row (codes "show") (number (length pieces) ∷ flat_map piece_tokens pieces)
step_row s.Finish = row (codes "finish") []
step_row s.Stop = row (codes "stop") []
step_row (s.Count counter) = row (codes "count") (number counter ∷ [])

abbrev pub item_row : StepItem → List ℕ
item_row item = row (codes "item") (hex item.mask ∷ tokens_of item.value)

abbrev pub arm_row : s.StepArm-F (List ℕ) (List ℕ) → List ℕ
arm_row arm = row (codes "arm") (number (length arm.items) ∷ []) ++ (flat_map item_row arm.items ++ block_text arm.body)

-- the text of a step
abbrev pub step_text : Step → List ℕ
step_text = fold-Step (List ℕ) (List ℕ) step_row arm_row

abbrev pub arm_text : StepArm → List ℕ
arm_text = fold-StepArm (List ℕ) (List ℕ) step_row arm_row

-- ---- the text of a design, without its conditions

abbrev pub heading_row : List ℕ → ℕ → List ℕ
heading_row name n = row name (number n ∷ [])

abbrev pub var_row : Var → List ℕ
var_row v = row (decimal_text v.width) (number v.words ∷ hex v.start ∷ word (kind_word v.kind) ∷ [])

abbrev pub input_row : Input → List ℕ
input_row i = row (decimal_text i.var) (word i.name ∷ [])

abbrev pub output_row : ℕ → List ℕ
output_row v = row (decimal_text v) []

abbrev pub process_text : Process → List ℕ
process_text p = row (process_word p.kind) [] ++ block_text (map step_text p.body)

abbrev pub toggle_row : ToggleEntry → List ℕ
toggle_row t = row (decimal_text t.var) (number t.word ∷ number t.bit ∷ number t.counter ∷ [])

-- a key stands as it is
abbrev pub point_row : PointRow → List ℕ
point_row r = row (counters_text r.plus) (counters r.minus ∷ word r.key ∷ [])

-- a section: its name and its number of things, and their texts
abbrev pub section : {X : Type 0} → List ℕ → (X → List ℕ) → List X → List ℕ
section name text things = heading_row name (length things) ++ flat_map text things

abbrev pub variables_text : Design → List ℕ
variables_text d = section (codes "vars") var_row d.vars ++ (section (codes "inputs") input_row d.inputs ++ section (codes "outputs") output_row d.outputs)

abbrev pub front_text : ℕ → Design → List ℕ
front_text n d =
    row (codes "CVD") (word (codes "1") ∷ []) ++ (heading_row (codes "counters") n ++ variables_text d)

abbrev pub back_text : Instrumented → List ℕ
back_text x =
    section (codes "processes") process_text x.design.processes
    ++ (section (codes "toggles") toggle_row x.toggles ++ (section (codes "points") point_row x.points ++ row (codes "end") []))

abbrev pub design_text : Instrumented → List ℕ
design_text x = front_text x.counters x.design ++ back_text x
