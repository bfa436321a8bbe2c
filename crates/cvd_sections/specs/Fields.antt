-- The numbers of a line, as they are held.
use Rattle.std.specs.Prelude.{◌≡◌, ℕ, ◌^◌, ◌+◌, ◌*◌, ◌≤◌, List, [], ◌∷◌, ◌++◌, length, map, Option, ◌&&◌, nat_lt}
use Rattle.cov_types.specs.declared.kind.VarKind.{VarKind}
use Rattle.cov_types.specs.declared.var.Var.{Var}
use Rattle.design_tree.specs.declared.instrumented.ToggleEntry.{ToggleEntry}
use Rattle.circuit_run.specs.Lists.{total}
use Rattle.cvd_text.specs.Tokens.{Token, word, number, hex}
use Rattle.cvd_text.specs.Lines.{Load, stands, added}
use Rattle.cvd_text.specs.Pieces.{Mark, token, line_end}
use Rattle.cvd_text.specs.Sections.{kind_word, var_line}
use Rattle.cvd_cursor.specs.Numerals.{below}
use Rattle.cvd_sections.specs.Closing.{Judges}
use Rattle.cvd_sections.specs.declared.var.Vars.{Vars}

-- two numbers, and two of them
abbrev pub TwoNumbers : Type 0
TwoNumbers = (first : ℕ) × ℕ

abbrev pub two_tokens : TwoNumbers → List Token
two_tokens p = number p.0 ∷ number p.1 ∷ []

abbrev pub HoldsTwo : TwoNumbers → Option ℕ × Option ℕ → Type 0
HoldsTwo p held = (held.0 ≡ below (2 ^ 32) p.0) × (held.1 ≡ below (2 ^ 32) p.1)

-- the tokens of a toggle entry, and of a variable
abbrev pub toggle_tokens : ToggleEntry → List Token
toggle_tokens t = number t.var ∷ number t.word ∷ number t.bit ∷ number t.counter ∷ []

abbrev pub HoldsToggle : ToggleEntry → (Option ℕ × Option ℕ) × (Option ℕ × Option ℕ) → Type 0
HoldsToggle t held = HoldsTwo (t.var, t.word) held.0 × HoldsTwo (t.bit, t.counter) held.1

-- the variable, the word and the bit of an entry
abbrev pub HoldsPlace : ToggleEntry → ℕ × ℕ × ℕ → Type 0
HoldsPlace t held = (held.0 ≡ t.var) × (held.1 ≡ t.word) × (held.2 ≡ t.bit)

-- a word and a bit that a variable has
abbrev pub JudgesBit : Var → ℕ → ℕ → Option (ℕ × ℕ) → Type 0
JudgesBit v at place found = Judges (λ (p : TwoNumbers). nat_lt p.0 v.words && nat_lt p.1 v.width) (λ (p : TwoNumbers) held. (held.0 ≡ p.0) × (held.1
    ≡ p.1)) (at, place) found

-- a variable's start and kind
abbrev pub Rest : Type 0
Rest = (start : ℕ) × VarKind

abbrev pub rest_tokens : Rest → List Token
rest_tokens p = hex p.0 ∷ word (kind_word p.1) ∷ []

abbrev pub HoldsRest : Rest → Option ℕ × VarKind → Type 0
HoldsRest p held = (held.0 ≡ below (2 ^ 128) p.0) × (held.1 ≡ p.1)

-- the bits of variables
abbrev pub bits_of : List Var → ℕ
bits_of vars = total (map (λ (v : Var). v.width * v.words) vars)

abbrev pub load_of : ℕ → Load
load_of bits = record { bits = bits; steps = 0; nodes = 0; shown = 0 }

-- a variable is held with how many bits there are then
abbrev pub HoldsVar : ℕ → Var → Var × ℕ → Type 0
HoldsVar bits v held = (held.0 ≡ v) × (held.1 ≡ bits + v.width * v.words) × (held.1 ≤ 16777216) × (1 ≤ v.width * v.words)

-- the marks of a variable's line behind lines that add up to this
abbrev pub var_marks : Load → Var → List Mark
var_marks before v = map token (var_line v).tokens ++ line_end (stands before (var_line v)) ∷ []

abbrev pub behind_var : Load → Var → Load
behind_var before v = added before (var_line v).load

-- variables are held with the number of their bits; each has one at least
pub record HoldsVars (vars : List Var) (held : Vars) : Type 0 where
  pub same : held.vars ≡ vars
  pub bits : held.bits ≡ bits_of vars
  pub within : held.bits ≤ 16777216
  pub few : length vars ≤ held.bits
