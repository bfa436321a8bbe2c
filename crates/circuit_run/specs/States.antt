-- States: what each numbered variable holds. This project's own: bits are 0 or 1.
use Rattle.std.specs.Prelude.{◌≡◌, ℕ, ◌<◌, ◌^◌, List, [], length, slice_index, slice_index_or, All, ℤ, pos, negsuc}
use Rattle.std.specs.Int.{bit_at}
use Rattle.cov_types.specs.declared.kind.VarKind.TheVariants as var_kind
use Rattle.cov_types.specs.declared.var.Var.{Var}

-- what a variable holds: words of one width (IEEE 1364-2005, 4.3 and 4.9)
pub record VarWords : Type 0 where
  pub width : ℕ
  pub words : List ℕ

-- a state: what each variable holds, by its number
abbrev pub State : Type 0
State = List VarWords

-- past the last number no variable has words
abbrev pub no_words : VarWords
no_words = record { width = 1; words = [] }

-- what a variable holds in a state
abbrev pub held : State → ℕ → VarWords
held s v = slice_index_or s v no_words

-- the word at a position, and 0 where the variable has none
abbrev pub word_at : VarWords → ℤ → ℕ
word_at v (pos n) = slice_index v.words n
word_at v (negsuc n) = 0

-- a bit: its variable, its word, and its place in the word, 0 being the lowest
pub record Bit : Type 0 where
  pub var : ℕ
  pub word : ℕ
  pub place : ℕ

-- a bit's value in a state
abbrev pub bit : State → Bit → ℕ
bit s b = bit_at (slice_index (held s b.var).words b.word) b.place

-- ---- states of some variables

-- past the last number there is no variable
abbrev pub no_var : Var
no_var = record { width = 1; words = 0; start = 0; kind = var_kind.Wire }

-- a variable by its number
abbrev pub var_of : List Var → ℕ → Var
var_of vars v = slice_index_or vars v no_var

-- a bit that one of the variables has
pub record IsBitOf (vars : List Var) (b : Bit) : Type 0 where
  pub of_variable : b.var < length vars
  pub of_word : b.word < (var_of vars b.var).words
  pub in_width : b.place < (var_of vars b.var).width

-- words of a variable: its width, as many as it has, each below 2 ^ width
pub record AreWordsOf (v : Var) (holds : VarWords) : Type 0 where
  pub as_wide : holds.width ≡ v.width
  pub as_many : length holds.words ≡ v.words
  pub fit : All (λ n. n < 2 ^ v.width) holds.words

-- a state of some variables holds words of each of them, and no others
pub record IsStateOf (vars : List Var) (s : State) : Type 0 where
  pub as_many : length s ≡ length vars
  pub each : (v : ℕ) → v < length vars → AreWordsOf (var_of vars v) (held s v)
