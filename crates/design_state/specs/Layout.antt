-- How the words of all variables stand in one list: those of each variable behind those of the one before.
use Rattle.std.specs.Prelude.{◌≡◌, ℕ, ◌+◌, ◌<◌, ◌≤◌, ◌^◌, List, [], ◌∷◌, length, take, drop, slice_set, replicate, All}
use Rattle.cov_types.specs.declared.var.Var.{Var}
use Rattle.design_state.specs.declared.state.Slot.{Slot}
use Rattle.circuit_run.specs.States.{State, VarWords, held}

-- the words of each variable
abbrev pub split : List Slot → List ℕ → State
split [] words = []
split (slot ∷ slots) words = record { width = slot.width; words = take slot.count words } ∷ split slots (drop slot.count words)

-- a variable's words begin at the base and are there; its width is 1 to 128, and its words fit
pub record IsLaid (base : ℕ) (slot : Slot) (words : List ℕ) : Type 0 where
  pub begins : slot.base ≡ base
  pub some : 1 ≤ slot.width
  pub most : slot.width ≤ 128
  pub enough : slot.count ≤ length words
  pub fit : All (λ n. n < 2 ^ slot.width) (take slot.count words)

-- and so for all variables, with no words left over
abbrev pub AreLaid : ℕ → List Slot → List ℕ → Type 0
AreLaid base [] words = words ≡ []
AreLaid base (slot ∷ slots) words = IsLaid base slot words × AreLaid (base + slot.count) slots (drop slot.count words)

-- what a variable holds, whose words stand from a place on
abbrev pub words_at : List ℕ → ℕ → Slot → VarWords
words_at words at slot = record { width = slot.width; words = take slot.count (drop at words) }

-- A variable's words stand from a place on: it holds these, and a word that is set there is set in the variable alone.
pub record Stands (base : ℕ) (slots : List Slot) (words : List ℕ) (v at : ℕ) (slot : Slot) : Type 0 where
  pub holds : held (split slots words) v ≡ words_at words at slot
  pub some : 1 ≤ slot.width
  pub most : slot.width ≤ 128
  pub within : at + slot.count ≤ length words
  pub fit : All (λ n. n < 2 ^ slot.width) (take slot.count (drop at words))
  pub sets : (w x : ℕ) → w < slot.count → split slots (slice_set words (at + w) x)
      ≡ slice_set (split slots words) v (record { width = slot.width; words = slice_set (take slot.count (drop at words)) w x })
  pub stays : (w x : ℕ) → w < slot.count → x < 2 ^ slot.width → AreLaid base slots (slice_set words (at + w) x)

-- what a variable holds at the start
abbrev pub start_of : Var → VarWords
start_of v = record { width = v.width; words = replicate v.words v.start }
