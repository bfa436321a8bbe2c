-- How the bits of all variables stand in one list: those of each variable behind those of the one before, word by word.
use Rattle.std.specs.Prelude.{◌≡◌, ℕ, zero, suc, ◌+◌, ◌*◌, ◌<◌, ◌≤◌, ◌==◌, ◌&&◌, ◌⊎◌, Bool, All, nat_le, nat_lt, List, [], ◌∷◌, length, slice_index_or}
use Rattle.cov_types.specs.declared.var.Var.{Var}
use Rattle.circuit_run.specs.States.{Bit}
use Rattle.flow_marks.specs.declared.slot.Slot.{Slot}
use Rattle.flow_marks.specs.declared.span.Span.{Span}

-- the sum over the first so many
abbrev pub before : {X : Type 0} → (X → ℕ) → List X → ℕ → ℕ
before f [] n = 0
before f (x ∷ xs) zero = 0
before f (x ∷ xs) (suc n) = f x + before f xs n

abbrev pub no_slot : Slot
no_slot = record { bit = 0; column = 0; words = 0; width = 0 }

abbrev pub slot_of : List Slot → ℕ → Slot
slot_of slots v = slice_index_or slots v no_slot

-- how many bits and columns a variable has
abbrev pub size : Slot → ℕ
size s = s.words * s.width

abbrev pub wide : Slot → ℕ
wide s = s.width

-- the slots stand one behind the other
pub record AreLaid (slots : List Slot) : Type 0 where
  pub bit : (v : ℕ) → v < length slots → (slot_of slots v).bit ≡ before size slots v
  pub column : (v : ℕ) → v < length slots → (slot_of slots v).column ≡ before wide slots v
  pub few : (v : ℕ) → v < length slots → (slot_of slots v).words ≤ 65536

-- a bit that one of the variables has
pub record IsIn (slots : List Slot) (b : Bit) : Type 0 where
  pub of_variable : b.var < length slots
  pub of_word : b.word < (slot_of slots b.var).words
  pub in_width : b.place < (slot_of slots b.var).width

-- the number of a bit among all
abbrev pub number : List Slot → Bit → ℕ
number slots b = let s = slot_of slots b.var in s.bit + (b.word * s.width + b.place)

-- two bits are one
abbrev pub is_same : Bit → Bit → Bool
is_same a b = a.var == b.var && a.word == b.word && a.place == b.place

-- a bit lies in a span
abbrev pub is_in : Span → Bit → Bool
is_in s b = s.var == b.var && nat_le s.word b.word && nat_lt b.word s.word_end && nat_le s.place b.place && nat_lt b.place s.place_end

-- the part of a span in one word, up to a place; the part at one place, up to a word; the part at the places up to one
abbrev pub row : Span → ℕ → ℕ → Span
row s w p = record s { word = w; word_end = w + 1; place_end = p }

abbrev pub column : Span → ℕ → ℕ → Span
column s p w = record s { word_end = w; place = p; place_end = p + 1 }

abbrev pub columns : Span → ℕ → Span
columns s p = record s { place_end = p }

-- a span of a variable lies inside it
pub record IsSpan (slots : List Slot) (s : Span) : Type 0 where
  pub of_variable : s.var < length slots
  pub words : s.word ≤ s.word_end
  pub places : s.place ≤ s.place_end
  pub of_words : s.word_end ≤ (slot_of slots s.var).words
  pub in_width : s.place_end ≤ (slot_of slots s.var).width

-- it has bits of one word, or of all
abbrev pub IsOneOrAll : List Slot → Span → Type 0
IsOneOrAll slots s = (s.word_end ≡ s.word + 1) ⊎ ((s.word ≡ 0) × (s.word_end ≡ (slot_of slots s.var).words))

-- the slots of variables, the first of which begins at so many bits and columns
abbrev pub slots_from : ℕ → ℕ → List Var → List Slot
slots_from bit column [] = []
slots_from bit column (v ∷ vs) =
    record { bit = bit; column = column; words = v.words; width = v.width } ∷ slots_from (bit + v.words * v.width) (column + v.width) vs

-- how many bits variables have
abbrev pub all_bits : List Var → ℕ
all_bits [] = 0
all_bits (v ∷ vs) = v.words * v.width + all_bits vs

abbrev pub all_columns : List Var → ℕ
all_columns [] = 0
all_columns (v ∷ vs) = v.width + all_columns vs

-- the variables have few enough bits, columns and words to be numbered
pub record AreFew (vars : List Var) : Type 0 where
  pub bits : all_bits vars ≤ 16777216
  pub columns : all_columns vars ≤ 16777216
  pub words : All (λ v. v.words ≤ 65536) vars

-- a layout of variables
pub record IsLayout (vars : List Var) (slots : List Slot) (bits columns : ℕ) : Type 0 where
  pub slots_are : slots ≡ slots_from 0 0 vars
  pub bits_are : bits ≡ all_bits vars
  pub columns_are : columns ≡ all_columns vars
