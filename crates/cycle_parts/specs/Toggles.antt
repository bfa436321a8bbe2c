-- Toggle entries by the words that their bits are of, and by their variables.
use Rattle.std.specs.Prelude.{◌≡◌, ℕ, ◌<◌, ◌≤◌, List, ◌==◌, not, filter, length, map, slice_index_or}
use Rattle.std.specs.Int.{bit_at}
use Rattle.design_tree.specs.declared.instrumented.ToggleEntry.{ToggleEntry}

-- past the last there is none
abbrev pub no_entry : ToggleEntry
no_entry = record { var = 0; word = 0; bit = 0; counter = 0 }

abbrev pub entry_at : List ToggleEntry → ℕ → ToggleEntry
entry_at entries k = slice_index_or entries k no_entry

-- the bits of two entries are of one word of one variable
pub record AreOfOneWord (a b : ToggleEntry) : Type 0 where
  pub var : a.var ≡ b.var
  pub word : a.word ≡ b.word

-- the bits of entries ascend
abbrev pub DoBitsAscend : List ToggleEntry → Type 0
DoBitsAscend entries = (i j : ℕ) → i < j → j < length entries → (entry_at entries i).bit < (entry_at entries j).bit

-- the counters of the entries whose bit differs in two values of their word
abbrev pub differing : ℕ → ℕ → List ToggleEntry → List ℕ
differing was is entries = map (λ t. t.counter) (filter (λ t. not (bit_at was t.bit == bit_at is t.bit)) entries)

-- for each variable the number of entries of the variables before it
pub record AreFirsts (vars : ℕ) (entries : List ToggleEntry) (firsts : List ℕ) : Type 0 where
  pub as_many : length firsts ≡ vars
  pub within : (v : ℕ) → slice_index_or firsts v 0 ≤ length entries
  pub below : (v k : ℕ) → v < vars → k < slice_index_or firsts v 0 → (entry_at entries k).var < v
  pub from : (v k : ℕ) → v < vars → slice_index_or firsts v 0 ≤ k → k < length entries → v ≤ (entry_at entries k).var
