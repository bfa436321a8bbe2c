-- What each process of a design reads, and whether it differs between two states.
use Rattle.std.specs.Prelude.{◌≡◌, ◌≢◌, ℕ, ◌<◌, ◌≤◌, Bool, false, List, [], length, slice_index_or, All, IsTrue}
use Rattle.design_tree.specs.declared.design.Design.{Design}
use Rattle.circuit_run.specs.States.{State, Bit, bit, held}
use Rattle.circuit_run.specs.Kinds.{settles}
use Rattle.design_meaning.specs.States.{IsBitOf, IsStateOf}
use Rattle.design_meaning.specs.Processes.{kind_of}
use Rattle.design_meaning.specs.Reach.{reads_bit}
use Rattle.flow_order.specs.declared.mask.WordMask.{WordMask}
use Rattle.flow_order.specs.Masks.{mask_has, is_read}

-- processes in an order, and what each process reads, by its number
pub record OrderOf : Type 0 where
  pub processes : List ℕ
  pub reads : List (List WordMask)

abbrev pub reads_for : OrderOf → ℕ → List WordMask
reads_for order p = slice_index_or order.reads p []

-- a state has the words of a mask; of several
pub record IsWithin (s : State) (m : WordMask) : Type 0 where
  pub of_variable : m.var < length s
  pub of_words : m.word_end ≤ length (held s m.var).words

abbrev pub AreWithin : State → List WordMask → Type 0
AreWithin s reads = All (IsWithin s) reads

-- two states have as many variables, and of each as many words
pub record SameShape (s t : State) : Type 0 where
  pub variables : length s ≡ length t
  pub words : (v : ℕ) → v < length s → length (held s v).words ≡ length (held t v).words

-- a bit that is read differs in two states
abbrev pub HasChanged : List WordMask → State → State → Type 0
HasChanged reads s t = (b : Bit) × IsTrue (is_read reads b) × (bit s b ≢ bit t b)

-- a bit of one mask differs
abbrev pub MaskHasChanged : WordMask → State → State → Type 0
MaskHasChanged m s t = (b : Bit) × IsTrue (mask_has m b) × (bit s b ≢ bit t b)

-- Of each assignment and combinational process the masks have the bits that it reads, and no other of the design. Of each
-- other process there are none. All lie within each state of the design.
pub record AreReadsOf (d : Design) (reads : List (List WordMask)) : Type 0 where
  pub as_many : length reads ≡ length d.processes
  pub read : (p : ℕ) (b : Bit) → IsTrue (settles (kind_of d p)) → IsBitOf d b → is_read (slice_index_or reads p []) b ≡ reads_bit d p b
  pub idle : (p : ℕ) → settles (kind_of d p) ≡ false → slice_index_or reads p [] ≡ []
  pub within : (s : State) (p : ℕ) → IsStateOf d s → AreWithin s (slice_index_or reads p [])
