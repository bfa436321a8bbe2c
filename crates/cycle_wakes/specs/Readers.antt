-- Private: places in the rows of the variables that are read there.
use Rattle.std.specs.Prelude.{◌≡◌, ℕ, ◌<◌, ◌⊎◌, List, [], Contains, length, slice_index_or}
use Rattle.flow_marks.specs.declared.span.Span.{Span}
use Rattle.flow_uses.specs.declared.uses.Uses.{Uses}
use Rattle.flow_uses.specs.Uses.{no_uses}

abbrev pub no_span : Span
no_span = record { var = 0; word = 0; word_end = 0; place = 0; place_end = 0 }

-- the variable of a span by its number
abbrev pub var_at : List Span → ℕ → ℕ
var_at spans j = (slice_index_or spans j no_span).var

-- all spans are of so many variables
abbrev pub SpansIn : ℕ → List Span → Type 0
SpansIn vars spans = (j : ℕ) → j < length spans → var_at spans j < vars

-- one of the first n spans is of a variable
abbrev pub NamesVar : List Span → ℕ → ℕ → Type 0
NamesVar spans n v = (j : ℕ) × (j < n) × (var_at spans j ≡ v)

-- the row of a variable
abbrev pub places_of : List (List ℕ) → ℕ → List ℕ
places_of readers v = slice_index_or readers v []

-- what the process at a place of an order reads
abbrev pub reads_at : List Uses → List ℕ → ℕ → List Span
reads_at uses order k = (slice_index_or uses (slice_index_or order k 0) no_uses).reads

-- a place has come into the rows of the variables of the first n spans, and no other into any row
pub record HasPut (spans : List Span) (n place : ℕ) (old new : List (List ℕ)) : Type 0 where
  pub as_many : length new ≡ length old
  pub kept : (v k : ℕ) → Contains (places_of old v) k → Contains (places_of new v) k
  pub only : (v k : ℕ) → Contains (places_of new v) k → Contains (places_of old v) k ⊎ (k ≡ place)
  pub there : (j : ℕ) → j < n → Contains (places_of new (var_at spans j)) place

-- in the row of each variable are those of the first places at which it is read, and only such places
pub record AreReaders (vars : ℕ) (uses : List Uses) (order : List ℕ) (places : ℕ) (readers : List (List ℕ)) : Type 0 where
  pub as_many : length readers ≡ vars
  pub within : (v k : ℕ) → Contains (places_of readers v) k → k < places
  pub there : (k j : ℕ) → k < places → j < length (reads_at uses order k) → Contains (places_of readers (var_at (reads_at uses order k) j)) k
