-- What has changed in a cycle, as marks.
use Rattle.std.specs.Prelude.{◌≡◌, ℕ, ◌<◌, ◌≤◌, ◌*◌, List, All, IsTrue, length, slice_index_or}
use Rattle.circuit_run.specs.States.{State, held}
use Rattle.place_marks.specs.Marked.{is_marked}
use Rattle.cycle_wakes.specs.Wakes.{Wakes, readers_of}

-- marks of places in the order, and of variables
pub record Changes : Type 0 where
  pub places : List ℕ
  pub vars : List ℕ

-- the marks of the first n places of a list stand, and those of before
pub record HasMarked (old new places : List ℕ) (n : ℕ) : Type 0 where
  pub room : length new ≡ length old
  pub kept : (k : ℕ) → IsTrue (is_marked old k) → IsTrue (is_marked new k)
  pub there : (j : ℕ) → j < n → IsTrue (is_marked new (slice_index_or places j 0))

-- there is room for so many places and so many variables
pub record HasRoom (many_places many_vars : ℕ) (c : Changes) : Type 0 where
  pub places : many_places ≤ 64 * length c.places
  pub vars : many_vars ≤ 64 * length c.vars

-- there is room for all that can be noted
pub record HasRoomFor (w : Wakes) (c : Changes) : Type 0 where
  pub vars : length w.readers ≤ 64 * length c.vars
  pub places : (v : ℕ) → All (λ k. k < 64 * length c.places) (readers_of w v)

-- marks stay, and so does the room
pub record KeepsMarks (old new : Changes) : Type 0 where
  pub room_places : length new.places ≡ length old.places
  pub room_vars : length new.vars ≡ length old.vars
  pub places : (k : ℕ) → IsTrue (is_marked old.places k) → IsTrue (is_marked new.places k)
  pub vars : (v : ℕ) → IsTrue (is_marked old.vars v) → IsTrue (is_marked new.vars v)

-- a variable is marked, and so are the places of all that read it
pub record IsNoted (w : Wakes) (c : Changes) (v : ℕ) : Type 0 where
  pub marked : IsTrue (is_marked c.vars v)
  pub woken : All (λ k. IsTrue (is_marked c.places k)) (readers_of w v)

-- a variable is the same in two states
abbrev pub IsQuiet : State → State → ℕ → Type 0
IsQuiet now before v = held now v ≡ held before v
