-- Runs one after the other: along an order, and at the edge.
use Rattle.std.specs.Prelude.{◌≡◌, ℕ, ◌<◌, false, IsTrue}
use Rattle.design_tree.specs.declared.design.Design.{Design}
use Rattle.circuit_run.specs.States.{State, Bit, bit}
use Rattle.design_meaning.specs.States.{IsBitOf}
use Rattle.circuit_run.specs.Kinds.{runs_at_edge}
use Rattle.design_meaning.specs.Processes.{kind_of}
use Rattle.design_meaning.specs.Reach.{reads_bit, drives, sets_var}
use Rattle.design_meaning.specs.RunLaws.{after}

-- two states agree on what a process reads, and on what it drives
pub record IsIdle (d : Design) (p : ℕ) (s t : State) : Type 0 where
  pub read : (b : Bit) → IsBitOf d b → IsTrue (reads_bit d p b) → bit t b ≡ bit s b
  pub driven : (b : Bit) → IsBitOf d b → IsTrue (drives d p b) → bit t b ≡ bit s b

-- a fact of each clocked process and cover with a number below n
abbrev pub EachAtEdge : Design → ℕ → (ℕ → Type 0) → Type 0
EachAtEdge d n P = (p : ℕ) → p < n → IsTrue (runs_at_edge (kind_of d p)) → P p

-- After runs of the first n processes, where they run at the edge, one after the other, each bit is as the process leaves
-- it, run from the first state alone, that assigns its variable at once. A bit is as it was where none assigns its
-- variable at once, or none drives it.
pub record AreBlocked (d : Design) (n : ℕ) (s t : State) : Type 0 where
  pub set : (b : Bit) → IsBitOf d b → EachAtEdge d n (λ p. IsTrue (sets_var d p b.var) → bit t b ≡ bit (after d p s) b)
  pub kept : (b : Bit) → IsBitOf d b → EachAtEdge d n (λ p. sets_var d p b.var ≡ false) → bit t b ≡ bit s b
  pub untouched : (b : Bit) → IsBitOf d b → EachAtEdge d n (λ p. drives d p b ≡ false) → bit t b ≡ bit s b
