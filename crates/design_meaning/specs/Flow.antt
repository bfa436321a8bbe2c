-- The flow conditions: under them a design has one settled state for all registers and inputs, and no race at the edge.
-- Each is a relation of a design, a process and a variable for which the condition fails. This project's own; the
-- synthesizable style that lint tools ask for.
use Rattle.std.specs.Prelude.{◌≡◌, ◌≢◌, ℕ, ◌<◌, ◌⊎◌, Bool, false, not, ◌&&◌, ◌||◌, List, [], ◌∷◌, Contains, IsTrue}
use Rattle.cov_types.specs.declared.kind.ProcessKind.{ProcessKind}
use Rattle.design_tree.specs.declared.design.Design.{Design}
use Rattle.circuit_run.specs.States.{Bit}
use Rattle.design_meaning.specs.States.{IsBitOf}
use Rattle.circuit_run.specs.Kinds.{settles, is_assign, is_comb, is_clocked, is_initial}
use Rattle.design_meaning.specs.Processes.{kind_of}
use Rattle.design_meaning.specs.Reach.{reads_bit, drives, sets_var, defers_var, always_writes, reads_early}

abbrev pub Condition : Type 1
Condition = Design → ℕ → ℕ → Type 0

-- two processes may not drive one bit: neither is initial, or one of them is an assignment or combinational
abbrev pub clash : ProcessKind → ProcessKind → Bool
clash a b = (not (is_initial a) && not (is_initial b)) || settles a || settles b

-- the process and one with a lesser number drive a bit of the variable
pub record HasTwoDrivers (d : Design) (p v : ℕ) : Type 0 where
  pub other : ℕ
  pub less : other < p
  pub kinds : IsTrue (clash (kind_of d p) (kind_of d other))
  pub shared : Bit
  pub of_variable : shared.var ≡ v
  pub here : IsBitOf d shared
  pub driven : IsTrue (drives d p shared)
  pub by_other : IsTrue (drives d other shared)

-- a combinational process has a nonblocking assignment, or a clocked one assigns a variable both ways
pub record IsMixed (d : Design) (p v : ℕ) : Type 0 where
  pub deferred : IsTrue (defers_var d p v)
  pub kinds : IsTrue (is_comb (kind_of d p)) ⊎ (IsTrue (is_clocked (kind_of d p)) × IsTrue (sets_var d p v))

-- another process that isn't initial reads a bit of the variable, or writes it
pub record IsShared (d : Design) (p v other : ℕ) : Type 0 where
  pub apart : other ≢ p
  pub kinds : is_initial (kind_of d other) ≡ false
  pub touched : ((b : Bit) × IsBitOf d b × (b.var ≡ v) × IsTrue (reads_bit d other b))
      ⊎ IsTrue (sets_var d other v || defers_var d other v)

-- a clocked process has a blocking assignment to a variable that another process sees, or that is an output
pub record IsNotPrivate (d : Design) (p v : ℕ) : Type 0 where
  pub kinds : IsTrue (is_clocked (kind_of d p))
  pub assigned : IsTrue (sets_var d p v)
  pub seen : ((other : ℕ) × IsShared d p v other) ⊎ Contains d.outputs v

-- an assignment or combinational process drives a bit of the variable and leaves it unwritten on some path
pub record IsLatch (d : Design) (p v : ℕ) : Type 0 where
  pub kinds : IsTrue (settles (kind_of d p))
  pub kept : Bit
  pub of_variable : kept.var ≡ v
  pub here : IsBitOf d kept
  pub driven : IsTrue (drives d p kept)
  pub unwritten : always_writes d p kept ≡ false

-- a combinational process drives a bit of the variable and reads it on some path before it is written there
pub record IsReadBeforeWrite (d : Design) (p v : ℕ) : Type 0 where
  pub kinds : IsTrue (is_comb (kind_of d p))
  pub early : Bit
  pub of_variable : early.var ≡ v
  pub here : IsBitOf d early
  pub driven : IsTrue (drives d p early)
  pub read : IsTrue (reads_early d p early)

-- ---- loops

-- Among assignments and combinational processes, p drives a bit that q reads. A combinational process doesn't lead to itself.
pub record Leads (d : Design) (p q : ℕ) : Type 0 where
  pub from : IsTrue (settles (kind_of d p))
  pub to : IsTrue (settles (kind_of d q))
  pub apart : (p ≢ q) ⊎ IsTrue (is_assign (kind_of d p))
  pub along : Bit
  pub here : IsBitOf d along
  pub driven : IsTrue (drives d p along)
  pub read : IsTrue (reads_bit d q along)

-- each process of the list leads to the next, the one before the list to its first, and its last to the end
abbrev pub Chain : Design → ℕ → List ℕ → ℕ → Type 0
Chain d p [] end = Leads d p end
Chain d p (q ∷ qs) end = Leads d p q × Chain d q qs end

-- the processes of the list, which begins with p, lead round in a circle
abbrev pub IsCycleFrom : Design → ℕ → List ℕ → Type 0
IsCycleFrom d p [] = ⊥
IsCycleFrom d p (q ∷ qs) = (q ≡ p) × Chain d p qs p

-- the process lies on a circle
abbrev pub IsOnCycle : Design → ℕ → Type 0
IsOnCycle d p = (cycle : List ℕ) × IsCycleFrom d p cycle
