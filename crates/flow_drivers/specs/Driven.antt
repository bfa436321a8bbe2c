-- Private: the bits that processes drive, by the kinds of the processes.
use Rattle.std.specs.Prelude.{◌≡◌, ℕ, Bool, true, false, not, ◌&&◌, ◌||◌, List, take}
use Rattle.std.specs.List.{list_any}
use Rattle.cov_types.specs.declared.var.Var.{Var}
use Rattle.cov_types.specs.declared.kind.ProcessKind.{ProcessKind}
use Rattle.cov_types.specs.declared.kind.ProcessKind.TheVariants as kind
use Rattle.design_tree.specs.declared.design.Process.{Process}
use Rattle.design_tree.specs.declared.design.Design.{Design}
use Rattle.circuit_run.specs.States.{Bit, IsBitOf}
use Rattle.circuit_run.specs.Kinds.{settles, is_initial}
use Rattle.design_meaning.specs.Reach.{drives_of}
use Rattle.flow_marks.specs.Slots.{slots_from, IsIn}
use Rattle.flow_marks.specs.Sets.{MarkSet, has}
use Rattle.flow_uses.specs.declared.uses.Uses.{Uses}
use Rattle.flow_least.specs.Met.{AreMarked, is_driven}
use Rattle.flow_drivers.specs.declared.drivers.Driven.{Driven}

-- a process of one of these kinds before the one of that number drives the bit
abbrev pub driven_before : (ProcessKind → Bool) → Design → ℕ → Bit → Bool
driven_before test d p b = list_any (λ (process : Process). test process.kind && drives_of process.body b) (take p d.processes)

abbrev pub any_kind : ProcessKind → Bool
any_kind k = true

abbrev pub lasts : ProcessKind → Bool
lasts k = not (is_initial k)

-- the set that has what a process of this kind may not drive, and the kinds of those who drive that
abbrev pub asked_of : ProcessKind → Driven → MarkSet
asked_of kind.Assign x = x.by_any
asked_of kind.Comb x = x.by_any
asked_of kind.Clocked x = x.by_lasting
asked_of kind.Initial x = x.by_settling
asked_of kind.Cover x = x.by_lasting

abbrev pub asked_kinds : ProcessKind → ProcessKind → Bool
asked_kinds kind.Assign = any_kind
asked_kinds kind.Comb = any_kind
asked_kinds kind.Clocked = lasts
asked_kinds kind.Initial = settles
asked_kinds kind.Cover = lasts

-- one set has no bits of these variables
pub record IsNone (vars : List Var) (m : MarkSet) : Type 0 where
  pub slots : m.slots ≡ slots_from 0 0 vars
  pub none : (b : Bit) → has m b ≡ false

pub record AreNone (vars : List Var) (x : Driven) : Type 0 where
  pub by_any : IsNone vars x.by_any
  pub by_lasting : IsNone vars x.by_lasting
  pub by_settling : IsNone vars x.by_settling

-- what a process writes lies inside the variables of the sets
pub record HasMarked (x : Driven) (u : Uses) : Type 0 where
  pub by_any : AreMarked x.by_any.slots u
  pub by_lasting : AreMarked x.by_lasting.slots u
  pub by_settling : AreMarked x.by_settling.slots u

-- one set has grown by what a process drives, where that is wanted
pub record IsTaken (old new : MarkSet) (wanted : Bool) (u : Uses) : Type 0 where
  pub slots : new.slots ≡ old.slots
  pub bits : (b : Bit) → IsIn old.slots b → has new b ≡ ((wanted && is_driven u b) || has old b)

pub record AreTaken (old new : Driven) (k : ProcessKind) (u : Uses) : Type 0 where
  pub by_any : IsTaken old.by_any new.by_any (any_kind k) u
  pub by_lasting : IsTaken old.by_lasting new.by_lasting (lasts k) u
  pub by_settling : IsTaken old.by_settling new.by_settling (settles k) u

-- one set has the bits that processes of some kinds drive, of those before the one of that number
pub record IsBefore (d : Design) (p : ℕ) (test : ProcessKind → Bool) (m : MarkSet) : Type 0 where
  pub slots : m.slots ≡ slots_from 0 0 d.vars
  pub bits : (b : Bit) → IsBitOf d.vars b → has m b ≡ driven_before test d p b

pub record AreBefore (d : Design) (p : ℕ) (x : Driven) : Type 0 where
  pub by_any : IsBefore d p any_kind x.by_any
  pub by_lasting : IsBefore d p lasts x.by_lasting
  pub by_settling : IsBefore d p settles x.by_settling
