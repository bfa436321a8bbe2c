-- Private: walks over the steps of a process, with the bits that aren't surely written yet.
use Rattle.std.specs.Prelude.{◌≡◌, ℕ, Bool, true, false, not, ◌&&◌, ◌||◌, Option, List, [], ◌∷◌, take, drop}
use Rattle.std.specs.List.{list_any, list_all}
use Rattle.cov_types.specs.declared.var.Var.{Var}
use Rattle.design_tree.specs.declared.step.Step.{Step}
use Rattle.circuit_run.specs.States.{Bit}
use Rattle.design_meaning.specs.Paths.{paths_of_step}
use Rattle.design_meaning.specs.Reach.{event_writes, read_first}
use Rattle.flow_marks.specs.declared.span.Span.{Span}
use Rattle.flow_marks.specs.declared.trail.Spot.{Spot}
use Rattle.flow_marks.specs.Slots.{IsIn, slots_from}
use Rattle.flow_marks.specs.Sets.{MarkSet, has}
use Rattle.flow_marks.specs.Takes.{AreIn, Takes, is_listed}
use Rattle.flow_least.specs.Least.{IsLeastOf, lesser_of}
use Rattle.flow_least.specs.Met.{HasMet}
use Rattle.flow_paths.specs.declared.walk.Walk.{Walk}

-- ---- steps

-- a step surely writes the bit; it reads the bit on some path before it is surely written
abbrev pub always_step : Step → Bit → Bool
always_step x b = list_all (list_any (event_writes b)) (paths_of_step x)

abbrev pub early_step : Step → Bit → Bool
early_step x b = list_any (read_first b) (paths_of_step x)

-- the same of steps one after the other
abbrev pub always_steps : List Step → Bit → Bool
always_steps xs b = list_any (λ x. always_step x b) xs

abbrev pub early_steps : List Step → Bit → Bool
early_steps [] b = false
early_steps (x ∷ xs) b = early_step x b || (not (always_step x b) && early_steps xs b)

-- ---- walks

-- a set has no bits
abbrev pub IsEmpty : MarkSet → Type 0
IsEmpty m = (b : Bit) → IsIn m.slots b → has m b ≡ false

pub record IsReady (vars : List Var) (w : Walk) : Type 0 where
  pub left : w.left.slots ≡ slots_from 0 0 vars
  pub spare : w.spare.slots ≡ slots_from 0 0 vars
  pub empty : IsEmpty w.spare
  pub trail : AreIn w.left.slots w.trail.items

-- a bit of the variable is left, and is of some kind
pub record IsUnwritten (m : MarkSet) (kind : Bit → Bool) (v : ℕ) : Type 0 where
  pub bit : Bit
  pub of_variable : bit.var ≡ v
  pub here : IsIn m.slots bit
  pub is_left : has m bit ≡ true
  pub of_kind : kind bit ≡ true

-- the least of some kind is joined to what was found before
pub record IsJoined (old new : Option ℕ) (P : ℕ → Type 0) : Type 0 where
  pub found : Option ℕ
  pub joined : new ≡ lesser_of old found
  pub least : IsLeastOf P found

-- what is read in spans was noted, and nothing else happened
pub record IsNoted (old new : Walk) (spans : List Span) : Type 0 where
  pub left : new.left ≡ old.left
  pub spare : new.spare ≡ old.spare
  pub trail : new.trail.items ≡ old.trail.items
  pub reads : IsJoined old.early new.early (HasMet old.left spans)

-- bits of one kind were taken, and those of another kind were read before
pub record Passes (old new : Walk) (writes early : Bit → Bool) : Type 0 where
  pub takes : Takes old.left new.left old.trail.items new.trail.items writes
  pub slots : new.spare.slots ≡ old.spare.slots
  pub empty : IsEmpty new.spare
  pub reads : IsJoined old.early new.early (IsUnwritten old.left early)

-- bits of one kind stand in a list, of those that are left, and those of another kind were read before
pub record Branches (old new : Walk) (taken : List Spot) (writes early : Bit → Bool) : Type 0 where
  pub left_slots : new.left.slots ≡ old.left.slots
  pub left : (b : Bit) → IsIn old.left.slots b → has new.left b ≡ has old.left b
  pub trail : new.trail.items ≡ old.trail.items
  pub slots : new.spare.slots ≡ old.spare.slots
  pub empty : IsEmpty new.spare
  pub inside : AreIn old.left.slots taken
  pub gone : (b : Bit) → IsIn old.left.slots b → has old.left b ≡ true → is_listed taken b ≡ writes b
  pub reads : IsJoined old.early new.early (IsUnwritten old.left early)

-- the same, of the bits of a list alone
pub record ArmBranches (old new : Walk) (first taken : List Spot) (writes early : Bit → Bool) : Type 0 where
  pub branches : Branches old new taken (λ b. is_listed first b && writes b) early

-- ---- parts of it

-- what was taken since the trail had some length is back
pub record IsBack (old new : Walk) (from : ℕ) (taken : List Spot) : Type 0 where
  pub taken_is : taken ≡ drop from old.trail.items
  pub left_slots : new.left.slots ≡ old.left.slots
  pub left : (b : Bit) → IsIn old.left.slots b → has new.left b ≡ (is_listed taken b || has old.left b)
  pub trail : new.trail.items ≡ take from old.trail.items
  pub spare : new.spare ≡ old.spare
  pub early : new.early ≡ old.early

-- a list has the bits that stand in two others; a set was used for it
pub record IsCommon (old new : MarkSet) (one other both : List Spot) : Type 0 where
  pub slots : new.slots ≡ old.slots
  pub empty : IsEmpty new
  pub inside : AreIn old.slots both
  pub bits : (b : Bit) → IsIn old.slots b → is_listed both b ≡ (is_listed one b && is_listed other b)

-- the bits of a list were taken, and nothing else happened
pub record TakesAll (old new : Walk) (spots : List Spot) : Type 0 where
  pub takes : Takes old.left new.left old.trail.items new.trail.items (λ b. is_listed spots b)
  pub spare : new.spare ≡ old.spare
  pub early : new.early ≡ old.early
