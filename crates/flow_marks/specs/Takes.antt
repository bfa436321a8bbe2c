-- Bits that are taken out of a set, and the trail on which they are kept.
use Rattle.std.specs.Prelude.{◌≡◌, Bool, true, not, ◌&&◌, List, ◌++◌, All}
use Rattle.std.specs.List.{list_any}
use Rattle.circuit_run.specs.States.{Bit}
use Rattle.flow_marks.specs.declared.slot.Slot.{Slot}
use Rattle.flow_marks.specs.declared.trail.Spot.{Spot}
use Rattle.flow_marks.specs.Slots.{IsIn, is_same}
use Rattle.flow_marks.specs.Sets.{MarkSet, has}

abbrev pub spot_bit : Spot → Bit
spot_bit s = record { var = s.var; word = s.word; place = s.place }

-- a bit stands in a list
abbrev pub is_listed : List Spot → Bit → Bool
is_listed spots b = list_any (λ s. is_same (spot_bit s) b) spots

abbrev pub AreIn : List Slot → List Spot → Type 0
AreIn slots spots = All (λ s. IsIn slots (spot_bit s)) spots

-- The bits of some kind are taken out of the set. The trail has grown by exactly those that were in it.
pub record Takes (old new : MarkSet) (trail longer : List Spot) (gone : Bit → Bool) : Type 0 where
  pub slots : new.slots ≡ old.slots
  pub bits : (b : Bit) → IsIn old.slots b → has new b ≡ (has old b && not (gone b))
  pub more : List Spot
  pub trails : longer ≡ trail ++ more
  pub inside : AreIn old.slots more
  pub left : (b : Bit) → IsIn old.slots b → has new b ≡ (has old b && not (is_listed more b))
  pub were : (b : Bit) → IsIn old.slots b → is_listed more b ≡ true → has old b ≡ true
