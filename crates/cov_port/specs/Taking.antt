-- A file read whole.
use Rattle.std.specs.Prelude.{◌≡◌, ℕ, Bool, true, false, List, [], ◌++◌, length, take, Option, None, Some, IfSome}
use Rattle.cov_port.specs.Files.{Names, FileFaults, OpensRose}

-- the text is the first n bytes of what the name holds, where that is told
abbrev pub IsFrontOf : Option Names → List ℕ → ℕ → List ℕ → Type 0
IsFrontOf None name n text = Unit {0}
IsFrontOf (Some names) name n text = (bytes : List ℕ) × (names name ≡ Some bytes) × (text ≡ take n bytes)

-- why a file could not be opened: the name is absent, and then no number changed, or the number of `open` rose
pub record CannotOpen (absent : Bool) (before now : FileFaults) : Type 0 where
  pub absent_kept : absent ≡ true → now ≡ before
  pub present_rose : absent ≡ false → OpensRose before now

-- one part of what was left went to the end of a list, and the rest is left; nothing goes only at the end
pub record TakesPart (left : List ℕ) (after : Option (List ℕ)) (old new : List ℕ) : Type 0 where
  pub part : List ℕ
  pub rest : List ℕ
  pub stays : after ≡ Some rest
  pub split : left ≡ part ++ rest
  pub moved : new ≡ old ++ part
  pub ends : length new ≡ length old → rest ≡ []

-- of what was left at first, these bytes were taken and the rest is left
abbrev pub HasTaken : Option (List ℕ) → Option (List ℕ) → List ℕ → Type 0
HasTaken first now bytes = IfSome first (λ left. (rest : List ℕ) × (now ≡ Some rest) × (left ≡ bytes ++ rest))
