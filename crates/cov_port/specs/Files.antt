-- What files by name mean.
use Rattle.std.specs.Prelude.{◌≡◌, ℕ, ◌<◌, ◌≤◌, Bool, true, false, List, [], ◌++◌, length, take, drop, Option, None, Some, Result, OnOk, OnErr, IsErr, is_none}
use Rattle.std.specs.Prelude.{if◌then◌else◌, ◌⊎◌}
use Rattle.std.specs.Str.{bytes_eq}
use Rattle.cov_port.specs.Causes.{Rose, IsQuiet}

-- what each name holds; a name that is not held has nothing
abbrev pub Names : Type 0
Names = List ℕ → Option (List ℕ)

-- how often each call has failed
pub record FileFaults : Type 0 where
  pub opens : ℕ
  pub reads : ℕ
  pub stores : ℕ

-- whether the files are told and have no such name
abbrev pub lacks : Option Names → List ℕ → Bool
lacks None name = false
lacks (Some names) name = is_none (names name)

-- the cause of what `open` answers: it fails with its number raised, or, with no number raised,
-- exactly where the files are told and lack the name
pub record HasOpenCause {T E : Type 0} (absent : Bool) (before now : ℕ) (result : Result T E) : Type 0 where
  pub later : before ≤ now
  pub kept : OnOk result (now ≡ before)
  pub failed : OnErr result (absent ≡ false → Rose before now)
  pub absent_fails : absent ≡ true → IsErr result
  pub absent_kept : absent ≡ true → now ≡ before

-- what is left of a file that was opened
abbrev pub Opens : Option Names → List ℕ → Option (List ℕ) → Type 0
Opens None name left = Unit {0}
Opens (Some names) name left = left ≡ names name

-- a read of n bytes into buf takes them off what was left, and gives none only at the end
pub record ReadTakes (before : List ℕ) (after : Option (List ℕ)) (n : ℕ) (buf : List ℕ) : Type 0 where
  pub bytes : before ≡ take n buf ++ drop n before
  pub left : after ≡ Some (drop n before)
  pub ends : n ≡ 0 → 0 < length buf → before ≡ []

-- new is old with these bytes at the name
abbrev pub Stores : List ℕ → List ℕ → Names → Names → Type 0
Stores name bytes old new = (q : List ℕ) → new q ≡ (if bytes_eq q name then Some bytes else old q)

-- new is old but at the name, where it has the first bytes or what stood there
abbrev pub StoresPart : List ℕ → List ℕ → Names → Names → Type 0
StoresPart name bytes old new = ((q : List ℕ) → bytes_eq q name ≡ false → new q ≡ old q)
    × ((new name ≡ old name) ⊎ ((k : ℕ) × (new name ≡ Some (take k bytes))))

-- no number of the three rose
pub record AllQuiet (before now : FileFaults) : Type 0 where
  pub opens : IsQuiet before.opens now.opens
  pub reads : IsQuiet before.reads now.reads
  pub stores : IsQuiet before.stores now.stores

-- no number of the three fell
pub record Grows (before now : FileFaults) : Type 0 where
  pub opens : before.opens ≤ now.opens
  pub reads : before.reads ≤ now.reads
  pub stores : before.stores ≤ now.stores

-- the number of `open` rose, and no other
pub record OpensRose (before now : FileFaults) : Type 0 where
  pub rose : Rose before.opens now.opens
  pub reads : now.reads ≡ before.reads
  pub stores : now.stores ≡ before.stores

-- the number of `read` rose, and no other
pub record ReadsRose (before now : FileFaults) : Type 0 where
  pub opens : now.opens ≡ before.opens
  pub rose : Rose before.reads now.reads
  pub stores : now.stores ≡ before.stores

-- the number of `store` rose, and no other
pub record StoresRose (before now : FileFaults) : Type 0 where
  pub opens : now.opens ≡ before.opens
  pub reads : now.reads ≡ before.reads
  pub rose : Rose before.stores now.stores
