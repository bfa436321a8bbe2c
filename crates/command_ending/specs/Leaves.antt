-- What a command leaves.
use Rattle.std.specs.Prelude.{◌≡◌, ◌⊎◌, ℕ, Bool, true, false, List, Option, IfSome, IsSomeAnd}
use Rattle.cov_port.specs.Causes.{Rose, IsQuiet, Both}
use Rattle.cov_port.specs.Files.{OpensRose, ReadsRose, StoresRose}
use Rattle.cov_port.specs.Sinks.{PutsAll, PutsPart}
use Rattle.command_ending.specs.Answer.{Answer, absent}
use Rattle.command_ending.specs.ErrorLines.{open_line, read_line, store_line, output_line}
use Rattle.command_ending.specs.Promise.{Promise, comes_first, IsLineOf}
use Rattle.command_ending.specs.World.{World, IsUnharmed, IsUntouched, StoresAll, StoresFront}
use Rattle.command_ending.specs.declared.status.Status.{Status}
use Rattle.command_ending.specs.declared.status.Status.TheVariants.{Fault, NoMemory}

-- This answer is what stands at the end.
pub record IsLeft (answer : Answer) (said : List ℕ) (old new : World) (ended : Status) : Type 0 where
  pub status : ended ≡ answer.status
  pub stores : Both (StoresAll answer.stores) old.held new.held
  pub output : Both (PutsAll answer.out) old.written new.written
  pub line : said ≡ answer.line

-- Nothing was stored, and of the output of an answer a part was put.
pub record HasPutPart (p : Promise) (old new : World) : Type 0 where
  pub held : new.held ≡ old.held
  pub out : IfSome old.held (λ names. (answer : Answer) × p.Answers names answer × Both (PutsPart answer.out) old.written new.written)

-- A file could not be opened or read: nothing was stored and nothing put out, or, by a command that prints before all is
-- read, a part of an answer's output was.
abbrev pub StopsBefore : Bool → Promise → World → World → Type 0
StopsBefore false p old new = IsUntouched old new
StopsBefore true p old new = IsUntouched old new ⊎ HasPutPart p old new

-- The output of an answer is there whole, and its stores up to the one at this name, which failed.
pub record HasStoredPart (p : Promise) (name : List ℕ) (old new : World) : Type 0 where
  pub answer : IfSome old.held (λ names. (answer : Answer) × p.Answers names answer
      × Both (PutsAll answer.out) old.written new.written × Both (StoresFront name answer.stores) old.held new.held)

-- Why a command ends with a fault, which line it says, and what stands then: it comes to a name that told
-- files lack, or exactly one of four numbers rose.
pub data IsFault (p : Promise) (said : List ℕ) (old new : World) : Type 0 where
  no_such_name : (name : List ℕ) → p.Reads name → said ≡ open_line name → IsUnharmed old new → IsUntouched old new
      → IsSomeAnd old.held (λ names. p.Answers names (absent name)) → IsFault p said old new
  open_failed : (name : List ℕ) → p.Reads name → said ≡ open_line name → OpensRose old.faults new.faults
      → new.put_faults ≡ old.put_faults → StopsBefore p.prints_early p old new → IsFault p said old new
  read_failed : (name : List ℕ) → p.Reads name → said ≡ read_line name → ReadsRose old.faults new.faults
      → new.put_faults ≡ old.put_faults → StopsBefore p.prints_early p old new → IsFault p said old new
  put_failed : said ≡ output_line → Rose old.put_faults new.put_faults
      → new.faults ≡ old.faults → HasPutPart p old new → IsFault p said old new
  store_failed : (name : List ℕ) → p.Stores name → said ≡ store_line name → StoresRose old.faults new.faults
      → new.put_faults ≡ old.put_faults → HasStoredPart p name old new → IsFault p said old new

-- What a command leaves: its status, the line that it says, and the world.
pub record Leaves (p : Promise) (said : List ℕ) (old new : World) (ended : Status) : Type 0 where
  -- an answer is what stands at the end, unless a call failed or memory was wanted
  pub answer : (ended ≡ Fault → ⊥) → (ended ≡ NoMemory → ⊥)
      → IfSome old.held (λ names. (answer : Answer) × p.Answers names answer × IsLeft answer said old new ended)
  -- where a call failed, it ends with a fault, and it ends so for no other reason than that and a name that isn't held
  pub unharmed : (ended ≡ Fault → ⊥) → IsUnharmed old new
  pub fault : ended ≡ Fault → IsFault p said old new
  -- a refusal that comes first leaves everything as it was, whatever the files hold
  pub untouched : comes_first p.prints_early ended ≡ true → IsUntouched old new
  -- whatever the files hold, the line is one of the status
  pub line : IsLineOf p.Refuses ended said

-- the line was put; or, where that failed, a part of it
pub record IsSaid (line : List ℕ) (before now : ℕ) (old new : Option (List ℕ)) : Type 0 where
  pub whole : IsQuiet before now → Both (PutsAll line) old new
  pub part : Both (PutsPart line) old new
