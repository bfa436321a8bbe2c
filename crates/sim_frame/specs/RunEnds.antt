-- Private: the end of a run.
use Rattle.std.specs.Prelude.{◌≡◌, ℕ, Bool, true, false, List, Option}
use Rattle.cov_port.specs.Causes.{Both, Rose}
use Rattle.cov_port.specs.Files.{Stores, StoresPart, StoresRose}
use Rattle.cov_port.specs.Sinks.{FrontPut, PutsAll, PutsPart}
use Rattle.circuit_run.specs.Ends.{End, goes, finished, stopped}
use Rattle.command_ending.specs.ErrorLines.{store_line}
use Rattle.command_ending.specs.World.{IsUnharmed, World}
use Rattle.command_ending.specs.declared.ending.Ending.{Ending}
use Rattle.command_ending.specs.declared.ending.Ending.TheVariants as ending
use Rattle.command_ending.specs.declared.status.Status.TheVariants.{Fault}

-- whether a run was ended by `$stop`
abbrev pub is_stop : End → Bool
is_stop goes = false
is_stop finished = false
is_stop stopped = true

-- a `sim` whose data file is stored ends so, where `$stop` was executed or not
abbrev pub good_ending : Bool → Ending
good_ending false = ending.Done
good_ending true = ending.Stopped

-- Of this text all was put but what is kept, and nothing else was changed.
pub record IsKept (text kept : List ℕ) (old new : World) : Type 0 where
  pub held : new.held ≡ old.held
  pub unharmed : IsUnharmed old new
  pub output : Both (FrontPut text kept) old.written new.written

-- What was kept was put before this ending; or the put failed.
pub data IsPutBefore (good : Ending) (kept : List ℕ) (old new : Option (List ℕ)) (before now : ℕ) : Ending → Type 0 where
  all_put : now ≡ before → Both (PutsAll kept) old new → IsPutBefore good kept old new before now good
  part_put : Rose before now → Both (PutsPart kept) old new → IsPutBefore good kept old new before now ending.OutputFailed

-- What was kept was put, and then these bytes were stored at the name; or the first call that failed ended that.
pub data IsStored (good : Ending) (name kept bytes : List ℕ) (old new : World) : Ending → Type 0 where
  stored : IsUnharmed old new → Both (PutsAll kept) old.written new.written → Both (Stores name bytes) old.held new.held
      → IsStored good name kept bytes old new good
  unput : Rose old.put_faults new.put_faults → new.faults ≡ old.faults → new.held ≡ old.held → Both (PutsPart kept) old.written new.written
      → IsStored good name kept bytes old new ending.OutputFailed
  unstored : StoresRose old.faults new.faults → new.put_faults ≡ old.put_faults → Both (PutsAll kept) old.written new.written
      → Both (StoresPart name bytes) old.held new.held → IsStored good name kept bytes old new (ending.Refused Fault (store_line name))
