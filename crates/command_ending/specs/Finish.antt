-- Private: output and stores, which come last.
use Rattle.std.specs.Prelude.{◌≡◌, ℕ, List, Contains, map}
use Rattle.cov_port.specs.Causes.{Rose, Both}
use Rattle.cov_port.specs.Files.{StoresRose}
use Rattle.cov_port.specs.Sinks.{PutsAll, PutsPart}
use Rattle.command_ending.specs.ErrorLines.{store_line}
use Rattle.command_ending.specs.World.{World, IsUnharmed, StoresAll, StoresFront}
use Rattle.command_ending.specs.declared.ending.Ending.{Ending}
use Rattle.command_ending.specs.declared.ending.Ending.TheVariants as ending
use Rattle.command_ending.specs.declared.status.Status.TheVariants.{Fault}

-- The output was put and the stores were made; or the first call that failed ended that.
pub data IsFinish (out : List ℕ) (stores : List (List ℕ × List ℕ)) (old new : World) : Ending → Type 0 where
  all_done : IsUnharmed old new → Both (PutsAll out) old.written new.written → Both (StoresAll stores) old.held new.held
      → IsFinish out stores old new ending.Done
  put_failed : Rose old.put_faults new.put_faults → new.faults ≡ old.faults → new.held ≡ old.held
      → Both (PutsPart out) old.written new.written → IsFinish out stores old new ending.OutputFailed
  store_failed : (name line : List ℕ) → Contains (map (λ (s : List ℕ × List ℕ). s.0) stores) name → line ≡ store_line name
      → StoresRose old.faults new.faults → new.put_faults ≡ old.put_faults → Both (PutsAll out) old.written new.written
      → Both (StoresFront name stores) old.held new.held → IsFinish out stores old new (ending.Refused Fault line)
