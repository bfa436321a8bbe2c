use Rattle.std.proofs.Common.{◌≡◌, ℕ, if◌then◌else◌, get_or, take}
use Rattle.flow_drivers.specs.Watching.{no_watch, with_process, has_read_var}
use Rattle.flow_drivers.proofs.watch.watch_read.Given as goal

abbrev pub invariant-loop-span : goal.invariant-loop-span
invariant-loop-span l = (v : ℕ) → get_or l.watches v no_watch
    ≡ (if has_read_var (take l.span-index l.spans) v then with_process (get_or l.initial.watches v no_watch) l.process else get_or l.initial.watches v no_watch)
