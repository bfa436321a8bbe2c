use Rattle.std.proofs.Common.{◌≡◌, take}
use Rattle.cov_port.specs.Causes.{Both}
use Rattle.command_ending.specs.World.{StoresAll}
use Rattle.command_ending.proofs.stores.store_each.Given as goal

abbrev pub invariant-stores : goal.invariant-stores
invariant-stores g l = record {
  made : Both (StoresAll (take l.number l.stores)) (g.F.Files.held l.initial.files) (g.F.Files.held l.files);
  faults : g.F.Files.faults l.files ≡ g.F.Files.faults l.initial.files;
}
