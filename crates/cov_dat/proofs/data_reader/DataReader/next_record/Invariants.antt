use Rattle.std.proofs.Common.{◌≡◌, ◌-◌, ◌≤◌, List, ℕ, None}
use Rattle.cov_dat.specs.Streaming.{StandsIn}
use Rattle.cov_dat.specs.Taking.{KeepsReading, reading_here}
use Rattle.cov_dat.proofs.data_reader.DataReader.next_record.Given as goal

abbrev pub invariant-lines : goal.invariant-lines
invariant-lines g l = record {
  left : KeepsReading (reading_here l.initial.self (g.F.Files.rest l.initial.files)) (reading_here l.self (g.F.Files.rest l.files));
  stands : (text : List ℕ) → StandsIn text l.initial.self (g.F.Files.rest l.initial.files) → StandsIn text l.self (g.F.Files.rest l.files);
  grown : l.initial.self.bytes ≤ l.self.bytes;
  no_fault : l.self.fault ≡ None;
  held : g.F.Files.held l.files ≡ g.F.Files.held l.initial.files;
  same : g.F.Files.faults l.files ≡ g.F.Files.faults l.initial.files;
}

abbrev pub decreases-lines : goal.decreases-lines
decreases-lines g l = 4294967296 - l.self.bytes
