use Rattle.std.proofs.Common.{◌≡◌, ◌-◌, List, ℕ, None}
use Rattle.stimulus.specs.Lines.{StandsIn, heard_left}
use Rattle.stimulus.specs.Taking.{KeepsHeard}
use Rattle.stimulus.proofs.spoken_lines.SpokenLines.next_spoken.Given as goal

abbrev pub invariant-lines : goal.invariant-lines
invariant-lines g l = record {
  left : KeepsHeard (heard_left l.initial.self (g.F.Files.rest l.initial.files)) (heard_left l.self (g.F.Files.rest l.files));
  stands : (text : List ℕ) → StandsIn text l.initial.self (g.F.Files.rest l.initial.files) → StandsIn text l.self (g.F.Files.rest l.files);
  no_fault : l.self.cutter.fault ≡ None;
  held : g.F.Files.held l.files ≡ g.F.Files.held l.initial.files;
  same : g.F.Files.faults l.files ≡ g.F.Files.faults l.initial.files;
}

abbrev pub decreases-lines : goal.decreases-lines
decreases-lines g l = 1099511627776 - l.self.bytes
