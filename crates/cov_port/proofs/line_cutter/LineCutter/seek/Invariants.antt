use Rattle.std.proofs.Common.{◌≡◌, ◌≤◌, ◌-◌, length, take, true}
use Rattle.cov_port.specs.Cutting.{KeepsLeft, has_no_feed, left_of}
use Rattle.cov_port.proofs.line_cutter.LineCutter.seek.Given as goal

abbrev pub invariant-fillings : goal.invariant-fillings
invariant-fillings g l = record {
  within : l.clear ≤ length l.self.ahead;
  clear : has_no_feed (take l.clear l.self.ahead) ≡ true;
  left : KeepsLeft (left_of l.initial.self (g.F.Files.rest l.initial.files)) (left_of l.self (g.F.Files.rest l.files));
  fault : l.self.fault ≡ l.initial.self.fault;
  held : g.F.Files.held l.files ≡ g.F.Files.held l.initial.files;
  same : g.F.Files.faults l.files ≡ g.F.Files.faults l.initial.files;
}

abbrev pub decreases-fillings : goal.decreases-fillings
decreases-fillings g l = 65536 - length l.self.ahead
