use Rattle.std.proofs.Common.{◌≡◌, ◌+◌, vec_len}
use Rattle.cov_port.specs.Taking.{HasTaken}
use Rattle.cov_port.proofs.take.take_open.Given as goal

abbrev pub invariant-pieces : goal.invariant-pieces
invariant-pieces g l = record {
  taken : HasTaken (g.F.Files.rest l.initial.files) (g.F.Files.rest l.files) l.bytes.items;
  count : vec_len l.bytes + l.more ≡ l.most;
  held : g.F.Files.held l.files ≡ g.F.Files.held l.initial.files;
  same : g.F.Files.faults l.files ≡ g.F.Files.faults l.initial.files;
}

abbrev pub decreases-pieces : goal.decreases-pieces
decreases-pieces g l = l.more
