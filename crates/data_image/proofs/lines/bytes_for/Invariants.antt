use Rattle.std.proofs.Common.{◌≡◌, ◌+◌, take}
use Rattle.std.specs.Prelude.{sum_by}
use Rattle.data_image.specs.Lines.{most_bytes}
use Rattle.data_image.proofs.lines.bytes_for.Given as goal

abbrev pub invariant-loop-point : goal.invariant-loop-point
invariant-loop-point l = l.bytes ≡ 22 + sum_by most_bytes (take l.point-index l.points)
