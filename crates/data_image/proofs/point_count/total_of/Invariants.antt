use Rattle.std.proofs.Common.{◌≡◌, ◌≤◌, ◌*◌, ◌^◌, take}
use Rattle.std.specs.Prelude.{sum_by, slice_index}
use Rattle.data_image.proofs.point_count.total_of.Given as goal

abbrev pub invariant-loop-counter : goal.invariant-loop-counter
invariant-loop-counter l = record {
  sum : l.total ≡ sum_by (slice_index l.counts) (take l.counter-index l.counters);
  within : l.total ≤ l.counter-index * 2 ^ 64;
}
