use Rattle.std.proofs.Common.{◌≡◌, length}
use Rattle.std.specs.List.{position_or_len}
use Rattle.cov_types.specs.Key.{is_mark}
use Rattle.cov_port.specs.KeyTest.{completes, in_value}
use Rattle.cov_port.proofs.key.are_fields.Given as goal

abbrev pub invariant-fields : goal.invariant-fields
invariant-fields l = record {
  same : completes in_value l.rest ≡ completes in_value l.fn.fields;
  marked : position_or_len is_mark l.rest ≡ 0;
}

abbrev pub decreases-fields : goal.decreases-fields
decreases-fields l = length l.rest
