use Rattle.std.proofs.Common.{◌≡◌, true, ◌++◌, length}
use Rattle.std.specs.Prelude.{flat_map}
use Rattle.cvd_text.specs.Tokens.{byte_text}
use Rattle.cvd_targets.proofs.ByteTexts.{are_small}
use Rattle.cvd_targets.proofs.digits.bytes_of.Given as goal

abbrev pub invariant-pairs : goal.invariant-pairs
invariant-pairs l = record {
  spelled : l.word ≡ flat_map byte_text l.bytes.items ++ l.rest;
  small : are_small l.bytes.items ≡ true;
}

abbrev pub decreases-pairs : goal.decreases-pairs
decreases-pairs l = length l.rest
