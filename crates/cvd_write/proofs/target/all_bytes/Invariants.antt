use Rattle.std.proofs.Common.{◌≡◌, ◌++◌, drop}
use Rattle.std.specs.List.{flat_map}
use Rattle.cvd_text.specs.Tokens.{byte_text}
use Rattle.cvd_write.proofs.target.all_bytes.Given as goal

abbrev pub invariant-loop-one : goal.invariant-loop-one
invariant-loop-one l = l.out ++ flat_map byte_text (drop l.one-index l.bytes) ≡ l.initial.out ++ flat_map byte_text l.bytes
