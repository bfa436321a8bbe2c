use Rattle.std.proofs.Common.{◌≡◌, drop}
use Rattle.std.specs.List.{list_all}
use Rattle.design_meaning.specs.Names.{continues_name}
use Rattle.cvd_inputs.proofs.name.all_continue.Given as goal

abbrev pub invariant-loop-byte : goal.invariant-loop-byte
invariant-loop-byte l = list_all continues_name (drop l.byte-index l.bytes) ≡ list_all continues_name l.bytes
