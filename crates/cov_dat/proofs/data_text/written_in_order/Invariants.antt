use Rattle.std.proofs.Common.{◌≡◌, ◌++◌}
use Rattle.std.specs.List.{flat_map}
use Rattle.cov_dat.specs.DataText.{record_text, lines_text}
use Rattle.cov_dat.proofs.data_text.written_in_order.Given as goal

abbrev pub invariant-loop-key : goal.invariant-loop-key
invariant-loop-key l = l.text.items ++ flat_map record_text l.key-iterator ≡ lines_text l.counts.entries
