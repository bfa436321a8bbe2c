use Rattle.std.proofs.Common.{◌≡◌, ◌++◌}
use Rattle.std.specs.List.{flat_map}
use Rattle.cov_dat.specs.DataText.{record_text, lines_text}
use Rattle.cov_dat.specs.SortedView.{seen_sorted}
use Rattle.cov_dat.proofs.data_text.written_sorted.Given as goal

abbrev pub invariant-loop-key : goal.invariant-loop-key
invariant-loop-key l = l.text.items ++ flat_map record_text (seen_sorted l.key-iterator) ≡ lines_text (seen_sorted l.sorted.entries)
