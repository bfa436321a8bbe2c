use Rattle.std.proofs.Common.{◌≡◌, length}
use Rattle.stimulus_tests.proofs.tests.stimuli.by_lines.Given as goal

abbrev pub invariant-rows : goal.invariant-rows
invariant-rows l = length l.row.values ≡ length l.reader.layout.columns
