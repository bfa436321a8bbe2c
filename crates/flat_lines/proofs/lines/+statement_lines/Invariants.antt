use Rattle.std.proofs.Common.{take}
use Rattle.flat_lines.specs.Lines.{Gains, HasLineAmong}
use Rattle.flat_lines.proofs.lines.+statement_lines.Given as goal

abbrev pub invariant-put_all-loop-part : goal.invariant-put_all-loop-part
invariant-put_all-loop-part l = Gains l.initial.lines.items l.lines.items (HasLineAmong (take l.part-index l.parts))
