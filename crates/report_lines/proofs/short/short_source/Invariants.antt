use Rattle.std.proofs.Common.{◌≡◌, false, take}
use Rattle.std.specs.Prelude.{nat_lt}
use Rattle.std.specs.List.{list_any}
use Rattle.report_lines.proofs.short.short_source.Given as goal

abbrev pub invariant-lines : goal.invariant-lines
invariant-lines l = list_any (λ c. nat_lt l.lines c.line) (take l.line-index l.table.lines.items) ≡ false
