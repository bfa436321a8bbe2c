use Rattle.std.proofs.Common.{◌≡◌, take, ◌++◌}
use Rattle.std.specs.List.{flat_map}
use Rattle.test_rank.specs.Ranking.{row_line}
use Rattle.test_rank.proofs.table.rank_text.Given as goal

abbrev pub invariant-rows : goal.invariant-rows
invariant-rows l = l.text.items ≡ l.initial.text.items ++ flat_map (row_line l.names) (take l.row-index l.row-items)
