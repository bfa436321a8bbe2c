-- What processes are and when they run (IEEE 1364-2005, 6.1 and 9.9; IEEE 1800, 16.14 for covers).
use Rattle.std.specs.Prelude.{Bool, true, false}
use Rattle.cov_types.specs.declared.kind.ProcessKind.{ProcessKind}
use Rattle.cov_types.specs.declared.kind.ProcessKind.TheVariants as kind

-- an assignment or a combinational process: it holds all the time
abbrev pub settles : ProcessKind → Bool
settles kind.Assign = true
settles kind.Comb = true
settles _ = false

-- a clocked process or a cover: it runs at the edge of the clock
abbrev pub runs_at_edge : ProcessKind → Bool
runs_at_edge kind.Clocked = true
runs_at_edge kind.Cover = true
runs_at_edge _ = false

abbrev pub is_assign : ProcessKind → Bool
is_assign kind.Assign = true
is_assign _ = false

abbrev pub is_comb : ProcessKind → Bool
is_comb kind.Comb = true
is_comb _ = false

abbrev pub is_clocked : ProcessKind → Bool
is_clocked kind.Clocked = true
is_clocked _ = false

abbrev pub is_initial : ProcessKind → Bool
is_initial kind.Initial = true
is_initial _ = false

abbrev pub is_cover : ProcessKind → Bool
is_cover kind.Cover = true
is_cover _ = false
