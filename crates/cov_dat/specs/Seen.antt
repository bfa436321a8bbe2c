-- What contracts see of borrowed answers.
use Rattle.std.specs.Prelude.{ℕ, List, Option, None, Some, Result, Ok, Err}
use Rattle.std.specs.Borrow.{Bor}
use Rattle.cov_dat.specs.declared.fault.DataFault.{DataFault}
use Rattle.cov_dat.specs.DataLine.{Says}

-- two borrowed parts as lists
abbrev pub seen_parts : Option (Bor (List ℕ) × Bor (List ℕ)) → Option (List ℕ × List ℕ)
seen_parts None = None
seen_parts (Some p) = Some (p.0.now, p.1.now)

-- a borrowed key and its count as what a line says
abbrev pub seen_line : Result (Option (Bor (List ℕ) × ℕ)) DataFault → Says
seen_line (Err fault) = Err fault
seen_line (Ok None) = Ok None
seen_line (Ok (Some p)) = Ok (Some (record { key = p.0.now; count = p.1 }))
