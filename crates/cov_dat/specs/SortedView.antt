-- What contracts see of entries under borrowed keys.
use Rattle.std.specs.Prelude.{ℕ, List, map}
use Rattle.std.specs.Borrow.{Bor}
use Rattle.cov_dat.specs.Merging.{Counts}

-- the entries with the keys themselves
abbrev pub seen_sorted : List (Bor (List ℕ) × ℕ) → Counts
seen_sorted es = map (λ e. (e.0.now, e.1)) es
