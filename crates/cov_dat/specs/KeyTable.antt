-- Words for the parts of `Merged`.
use Rattle.std.specs.Prelude.{ℕ, zero, suc, ◌+◌, Bool, is_some, nat_lt, List, [], ◌∷◌, Option, None, Some, if◌then◌else◌}
use Rattle.std.specs.Str.{bytes_eq}
use Rattle.std.specs.Map.{lookup}
use Rattle.cov_types.specs.declared.limit.LimitName.{LimitName}
use Rattle.cov_types.specs.declared.limit.LimitName.TheVariants.{DataPoints, TotalKeyBytes}
use Rattle.cov_dat.specs.Merging.{Counts, saturated}

-- whether the key stands among the counts
abbrev pub has_key : Counts → List ℕ → Bool
has_key counts key = is_some (lookup (bytes_eq key) counts)

-- the limit that so many keys with so many bytes pass, if they pass one
abbrev pub limit_at : ℕ → ℕ → Option LimitName
limit_at keys bytes = if nat_lt 4194304 keys then Some DataPoints else if nat_lt 1073741824 bytes then Some TotalKeyBytes else None

-- the counts with one count more of the key with this number
abbrev pub raised_at : Counts → ℕ → ℕ → Counts
raised_at [] number count = []
raised_at (e ∷ es) zero count = (e.0, saturated (e.1 + count)) ∷ es
raised_at (e ∷ es) (suc number) count = e ∷ raised_at es number count
