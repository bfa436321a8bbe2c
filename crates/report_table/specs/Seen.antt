-- Private: what contracts see of points and maps that borrow their keys.
use Rattle.std.specs.Prelude.{◌≡◌, ℕ, List, map, All, codes}
use Rattle.std.specs.Option.{option_copied}
use Rattle.std.specs.Borrow.{Bor}
use Rattle.std.specs.Ordering.{nat_cmp}
use Rattle.std.specs.Cmp.Lexicographic.{slice_cmp}
use Rattle.std.specs.declared.cmp.Ordering.{Ordering}
use Rattle.cov_dat.specs.KeyFields.{field}
use Rattle.cov_dat.specs.Merging.{Counts}
use Rattle.report_text.specs.Items.{Point, line_of}
use Rattle.report_table.specs.declared.data_point.DataPoint.{DataPoint}

-- a point with the key itself
abbrev pub seen_point : DataPoint → Point
seen_point p = (p.key.now, p.count)

abbrev pub seen_points : List DataPoint → Counts
seen_points ps = map seen_point ps

-- what is kept beside the key is what the key tells
pub record IsRead (p : DataPoint) : Type 0 where
  pub file : option_copied p.file ≡ field p.key.now (codes "f")
  pub line : p.line ≡ line_of (p.key.now, 0)
  pub list : option_copied p.list ≡ field p.key.now (codes "S")

abbrev pub AreRead : List DataPoint → Type 0
AreRead ps = All IsRead ps

-- entries with the keys themselves
abbrev pub seen_sorted : List (Bor (List ℕ) × ℕ) → Counts
seen_sorted es = map (λ e. (e.0.now, e.1)) es

-- borrowed keys in the order of their bytes
abbrev pub by_bytes : Bor (List ℕ) → Bor (List ℕ) → Ordering
by_bytes a b = slice_cmp nat_cmp a.now b.now

-- the keys alone
abbrev pub names_in : List (Bor (List ℕ) × ℕ) → List (List ℕ)
names_in es = map (λ e. e.0.now) es
