-- Private: the least count of a line, point by point.
use Rattle.std.specs.Prelude.{ℕ, ◌==◌, min, Bool, true, false, List, [], ◌∷◌, Option, None, Some}
use Rattle.std.specs.List.{list_any}
use Rattle.cov_dat.specs.Merging.{Counts}
use Rattle.report_text.specs.Items.{lines_of_point}

-- the line is one of these
abbrev pub has_line : ℕ → List ℕ → Bool
has_line n ms = list_any (λ m. m == n) ms

-- a count, or the lesser of it and one that is offered
abbrev pub lesser : Option ℕ → ℕ → ℕ
lesser None c = c
lesser (Some a) c = min c a

abbrev pub offered : Option ℕ → Bool → ℕ → Option ℕ
offered g false c = g
offered g true c = Some (lesser g c)

-- the least count of a line, beginning with one that is known
abbrev pub least_at : ℕ → Counts → Option ℕ → Option ℕ
least_at n [] g = g
least_at n (p ∷ ps) g = least_at n ps (offered g (has_line n (lines_of_point p)) p.1)
