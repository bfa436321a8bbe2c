-- The points of a source, as a set: candidates with equal type, module text, place and comment are one point.
use Rattle.std.specs.Prelude.{◌≡◌, ℕ, List, Some, slice_get}
use Rattle.cov_points.specs.declared.options.CoverOptions.{CoverOptions}
use Rattle.cov_points.specs.declared.point.Point.{Point}
use Rattle.cov_types.specs.LineLists.{IsLineListOf}
use Rattle.point_meaning.specs.Source.{Source, scope_at}
use Rattle.point_meaning.specs.Candidates.{Candidate, IsOn, Identity, identity_of, scope_of, IsLineOf}
use Rattle.point_meaning.specs.Hier.{IsHierOf}

-- a candidate of the point that isn't off
pub record IsCounted (source : Source) (options : CoverOptions) (point : Identity) (c : Candidate) : Type 0 where
  pub on : IsOn source options c
  pub same : identity_of source c ≡ point

-- a point is what some candidate that isn't off belongs to
abbrev pub IsPoint : Source → CoverOptions → Identity → Type 0
IsPoint source options point = (c : Candidate) × IsCounted source options point c

-- its lines are those of all its candidates
abbrev pub IsPointLine : Source → CoverOptions → Identity → ℕ → Type 0
IsPointLine source options point line = (c : Candidate) × IsCounted source options point c × IsLineOf c line

-- its scopes are those of all its candidates, and these are their paths
abbrev pub IsPointPath : Source → CoverOptions → Identity → List ℕ → Type 0
IsPointPath source options point path =
    (c : Candidate) × IsCounted source options point c × (path ≡ (scope_at source (scope_of c)).path)

-- what a row of a table says of a point
abbrev pub identity_in : Point → Identity
identity_in p = record { kind = p.kind; module_text = p.module; place = p.place; comment = p.comment }

-- a row describes a point: line list and hierarchy are those of its candidates
pub record IsRowOf (source : Source) (options : CoverOptions) (p : Point) : Type 0 where
  pub point : IsPoint source options (identity_in p)
  pub lines : IsLineListOf (IsPointLine source options (identity_in p)) p.lines
  pub hier : IsHierOf (IsPointPath source options (identity_in p)) p.hier

-- the rows list each point of the source once
pub record ArePoints (source : Source) (options : CoverOptions) (points : List Point) : Type 0 where
  pub rows : (k : ℕ) (p : Point) → slice_get points k ≡ Some p → IsRowOf source options p
  pub all : (point : Identity) → IsPoint source options point
      → (k : ℕ) × (p : Point) × (slice_get points k ≡ Some p) × (identity_in p ≡ point)
  pub once : (j k : ℕ) (p q : Point) → slice_get points j ≡ Some p → slice_get points k ≡ Some q
      → identity_in p ≡ identity_in q → j ≡ k
