-- The points of a line stand together at the front, in their turn.
use Rattle.std.proofs.Common.{◌≡◌, ℕ, ◌+◌, ◌<◌, ◌==◌, false, List, [], ◌∷◌, ◌++◌, map, refl, ap, arith, eq-eqb}
use Rattle.std.specs.List.{flat_map}
use Rattle.cov_dat.specs.Merging.{Counts}
use Rattle.report_text.specs.Items.{Point}
use Rattle.report_text.specs.Tables.{PlacedPoint, placed_at, placed_points}
use Rattle.report_text.specs.Annotation.{points_at}
use Rattle.report_lines.specs.Walks.{points_behind, points_here}
use Rattle.report_lines.proofs.ItemLaws.{Rises, is_other}

-- points of another line before points none of which is at the front
here_skip : (m n : ℕ) (ps : List Point) (rest : List PlacedPoint) → (m == n) ≡ false → points_here n rest ≡ []
    → points_here n (map (placed_at m) ps ++ rest) ≡ []
here_skip m n [] rest other none = none
here_skip m n (p ∷ ps) rest other none = rw other refl

behind_skip : (m n : ℕ) (ps : List Point) (rest : List PlacedPoint) → (m == n) ≡ false → points_behind n rest ≡ rest
    → points_behind n (map (placed_at m) ps ++ rest) ≡ map (placed_at m) ps ++ rest
behind_skip m n [] rest other none = none
behind_skip m n (p ∷ ps) rest other none = rw other refl

-- the points of a line before points none of which is at the front
here_all : (n : ℕ) (ps : List Point) (rest : List PlacedPoint) → points_here n rest ≡ [] → points_here n (map (placed_at n) ps ++ rest) ≡ map (placed_at n) ps
here_all n [] rest none = none
here_all n (p ∷ ps) rest none = rw (eq-eqb n n refl) (ap (λ (qs : List PlacedPoint). placed_at n p ∷ qs) (here_all n ps rest none))

behind_all : (n : ℕ) (ps : List Point) (rest : List PlacedPoint) → points_behind n rest ≡ rest → points_behind n (map (placed_at n) ps ++ rest) ≡ rest
behind_all n [] rest none = none
behind_all n (p ∷ ps) rest none = rw (eq-eqb n n refl) (behind_all n ps rest none)

-- no point of later lines is at the front
pub here_later : (counts : Counts) (file : List ℕ) (k n : ℕ) (ms : List ℕ) → Rises k ms → n < k → points_here n (flat_map (placed_points counts file) ms) ≡ []
here_later counts file k n [] rises below = refl
here_later counts file k n (m ∷ ms) rises below =
    here_skip m n (points_at counts file m) (flat_map (placed_points counts file) ms) (is_other m n (omega (arith, rises.0)))
    (here_later counts file (m + 1) n ms rises.1 (omega (arith, rises.0)))

pub behind_later : (counts : Counts) (file : List ℕ) (k n : ℕ) (ms : List ℕ) → Rises k ms → n < k
    → points_behind n (flat_map (placed_points counts file) ms) ≡ flat_map (placed_points counts file) ms
behind_later counts file k n [] rises below = refl
behind_later counts file k n (m ∷ ms) rises below =
    behind_skip m n (points_at counts file m) (flat_map (placed_points counts file) ms) (is_other m n (omega (arith, rises.0)))
    (behind_later counts file (m + 1) n ms rises.1 (omega (arith, rises.0)))

-- the first line's points are those at the front, and behind them stand those of the later lines
pub here_first : (counts : Counts) (file : List ℕ) (m : ℕ) (ms : List ℕ) → Rises (m + 1) ms
    → points_here m (flat_map (placed_points counts file) (m ∷ ms)) ≡ placed_points counts file m
here_first counts file m ms rises =
    here_all m (points_at counts file m) (flat_map (placed_points counts file) ms) (here_later counts file (m + 1) m ms rises (omega arith))

pub behind_first : (counts : Counts) (file : List ℕ) (m : ℕ) (ms : List ℕ) → Rises (m + 1) ms
    → points_behind m (flat_map (placed_points counts file) (m ∷ ms)) ≡ flat_map (placed_points counts file) ms
behind_first counts file m ms rises =
    behind_all m (points_at counts file m) (flat_map (placed_points counts file) ms) (behind_later counts file (m + 1) m ms rises (omega arith))
