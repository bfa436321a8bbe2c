-- What the paths of a point's scopes have in common (this project's own).
use Rattle.std.specs.Prelude.{◌≡◌, ◌≢◌, ℕ, ◌≤◌, ◌==◌, List, [], ◌∷◌, ◌++◌, length, map, drop, reverse, codes, if◌then◌else◌, Contains}
use Rattle.std.specs.List.{IsDistinctByAny}

-- a text begins with another
abbrev pub BeginsWith : List ℕ → List ℕ → Type 0
BeginsWith text front = (rest : List ℕ) × (text ≡ front ++ rest)

-- a text ends with another
abbrev pub EndsWith : List ℕ → List ℕ → Type 0
EndsWith text back = (rest : List ℕ) × (text ≡ rest ++ back)

-- the longest text with which all of a set of texts begin
pub record IsLongestFront (has : List ℕ → Type 0) (front : List ℕ) : Type 0 where
  pub of_all : (text : List ℕ) → has text → BeginsWith text front
  pub longest : (other : List ℕ) → ((text : List ℕ) → has text → BeginsWith text other) → length other ≤ length front

-- the longest text with which all end
pub record IsLongestBack (has : List ℕ → Type 0) (back : List ℕ) : Type 0 where
  pub of_all : (text : List ℕ) → has text → EndsWith text back
  pub longest : (other : List ℕ) → ((text : List ℕ) → has text → EndsWith text other) → length other ≤ length back

-- The hierarchy text of a set of paths: the path, where there is one; with several the longest front that they have in
-- common, `*`, and the longest back that is common to what remains.
pub data IsHierOf (has : List ℕ → Type 0) : List ℕ → Type 0 where
  one : {path : List ℕ} → has path → ((other : List ℕ) → has other → other ≡ path) → IsHierOf has path
  several : {front back p q : List ℕ} → has p → has q → p ≢ q
      → IsLongestFront has front → IsLongestBack (λ rest. has (front ++ rest)) back
      → IsHierOf has (front ++ codes "*" ++ back)

-- ---- the same of a list of different paths, as it is computed

-- the longest front of two texts
abbrev pub common_front : List ℕ → List ℕ → List ℕ
common_front [] q = []
common_front (a ∷ p) [] = []
common_front (a ∷ p) (b ∷ q) = if a == b then a ∷ common_front p q else []

-- the longest front of all
abbrev pub front_of_all : List (List ℕ) → List ℕ
front_of_all [] = []
front_of_all (p ∷ []) = p
front_of_all (p ∷ q ∷ ps) = common_front p (front_of_all (q ∷ ps))

-- the longest back of all
abbrev pub back_of_all : List (List ℕ) → List ℕ
back_of_all ps = reverse (front_of_all (map reverse ps))

-- the front, `*`, and the back of what remains
abbrev pub starred : List (List ℕ) → List ℕ → List ℕ
starred ps front = front ++ codes "*" ++ back_of_all (map (drop (length front)) ps)

-- the hierarchy text of a list of paths
abbrev pub hier_text : List (List ℕ) → List ℕ
hier_text [] = []
hier_text (p ∷ []) = p
hier_text (p ∷ q ∷ ps) = starred (p ∷ q ∷ ps) (front_of_all (p ∷ q ∷ ps))

-- both are the same
abbrev pub HierIsComputed : Type 0
HierIsComputed = (p : List ℕ) (ps : List (List ℕ)) → IsDistinctByAny (p ∷ ps) → IsHierOf (Contains (p ∷ ps)) (hier_text (p ∷ ps))
