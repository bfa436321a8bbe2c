-- What keys tell: statements.
use Rattle.std.specs.Prelude.{◌≡◌, ℕ, ◌<◌, ◌^◌, List, [], slice_index_or, All}
use Rattle.cov_types.specs.Key.{IsKey, IsPlain}
use Rattle.cov_points.specs.declared.point.Point.{Point}
use Rattle.cov_types.specs.LineLists.{AreRuns}
use Rattle.cov_points.specs.KeyText.{key_text}

-- the name of the file that a point stands in
abbrev pub file_name : List (List ℕ) → Point → List ℕ
file_name names p = slice_index_or names p.place.file []

-- a point whose texts have no marks, whose line list is ascending and maximal, and whose numbers are below 2 ^ 32
pub record IsPlainPoint (names : List (List ℕ)) (p : Point) : Type 0 where
  pub file : IsPlain (file_name names p)
  pub module_text : IsPlain p.module
  pub comment : IsPlain p.comment
  pub hier : IsPlain p.hier
  pub lines : AreRuns p.lines
  pub ends : All (λ r. r.to < 2 ^ 32) p.lines
  pub line : p.place.line < 2 ^ 32
  pub column : p.place.column < 2 ^ 32

-- two points tell the same: all of them but the number of their file, whose name stands for it
pub record TellTheSame (names : List (List ℕ)) (p q : Point) : Type 0 where
  pub file : file_name names p ≡ file_name names q
  pub line : p.place.line ≡ q.place.line
  pub column : p.place.column ≡ q.place.column
  pub kind : p.kind ≡ q.kind
  pub module_text : p.module ≡ q.module
  pub comment : p.comment ≡ q.comment
  pub lines : p.lines ≡ q.lines
  pub hier : p.hier ≡ q.hier

-- points with one key tell the same
abbrev pub KeyTellsAll : Type 0
KeyTellsAll = (names : List (List ℕ)) (p q : Point) → IsPlainPoint names p → IsPlainPoint names q
    → key_text names p ≡ key_text names q → TellTheSame names p q

-- the key of a plain point is a key of a data file
abbrev pub KeyIsKey : Type 0
KeyIsKey = (names : List (List ℕ)) (p : Point) → IsPlainPoint names p → IsKey (key_text names p)
