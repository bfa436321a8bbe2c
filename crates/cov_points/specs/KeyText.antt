-- The key of a point: its fields in their order (Verilator's coverage data files; the choice of fields and their order: this
-- project's own).
use Rattle.std.specs.Prelude.{ℕ, List, [], ◌∷◌, ◌++◌, slice_index_or, codes, decimal}
use Rattle.std.specs.List.{flat_map}
use Rattle.cov_types.specs.Key.{field_text}
use Rattle.cov_points.specs.declared.point.Point.{Point}
use Rattle.cov_points.specs.declared.point.PointKind.{PointKind}
use Rattle.cov_points.specs.declared.point.PointKind.TheVariants as kind
use Rattle.cov_types.specs.LineLists.{lines_text}

-- the type of a point, as it is written
abbrev pub kind_text : PointKind → List ℕ
kind_text kind.Line = codes "line"
kind_text kind.Branch = codes "branch"
kind_text kind.Toggle = codes "toggle"
kind_text kind.User = codes "user"

-- the page: `v_`, the type, `/`, the module text
abbrev pub page_text : PointKind → List ℕ → List ℕ
page_text k module_text = codes "v_" ++ kind_text k ++ codes "/" ++ module_text

-- the fields: file, line, column, type, page, comment, line list, hierarchy
abbrev pub key_fields : List (List ℕ) → Point → List (List ℕ × List ℕ)
key_fields names p =
    (codes "f", slice_index_or names p.place.file [])
    ∷ (codes "l", decimal p.place.line)
    ∷ (codes "n", decimal p.place.column)
    ∷ (codes "t", kind_text p.kind)
    ∷ (codes "page", page_text p.kind p.module)
    ∷ (codes "o", p.comment)
    ∷ (codes "S", lines_text p.lines)
    ∷ (codes "h", p.hier)
    ∷ []

-- the key: its fields, one after the other
abbrev pub key_text : List (List ℕ) → Point → List ℕ
key_text names p = flat_map field_text (key_fields names p)
