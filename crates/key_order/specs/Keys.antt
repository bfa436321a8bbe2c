-- Rows with keys of their own.
use Rattle.std.specs.Prelude.{◌≡◌, ℕ, ◌<◌, List, length, slice_index_or}
use Rattle.design_tree.specs.declared.instrumented.PointRow.{PointRow}

-- no two rows have one key
abbrev pub HaveOwnKeys : List PointRow → Type 0
HaveOwnKeys rows = (i j : ℕ) (d : PointRow) → i < length rows → j < length rows
    → (slice_index_or rows i d).key ≡ (slice_index_or rows j d).key → i ≡ j
