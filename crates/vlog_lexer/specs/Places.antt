-- Lines and columns, both counted from 1, columns in bytes.
use Rattle.std.specs.Prelude.{ℕ, ◌+◌, List, count_by}
use Rattle.std.specs.List.{suffix_len}
use Rattle.cov_types.specs.declared.place.Place.{Place}
use Rattle.vlog_lexer.specs.Bytes.{is_line_feed}
use Rattle.vlog_lexer.specs.Pieces.{is_no_line_feed}

-- one line more than there are line feeds before
unfoldable pub line_after : List ℕ → ℕ
line_after before = 1 + count_by is_line_feed before

-- one column more than there are bytes behind the last line feed before
unfoldable pub column_after : List ℕ → ℕ
column_after before = 1 + suffix_len is_no_line_feed before

-- the place behind these bytes of a file
unfoldable pub place_after : ℕ → List ℕ → Place
place_after file before = record { file = file; line = line_after before; column = column_after before }
