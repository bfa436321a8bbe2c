-- A position as the code keeps it.
use Rattle.std.specs.Prelude.{◌≡◌, ℕ, List}
use Rattle.vlog_lexer.specs.Places.{column_after, line_after}
use Rattle.vlog_lexer.specs.declared.position.Position.{Position}

-- the position is that behind these bytes
pub record IsPosition (before : List ℕ) (position : Position) : Type 0 where
  pub line : position.line ≡ line_after before
  pub column : position.column ≡ column_after before
