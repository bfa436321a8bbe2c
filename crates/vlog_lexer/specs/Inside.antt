-- What a piece may span.
use Rattle.std.specs.Prelude.{ℕ, ◌<◌, ◌≤◌, Result, Ok, Err}
use Rattle.vlog_lexer.specs.declared.piece.Piece.{Piece}
use Rattle.vlog_lexer.specs.declared.piece.Stop.{Stop}
use Rattle.vlog_lexer.specs.declared.piece.Stop.TheVariants.{Refused, NoMemory}

-- a piece has some of so many bytes, and a refusal names one of them
abbrev pub IsInside : ℕ → Result Piece Stop → Type 0
IsInside n (Ok piece) = (0 < piece.len) × (piece.len ≤ n)
IsInside n (Err (Refused refusal)) = refusal.offset < n
IsInside n (Err NoMemory) = Unit {0}
