use Rattle.std.proofs.Common.{ℕ, ◌+◌, ◌≤◌, List, ◌++◌, take}
use Rattle.vlog_lexer.proofs.PlaceLemmas.{position}
use Rattle.vlog_lexer.specs.PlaceKept.{IsPosition}
use Rattle.vlog_lexer.proofs.position.Position.after.Given as goal

abbrev pub invariant-loop-byte : goal.invariant-loop-byte
invariant-loop-byte l = record {
  line_within : l.line ≤ l.fn.self.line + l.byte-index;
  column_within : l.column ≤ l.fn.self.column + l.byte-index;
  at : (before : List ℕ) → IsPosition before l.fn.self → IsPosition (before ++ take l.byte-index l.bytes) (position l.line l.column);
}
