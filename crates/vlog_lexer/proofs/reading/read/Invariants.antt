use Rattle.std.proofs.Common.{◌+◌, ◌-◌, ◌≤◌, length, take}
use Rattle.vlog_lexer.proofs.ReadingLemmas.{IsRead}
use Rattle.vlog_lexer.specs.LimitsKept.{AreCounts}
use Rattle.vlog_lexer.specs.PlaceKept.{IsPosition}
use Rattle.vlog_lexer.specs.Reading.{latest}
use Rattle.vlog_lexer.proofs.reading.read.Given as goal

abbrev pub invariant-loop-at : goal.invariant-loop-at
invariant-loop-at l = record {
  within : l.at ≤ length l.text;
  line : l.position.line ≤ l.at + 1;
  column : l.position.column ≤ l.at + 1;
  position : IsPosition (take l.at l.text) l.position;
  nesting : l.counts.nesting ≤ l.at;
  braces : l.counts.braces ≤ l.at;
  operators : l.counts.operators ≤ l.at;
  branches : l.counts.branches ≤ l.at;
  counts : AreCounts (latest l.found.tokens) l.counts;
  read : IsRead l.file l.text l.found.tokens l.found.pragmas l.at;
}

abbrev pub decreases-loop-at : goal.decreases-loop-at
decreases-loop-at l = length l.initial.text - l.at
