use Rattle.std.proofs.Common.{◌≡◌, length}
use Rattle.stimulus.specs.Lines.{heard}
use Rattle.stimulus.specs.Taking.{IsInText}
use Rattle.stimulus.proofs.text_lines.TextLines.next_spoken.Given as goal

abbrev pub invariant-lines : goal.invariant-lines
invariant-lines l = record {
  left : heard l.self-inside.number l.self-inside.bytes l.self-inside.rest.now
      ≡ heard l.initial.self-inside.number l.initial.self-inside.bytes l.initial.self-inside.rest.now;
  placed : IsInText l.self-inside.number (length l.self-inside.rest.now) l.self-inside.bytes;
}

abbrev pub decreases-lines : goal.decreases-lines
decreases-lines l = length l.self-inside.rest.now
