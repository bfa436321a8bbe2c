use Rattle.std.proofs.Common.{◌≡◌, length}
use Rattle.cov_dat.specs.Reading.{reading_from}
use Rattle.cov_dat.specs.Position.{IsInFile}
use Rattle.cov_dat.proofs.text_reader.TextReader.next_record.Given as goal

abbrev pub invariant-lines : goal.invariant-lines
invariant-lines l = record {
  left : reading_from l.self-inside.number l.self-inside.bytes l.self-inside.rest.now
      ≡ reading_from l.initial.self-inside.number l.initial.self-inside.bytes l.initial.self-inside.rest.now;
  placed : IsInFile l.self-inside.number l.self-inside.bytes;
}

abbrev pub decreases-lines : goal.decreases-lines
decreases-lines l = length l.self-inside.rest.now
