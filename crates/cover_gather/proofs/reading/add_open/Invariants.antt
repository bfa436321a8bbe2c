use Rattle.std.proofs.Common.{◌≡◌, ◌-◌, None}
use Rattle.std.specs.Prelude.{IfSome, option_copied}
use Rattle.cov_dat.specs.Streaming.{StandsIn, reading_left}
use Rattle.cover_answer.specs.Gathering.{keeps}
use Rattle.cover_gather.specs.Steps.{GoesOn}
use Rattle.cover_gather.proofs.reading.add_open.Given as goal

abbrev pub invariant-records : goal.invariant-records
invariant-records g l = record {
  goes : IfSome (g.F.Files.rest l.initial.files)
      (λ text. GoesOn (keeps (option_copied l.filter)) l.ranks l.name l.initial.tally l.tally text (reading_left l.reader (g.F.Files.rest l.files)));
  stands : IfSome (g.F.Files.rest l.initial.files) (λ text. StandsIn text l.reader (g.F.Files.rest l.files));
  line : l.line ≡ l.initial.line;
  no_fault : l.reader.fault ≡ None;
  held : g.F.Files.held l.files ≡ g.F.Files.held l.initial.files;
  faults : g.F.Files.faults l.files ≡ g.F.Files.faults l.initial.files;
}

abbrev pub decreases-records : goal.decreases-records
decreases-records g l = 4294967296 - l.reader.bytes
