use Rattle.std.proofs.Common.{false, [], sym}
use Rattle.std.proofs.lemmas.Bool.{true≢false}
use Rattle.cvd_sections.proofs.Lines.{end_stands}
use Rattle.cvd_sections.proofs.ending.broken.Goals as goal

pub returns-in-Ok : goal.returns-in-Ok
returns-in-Ok c = let read = c.in-Ok.ensures.1.0.read in absurd (true≢false (sym (end_stands [] false read.given read.fit)))
