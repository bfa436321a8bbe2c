-- One line of a stimulus: as given and read, and too long.
use Rattle.std.proofs.Common.{Err, false, true, refl, ap}
use Rattle.cov_port.specs.declared.line_step.LineStep.TheVariants as step
use Rattle.stim_lines.specs.Reading.{line_of}
use Rattle.stimulus.specs.Lines.{LinesState}
use Rattle.stimulus.proofs.LineLemmas.{given_bytes, given_bytes_last, long_frugal, tell_given, tell_stands}
use Rattle.stimulus.proofs.spoken_lines.SpokenLines.take_line.Goals as goal

pub returns-in-Ok-Line-clause-stands : goal.returns-in-Ok-Line-clause-stands
returns-in-Ok-Line-clause-stands g c =
    let mid : LinesState = record { cutter = c.next_line.new.self; number = c.self.inside.number; bytes = c.self.inside.bytes } in
    let old : LinesState = record { cutter = c.self.inside.cutter; number = c.self.inside.number; bytes = c.self.inside.bytes } in
    let gives = rw c.in-Ok-Line.field-0-is at c.in-Ok-Line.ensures.line in
    rw (← c.self.view_is) (tell_stands c.tell.result step.Line true mid old c.tell.new.self (g.F.Files.rest c.args.files.now)
    (g.F.Files.rest c.next_line.new.files)
    gives refl (given_bytes c.next_line.new.self.line c.in-Ok-Line.ensures.given.short) refl refl c.tell.ensures.moved)

pub returns-in-Ok-Line-clause-given : goal.returns-in-Ok-Line-clause-given
returns-in-Ok-Line-clause-given g c =
    let mid : LinesState = record { cutter = c.next_line.new.self; number = c.self.inside.number; bytes = c.self.inside.bytes } in
    let old : LinesState = record { cutter = c.self.inside.cutter; number = c.self.inside.number; bytes = c.self.inside.bytes } in
    let gives = rw c.in-Ok-Line.field-0-is at c.in-Ok-Line.ensures.line in
    let given = rw c.in-Ok-Line.field-0-is at c.in-Ok-Line.ensures.given in
    rw (← c.self.view_is) (tell_given c.tell.result step.Line true mid old c.tell.new.self (g.F.Files.rest c.args.files.now)
    (g.F.Files.rest c.next_line.new.files)
    gives given.room refl c.tell.ensures.moved)

pub returns-in-Ok-LastLine-clause-stands : goal.returns-in-Ok-LastLine-clause-stands
returns-in-Ok-LastLine-clause-stands g c =
    let mid : LinesState = record { cutter = c.next_line.new.self; number = c.self.inside.number; bytes = c.self.inside.bytes } in
    let old : LinesState = record { cutter = c.self.inside.cutter; number = c.self.inside.number; bytes = c.self.inside.bytes } in
    let gives = rw c.in-Ok-LastLine.field-0-is at c.in-Ok-LastLine.ensures.line in
    rw (← c.self.view_is) (tell_stands c.tell-in-Ok-LastLine.result step.LastLine false mid old c.tell-in-Ok-LastLine.new.self
    (g.F.Files.rest c.args.files.now) (g.F.Files.rest c.next_line.new.files)
    gives refl (given_bytes_last c.next_line.new.self.line c.in-Ok-LastLine.ensures.given.short) refl refl c.tell-in-Ok-LastLine.ensures.moved)

pub returns-in-Ok-LastLine-clause-given : goal.returns-in-Ok-LastLine-clause-given
returns-in-Ok-LastLine-clause-given g c =
    let mid : LinesState = record { cutter = c.next_line.new.self; number = c.self.inside.number; bytes = c.self.inside.bytes } in
    let old : LinesState = record { cutter = c.self.inside.cutter; number = c.self.inside.number; bytes = c.self.inside.bytes } in
    let gives = rw c.in-Ok-LastLine.field-0-is at c.in-Ok-LastLine.ensures.line in
    let given = rw c.in-Ok-LastLine.field-0-is at c.in-Ok-LastLine.ensures.given in
    rw (← c.self.view_is) (tell_given c.tell-in-Ok-LastLine.result step.LastLine false mid old c.tell-in-Ok-LastLine.new.self
    (g.F.Files.rest c.args.files.now) (g.F.Files.rest c.next_line.new.files)
    gives given.room refl c.tell-in-Ok-LastLine.ensures.moved)

pub returns-in-Err-TooLong-clause-frugal : goal.returns-in-Err-TooLong-clause-frugal
returns-in-Err-TooLong-clause-frugal g c =
    let old : LinesState = record { cutter = c.self.inside.cutter; number = c.self.inside.number; bytes = c.self.inside.bytes } in
    rw (← c.self.view_is) (λ text s. long_frugal (line_of c.long_line.result) text old c.next_line.new.self (g.F.Files.rest c.args.files.now)
    (g.F.Files.rest c.next_line.new.files)
    (c.in-Err-TooLong.ensures.long_left (ap Err c.in-Err-TooLong.field-0-is)) c.in-Err-TooLong.ensures.within c.long_line.ensures.line s)
