-- One line of a data file: as given and read, at the end, and too long.
use Rattle.std.proofs.Common.{true, false, Err, refl, ap, arith}
use Rattle.std.specs.Prelude.{slice_range}
use Rattle.cov_port.specs.declared.line_step.LineStep.TheVariants as step
use Rattle.cov_dat.specs.Streaming.{ReaderState, line_of}
use Rattle.cov_dat.proofs.FileFaultLemmas.{said_names}
use Rattle.cov_dat.proofs.StreamLemmas.{follows, given_bytes, given_bytes_last, long_frugal, tell_comes, tell_fault, tell_frugal, tell_stands}
use Rattle.cov_dat.proofs.data_reader.DataReader.take_line.Goals as goal

pub invariant_of-self : goal.invariant_of-self
invariant_of-self g c = (c.self.invariant.0, omega arith, omega arith, follows c.self.inside.fault c.next_line.new.self.fault c.in-Ok-Line.ensures.given.fault)

pub invariant_of-self-in-Ok-LastLine : goal.invariant_of-self-in-Ok-LastLine
invariant_of-self-in-Ok-LastLine g c = (
  c.self.invariant.0,
  omega arith,
  omega arith,
  follows c.self.inside.fault c.next_line.new.self.fault
      c.in-Ok-LastLine.ensures.given.fault,
)

pub invariant_of-self-in-Ok-End : goal.invariant_of-self-in-Ok-End
invariant_of-self-in-Ok-End g c = (
  c.self.invariant.0,
  omega arith,
  omega arith,
  follows c.self.inside.fault c.next_line.new.self.fault
      c.in-Ok-End.ensures.given.fault,
)

pub returns-in-Ok-Line-clause-comes : goal.returns-in-Ok-Line-clause-comes
returns-in-Ok-Line-clause-comes g c =
    let mid : ReaderState = record {
      cutter = c.next_line.new.self;
      number = c.self.inside.number;
      bytes = c.self.inside.bytes;
      key = slice_range c.next_line.new.self.line 0 0;
      count = 0;
      fault = c.self.inside.fault;
    } in
    let old : ReaderState = record {
      cutter = c.self.inside.cutter;
      number = c.self.inside.number;
      bytes = c.self.inside.bytes;
      key = slice_range c.self.inside.cutter.line c.self.inside.key_start c.self.inside.key_end;
      count = c.self.inside.count;
      fault = c.self.inside.fault;
    } in
    let gives = rw c.in-Ok-Line.field-0-is at c.in-Ok-Line.ensures.line in
    rw (← c.self.view_is) (tell_comes c.tell.result step.Line true mid old c.tell.new.self (g.F.Files.rest c.args.files.now)
    (g.F.Files.rest c.next_line.new.files)
    gives refl refl refl c.tell.ensures.story c.tell.ensures.moved)

pub returns-in-Ok-Line-clause-fault : goal.returns-in-Ok-Line-clause-fault
returns-in-Ok-Line-clause-fault g c =
    let mid : ReaderState = record {
      cutter = c.next_line.new.self;
      number = c.self.inside.number;
      bytes = c.self.inside.bytes;
      key = slice_range c.next_line.new.self.line 0 0;
      count = 0;
      fault = c.self.inside.fault;
    } in
    let old : ReaderState = record {
      cutter = c.self.inside.cutter;
      number = c.self.inside.number;
      bytes = c.self.inside.bytes;
      key = slice_range c.self.inside.cutter.line c.self.inside.key_start c.self.inside.key_end;
      count = c.self.inside.count;
      fault = c.self.inside.fault;
    } in
    let gives = rw c.in-Ok-Line.field-0-is at c.in-Ok-Line.ensures.line in
    rw (← c.self.view_is) (tell_fault c.tell.result step.Line true mid old (g.F.Files.rest c.args.files.now) (g.F.Files.rest c.next_line.new.files)
    gives refl refl refl c.tell.ensures.fault)

pub returns-in-Ok-Line-clause-stands : goal.returns-in-Ok-Line-clause-stands
returns-in-Ok-Line-clause-stands g c =
    let mid : ReaderState = record {
      cutter = c.next_line.new.self;
      number = c.self.inside.number;
      bytes = c.self.inside.bytes;
      key = slice_range c.next_line.new.self.line 0 0;
      count = 0;
      fault = c.self.inside.fault;
    } in
    let old : ReaderState = record {
      cutter = c.self.inside.cutter;
      number = c.self.inside.number;
      bytes = c.self.inside.bytes;
      key = slice_range c.self.inside.cutter.line c.self.inside.key_start c.self.inside.key_end;
      count = c.self.inside.count;
      fault = c.self.inside.fault;
    } in
    let gives = rw c.in-Ok-Line.field-0-is at c.in-Ok-Line.ensures.line in
    rw (← c.self.view_is) (tell_stands c.tell.result step.Line true mid old c.tell.new.self (g.F.Files.rest c.args.files.now)
    (g.F.Files.rest c.next_line.new.files)
    gives refl (given_bytes c.next_line.new.self.line c.in-Ok-Line.ensures.given.short) refl refl refl c.tell.ensures.moved)

pub returns-in-Ok-Line-clause-frugal : goal.returns-in-Ok-Line-clause-frugal
returns-in-Ok-Line-clause-frugal g c =
    let old : ReaderState = record {
      cutter = c.self.inside.cutter;
      number = c.self.inside.number;
      bytes = c.self.inside.bytes;
      key = slice_range c.self.inside.cutter.line c.self.inside.key_start c.self.inside.key_end;
      count = c.self.inside.count;
      fault = c.self.inside.fault;
    } in
    let gives = rw c.in-Ok-Line.field-0-is at c.in-Ok-Line.ensures.line in
    let given = rw c.in-Ok-Line.field-0-is at c.in-Ok-Line.ensures.given in
    rw (← c.self.view_is) (tell_frugal c.tell.result step.Line old c.next_line.new.self (g.F.Files.rest c.args.files.now)
    (g.F.Files.rest c.next_line.new.files) gives given.room c.tell.ensures.line)

pub returns-in-Ok-LastLine-clause-comes : goal.returns-in-Ok-LastLine-clause-comes
returns-in-Ok-LastLine-clause-comes g c =
    let mid : ReaderState = record {
      cutter = c.next_line.new.self;
      number = c.self.inside.number;
      bytes = c.self.inside.bytes;
      key = slice_range c.next_line.new.self.line 0 0;
      count = 0;
      fault = c.self.inside.fault;
    } in
    let old : ReaderState = record {
      cutter = c.self.inside.cutter;
      number = c.self.inside.number;
      bytes = c.self.inside.bytes;
      key = slice_range c.self.inside.cutter.line c.self.inside.key_start c.self.inside.key_end;
      count = c.self.inside.count;
      fault = c.self.inside.fault;
    } in
    let gives = rw c.in-Ok-LastLine.field-0-is at c.in-Ok-LastLine.ensures.line in
    rw (← c.self.view_is) (tell_comes c.tell-in-Ok-LastLine.result step.LastLine false mid old c.tell-in-Ok-LastLine.new.self
    (g.F.Files.rest c.args.files.now) (g.F.Files.rest c.next_line.new.files)
    gives refl refl refl c.tell-in-Ok-LastLine.ensures.story c.tell-in-Ok-LastLine.ensures.moved)

pub returns-in-Ok-LastLine-clause-fault : goal.returns-in-Ok-LastLine-clause-fault
returns-in-Ok-LastLine-clause-fault g c =
    let mid : ReaderState = record {
      cutter = c.next_line.new.self;
      number = c.self.inside.number;
      bytes = c.self.inside.bytes;
      key = slice_range c.next_line.new.self.line 0 0;
      count = 0;
      fault = c.self.inside.fault;
    } in
    let old : ReaderState = record {
      cutter = c.self.inside.cutter;
      number = c.self.inside.number;
      bytes = c.self.inside.bytes;
      key = slice_range c.self.inside.cutter.line c.self.inside.key_start c.self.inside.key_end;
      count = c.self.inside.count;
      fault = c.self.inside.fault;
    } in
    let gives = rw c.in-Ok-LastLine.field-0-is at c.in-Ok-LastLine.ensures.line in
    rw (← c.self.view_is) (tell_fault c.tell-in-Ok-LastLine.result step.LastLine false mid old (g.F.Files.rest c.args.files.now)
    (g.F.Files.rest c.next_line.new.files)
    gives refl refl refl c.tell-in-Ok-LastLine.ensures.fault)

pub returns-in-Ok-LastLine-clause-stands : goal.returns-in-Ok-LastLine-clause-stands
returns-in-Ok-LastLine-clause-stands g c =
    let mid : ReaderState = record {
      cutter = c.next_line.new.self;
      number = c.self.inside.number;
      bytes = c.self.inside.bytes;
      key = slice_range c.next_line.new.self.line 0 0;
      count = 0;
      fault = c.self.inside.fault;
    } in
    let old : ReaderState = record {
      cutter = c.self.inside.cutter;
      number = c.self.inside.number;
      bytes = c.self.inside.bytes;
      key = slice_range c.self.inside.cutter.line c.self.inside.key_start c.self.inside.key_end;
      count = c.self.inside.count;
      fault = c.self.inside.fault;
    } in
    let gives = rw c.in-Ok-LastLine.field-0-is at c.in-Ok-LastLine.ensures.line in
    rw (← c.self.view_is) (tell_stands c.tell-in-Ok-LastLine.result step.LastLine false mid old c.tell-in-Ok-LastLine.new.self
    (g.F.Files.rest c.args.files.now) (g.F.Files.rest c.next_line.new.files)
    gives refl (given_bytes_last c.next_line.new.self.line c.in-Ok-LastLine.ensures.given.short) refl refl refl c.tell-in-Ok-LastLine.ensures.moved)

pub returns-in-Ok-LastLine-clause-frugal : goal.returns-in-Ok-LastLine-clause-frugal
returns-in-Ok-LastLine-clause-frugal g c =
    let old : ReaderState = record {
      cutter = c.self.inside.cutter;
      number = c.self.inside.number;
      bytes = c.self.inside.bytes;
      key = slice_range c.self.inside.cutter.line c.self.inside.key_start c.self.inside.key_end;
      count = c.self.inside.count;
      fault = c.self.inside.fault;
    } in
    let gives = rw c.in-Ok-LastLine.field-0-is at c.in-Ok-LastLine.ensures.line in
    let given = rw c.in-Ok-LastLine.field-0-is at c.in-Ok-LastLine.ensures.given in
    rw (← c.self.view_is) (tell_frugal c.tell-in-Ok-LastLine.result step.LastLine old c.next_line.new.self (g.F.Files.rest c.args.files.now)
    (g.F.Files.rest c.next_line.new.files) gives given.room c.tell-in-Ok-LastLine.ensures.line)

pub returns-in-Ok-End-clause-frugal : goal.returns-in-Ok-End-clause-frugal
returns-in-Ok-End-clause-frugal g c =
    let old : ReaderState = record {
      cutter = c.self.inside.cutter;
      number = c.self.inside.number;
      bytes = c.self.inside.bytes;
      key = slice_range c.self.inside.cutter.line c.self.inside.key_start c.self.inside.key_end;
      count = c.self.inside.count;
      fault = c.self.inside.fault;
    } in
    let gives = rw c.in-Ok-End.field-0-is at c.in-Ok-End.ensures.line in
    let given = rw c.in-Ok-End.field-0-is at c.in-Ok-End.ensures.given in
    rw (← c.self.view_is) (tell_frugal c.end.result step.End old c.next_line.new.self (g.F.Files.rest c.args.files.now)
    (g.F.Files.rest c.next_line.new.files) gives given.room c.end.ensures.line)

pub returns-in-Err-TooLong-clause-frugal : goal.returns-in-Err-TooLong-clause-frugal
returns-in-Err-TooLong-clause-frugal g c =
    let old : ReaderState = record {
      cutter = c.self.inside.cutter;
      number = c.self.inside.number;
      bytes = c.self.inside.bytes;
      key = slice_range c.self.inside.cutter.line c.self.inside.key_start c.self.inside.key_end;
      count = c.self.inside.count;
      fault = c.self.inside.fault;
    } in
    rw (← c.self.view_is) (λ text s. long_frugal (line_of c.long_line-fault.result) text old c.next_line.new.self (g.F.Files.rest c.args.files.now)
    (g.F.Files.rest c.next_line.new.files)
    (c.in-Err-TooLong.ensures.long_left (ap Err c.in-Err-TooLong.field-0-is)) c.in-Err-TooLong.ensures.within c.long_line-fault.ensures.line s)

pub returns-in-Ok-Line-clause-names : goal.returns-in-Ok-Line-clause-names
returns-in-Ok-Line-clause-names g c =
    said_names c.tell.result _ c.self.inside.number (c.next_line.new.self.line, true) c.self.invariant.0.first c.tell.ensures.fault

pub returns-in-Ok-LastLine-clause-names : goal.returns-in-Ok-LastLine-clause-names
returns-in-Ok-LastLine-clause-names g c =
    said_names c.tell-in-Ok-LastLine.result _ c.self.inside.number (c.next_line.new.self.line, false) c.self.invariant.0.first
    c.tell-in-Ok-LastLine.ensures.fault
