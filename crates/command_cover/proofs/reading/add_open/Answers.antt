-- Where reading an open file ends.
use Rattle.std.proofs.Common.{◌≡◌, refl, ap, ◌∙◌, Err, rules}
use Rattle.command_ending.specs.Stops.{cannot_read, wants_memory}
use Rattle.cov_dat.specs.Streaming.{reading_left}
use Rattle.cov_dat.specs.declared.fault.DataFault.TheVariants as fault
use Rattle.command_cover.proofs.OpenLemmas.{fault_stops, first_fault, goes_first, limit_stops, read_rose, stands_first, text_fault}
use Rattle.command_cover.proofs.SparingLemmas.{fault_spares, limit_is_no_line}
use Rattle.command_cover.proofs.reading.add_open.Goals as goal

pub records-init : goal.records-init
records-init g c = record {
  goes = goes_first c.args.name.now c.args.merged.now (g.F.Files.rest c.args.files.now) _ c.in-Ok.ensures;
  stands = stands_first (g.F.Files.rest c.args.files.now) _ c.in-Ok.ensures;
  line = refl;
  no_fault = rw c.in-Ok.ensures refl;
  held = refl;
  faults = refl;
}

pub returns-in-Err-clause-err : goal.returns-in-Err-clause-err
returns-in-Err-clause-err g c = wants_memory refl

pub returns-in-Err-add-clause-err : goal.returns-in-Err-add-clause-err
returns-in-Err-add-clause-err g c =
    limit_stops (g.F.Files.held c.args.files.now) c.args.name.now (g.F.Files.rest c.args.files.now) c.args.merged.now c.records.merged _ _
    (reading_left c.records.reader (g.F.Files.rest c.records.files)) _ (g.F.Files.faults c.args.files.now) (g.F.Files.faults c.next_record.new.files)
    c.in-Err-add.fault c.limit_of.result c.requires.opened (c.in-Ok-Record.ensures.ok_quiet ∙ c.records.invariant.faults)
    (rw c.in-Ok-Record.field-0-is at c.in-Ok-Record.ensures.step)
    (λ limit same. rw (c.key.ensures, c.count.ensures) at (c.in-Err-add.ensures.limit limit (ap Err same)))
    c.records.invariant.goes c.limit_of.ensures

pub returns-in-Err-add-clause-sparing : goal.returns-in-Err-add-clause-sparing
returns-in-Err-add-clause-sparing g c = λ bad. absurd (limit_is_no_line c.in-Err-add.fault c.limit_of.result c.limit_of.ensures bad)

pub returns-in-Err-Failed-clause-err : goal.returns-in-Err-Failed-clause-err
returns-in-Err-Failed-clause-err g c =
    cannot_read c.args.name.now c.records.line refl (c.records.invariant.line ∙ c.requires.line)
    (rw c.records.invariant.faults at
    (read_rose c.records.reader.fault (g.F.Files.faults c.records.files) (g.F.Files.faults c.next_record.new.files) c.records.invariant.no_fault
    (c.in-Err-Failed.ensures.failed (ap Err c.in-Err-Failed.field-0-is))))

pub returns-in-Err-next_record : goal.returns-in-Err-next_record
returns-in-Err-next_record g c =
    let other : c.in-Err-next_record.fault ≡ fault.Failed → ⊥ = search rules in
    let before = reading_left c.records.reader (g.F.Files.rest c.records.files) in
    let left = g.F.Files.rest c.args.files.now in
    record {
      ok = tt;
      ok_quiet = tt;
      err = fault_stops (g.F.Files.held c.args.files.now) c.args.name.now left c.args.merged.now c.records.merged before (g.F.Files.faults c.args.files.now)
          (g.F.Files.faults c.next_record.new.files) c.in-Err-next_record.fault c.refusal_of.result c.requires.opened
          (c.in-Err-next_record.ensures.fault_quiet other ∙ c.records.invariant.faults) c.in-Err-next_record.ensures.fault other
          (first_fault c.records.reader.fault c.in-Err-next_record.fault c.records.invariant.no_fault c.in-Err-next_record.ensures.names)
          c.records.invariant.goes c.refusal_of.ensures;
      sparing = fault_spares c.args.name.now left (g.F.Files.rest c.records.files) (g.F.Files.rest c.next_record.new.files) c.records.reader
          c.in-Err-next_record.fault c.refusal_of.result
          (text_fault c.args.name.now left c.args.merged.now c.records.merged before c.in-Err-next_record.fault c.in-Err-next_record.ensures.fault other
          c.records.invariant.goes)
          c.records.invariant.stands c.in-Err-next_record.ensures.frugal c.refusal_of.ensures;
      held = c.in-Err-next_record.ensures.held ∙ c.records.invariant.held;
    }
