-- Where reading an open file ends.
use Rattle.std.proofs.Common.{◌≡◌, refl, ap, ◌∙◌, Err, rules}
use Rattle.std.specs.Prelude.{option_copied}
use Rattle.std.proofs.lemmas.Result.{IfErr-weaker, on_ok_weaker}
use Rattle.command_ending.specs.Stops.{cannot_read, wants_memory}
use Rattle.cov_dat.specs.Streaming.{reading_left}
use Rattle.cov_dat.specs.declared.fault.DataFault.TheVariants as fault
use Rattle.command_cover.proofs.OpenLemmas.{first_fault, if_text, read_rose, stands_first}
use Rattle.command_cover.proofs.SparingLemmas.{fault_spares}
use Rattle.cover_answer.specs.Gathering.{keeps}
use Rattle.cover_gather.proofs.OpenLemmas.{end_stops, fault_stops, goes_first, goes_last, goes_next, limit_stops, text_fault}
use Rattle.cover_gather.proofs.StepLemmas.{limit_is_no_line}
use Rattle.cover_gather.proofs.reading.add_open.Goals as goal

pub records-init : goal.records-init
records-init g c = record {
  goes = goes_first (keeps (option_copied c.args.filter)) c.args.ranks c.args.name.now c.args.tally.now (g.F.Files.rest c.args.files.now) _ c.in-Ok.ensures;
  stands = stands_first (g.F.Files.rest c.args.files.now) _ c.in-Ok.ensures;
  line = refl;
  no_fault = rw c.in-Ok.ensures refl;
  held = refl;
  faults = refl;
}

pub returns-in-Err-clause-err : goal.returns-in-Err-clause-err
returns-in-Err-clause-err g c = wants_memory refl

pub returns-in-Err-add_record-clause-err : goal.returns-in-Err-add_record-clause-err
returns-in-Err-add_record-clause-err g c =
    limit_stops (keeps (option_copied c.args.filter)) c.args.ranks (g.F.Files.held c.args.files.now) c.args.name.now (g.F.Files.rest c.args.files.now)
    c.args.tally.now c.records.tally
    _ _ _ (reading_left c.next_record.new.self (g.F.Files.rest c.next_record.new.files)) (g.F.Files.faults c.args.files.now)
    (g.F.Files.faults c.next_record.new.files)
    c.in-Err-add_record.ending c.requires.opened (c.in-Ok-Record.ensures.ok_quiet ∙ c.records.invariant.faults)
    (rw c.in-Ok-Record.field-0-is at c.in-Ok-Record.ensures.step) c.records.invariant.goes
    (rw (c.key.ensures, c.count.ensures) at c.in-Err-add_record.ensures.err)

pub returns-in-Err-add_record-clause-sparing : goal.returns-in-Err-add_record-clause-sparing
returns-in-Err-add_record-clause-sparing g c = λ bad.
    absurd (limit_is_no_line c.args.ranks c.records.tally _ c.in-Err-add_record.ending c.in-Err-add_record.ensures.err bad)

pub records-preserved : goal.records-preserved
records-preserved g c =
    let left = g.F.Files.rest c.args.files.now in
    record {
      goes = goes_next (keeps (option_copied c.args.filter)) c.args.ranks c.args.name.now left c.args.tally.now c.records.tally c.add_record.new.tally _ _ _
          (reading_left c.next_record.new.self (g.F.Files.rest c.next_record.new.files)) (rw c.in-Ok-Record.field-0-is at c.in-Ok-Record.ensures.step)
          (rw (c.key.ensures, c.count.ensures) at c.in-Ok-add_record.ensures.ok) c.records.invariant.goes;
      stands = if_text left _ _ (λ text on. c.in-Ok-Record.ensures.stands text on) c.records.invariant.stands;
      line = c.records.invariant.line;
      no_fault = c.in-Ok-Record.ensures.goes_on;
      held = c.in-Ok-Record.ensures.held ∙ c.records.invariant.held;
      faults = c.in-Ok-Record.ensures.ok_quiet ∙ c.records.invariant.faults;
    }

pub returns-in-Ok-End : goal.returns-in-Ok-End
returns-in-Ok-End g c =
    let keep = keeps (option_copied c.args.filter) in
    let told = g.F.Files.held c.args.files.now in
    let left = g.F.Files.rest c.args.files.now in
    let after = reading_left c.next_record.new.self (g.F.Files.rest c.next_record.new.files) in
    let quiet = c.in-Ok-End.ensures.ok_quiet ∙ c.records.invariant.faults in
    let step = rw c.in-Ok-End.field-0-is at c.in-Ok-End.ensures.step in
    record {
      ok = on_ok_weaker c.end_file.result
          (λ one. goes_last keep c.args.ranks told c.args.name.now left c.args.tally.now c.records.tally c.end_file.new.tally c.next_record.new.self.key
          c.next_record.new.self.count _ after c.requires.opened step
          one c.records.invariant.goes) c.end_file.ensures.ok;
      ok_quiet = on_ok_weaker c.end_file.result (λ one. quiet) c.end_file.ensures.ok;
      err = IfErr-weaker c.end_file.result _ _
          (λ e is. end_stops keep c.args.ranks told c.args.name.now left c.args.tally.now c.records.tally c.next_record.new.self.key
          c.next_record.new.self.count _ after (g.F.Files.faults c.args.files.now)
          (g.F.Files.faults c.next_record.new.files) e c.requires.opened quiet step c.records.invariant.goes is) c.end_file.ensures.err;
      sparing = IfErr-weaker c.end_file.result _ _ (λ e is bad. absurd (limit_is_no_line c.args.ranks c.records.tally _ e is bad)) c.end_file.ensures.err;
      held = c.in-Ok-End.ensures.held ∙ c.records.invariant.held;
    }

pub returns-in-Err-Failed-clause-err : goal.returns-in-Err-Failed-clause-err
returns-in-Err-Failed-clause-err g c =
    cannot_read c.args.name.now c.records.line refl (c.records.invariant.line ∙ c.requires.line)
    (rw c.records.invariant.faults at
    (read_rose c.records.reader.fault (g.F.Files.faults c.records.files) (g.F.Files.faults c.next_record.new.files) c.records.invariant.no_fault
    (c.in-Err-Failed.ensures.failed (ap Err c.in-Err-Failed.field-0-is))))

pub returns-in-Err-next_record : goal.returns-in-Err-next_record
returns-in-Err-next_record g c =
    let other : c.in-Err-next_record.fault ≡ fault.Failed → ⊥ = search rules in
    let before = reading_left c.records.reader (g.F.Files.rest c.records.files) in
    let left = g.F.Files.rest c.args.files.now in
    let keep = keeps (option_copied c.args.filter) in
    record {
      ok = tt;
      ok_quiet = tt;
      err = fault_stops keep c.args.ranks (g.F.Files.held c.args.files.now) c.args.name.now left c.args.tally.now c.records.tally before
          (g.F.Files.faults c.args.files.now)
          (g.F.Files.faults c.next_record.new.files) c.in-Err-next_record.fault c.refusal_of.result c.requires.opened
          (c.in-Err-next_record.ensures.fault_quiet other ∙ c.records.invariant.faults) c.in-Err-next_record.ensures.fault other
          (first_fault c.records.reader.fault c.in-Err-next_record.fault c.records.invariant.no_fault c.in-Err-next_record.ensures.names)
          c.records.invariant.goes c.refusal_of.ensures;
      sparing = fault_spares c.args.name.now left (g.F.Files.rest c.records.files) (g.F.Files.rest c.next_record.new.files) c.records.reader
          c.in-Err-next_record.fault c.refusal_of.result
          (text_fault keep c.args.ranks c.args.name.now left c.args.tally.now c.records.tally before c.in-Err-next_record.fault
          c.in-Err-next_record.ensures.fault other c.records.invariant.goes)
          c.records.invariant.stands c.in-Err-next_record.ensures.frugal c.refusal_of.ensures;
      held = c.in-Err-next_record.ensures.held ∙ c.records.invariant.held;
    }
